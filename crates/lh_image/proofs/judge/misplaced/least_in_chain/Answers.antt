use Rattle.std.proofs.Common.{◌≡◌, ℕ, ◌<◌, List, ◌++◌, length, take, get_or, refl, sym, ap, ◌∙◌, arith}
use Rattle.std.specs.List.{flat_map}
use Rattle.std.proofs.lemmas.List.{append-nil, take_all}
use Rattle.lh_page.specs.declared.pair.Pair.{Pair}
use Rattle.lh_page.specs.Records.{keys_of}
use Rattle.lh_image.specs.Faults.{misfits}
use Rattle.lh_image.specs.Misplaced.{IsLeastAmong, is_home}
use Rattle.lh_image.specs.Table.{page_records}
use Rattle.lh_image.proofs.Judging.Misplacing.{chain_keys, pages_more, least_bad, least_sound}
use Rattle.lh_image.proofs.judge.misplaced.least_in_chain.Goals as goal
use Rattle.lh_image.proofs.judge.misplaced.least_in_chain.Goals.{then-branch, else-branch}

pub loop-page-init : goal.loop-page-init
loop-page-init c = record {
  known = λ k. rw c.new-came.ensures.empty refl;
  least = λ bad seen tests old. rw (append-nil seen) old;
}

pub loop-page-preserved : goal.loop-page-preserved
loop-page-preserved c =
    let chain : List ℕ = c.args.chain.now in
    let i : ℕ = c.loop-page.page-index in
    let rec : ℕ → List Pair = page_records c.args.table.now.entries.items c.args.table.now.pairs.items in
    let before : List (List ℕ) = keys_of (flat_map rec (take i chain)) in
    let less : i < length chain = omega arith in
    record {
      known =
          rw (chain_keys rec chain i (get_or chain i 0) c.records.result.now less refl c.records.ensures) at
          (c.in_ok-has_misfit.ensures.known before c.loop-page.invariant.known);
      least = λ bad seen tests old.
          let so_far : IsLeastAmong bad (seen ++ take i chain) c.loop-page.least =
          c.loop-page.invariant.least bad seen tests old in
          let here : c.in_ok-has_misfit.field-0 ≡
          misfits (is_home c.args.root.now c.args.bucket) before c.records.result.now =
          c.in_ok-has_misfit.ensures.value before c.loop-page.invariant.known in
          let test : bad (get_or chain i 0) ≡ c.in_ok-has_misfit.field-0 =
          tests i less ∙ ap (misfits (is_home c.args.root.now c.args.bucket) before) (sym c.records.ensures)
          ∙ sym here in
          rw (pages_more seen chain i less) (elim c.if-branch.branch [
            | then-branch w ↦
                rw (w.least-is, w.lesser.ensures)
                (least_bad bad (seen ++ take i chain) (get_or chain i 0) c.loop-page.least (test ∙ w.if-branch.true)
                so_far)
            | else-branch w ↦
                rw w.least-is
                (least_sound bad (seen ++ take i chain) (get_or chain i 0) c.loop-page.least (test ∙ w.if-branch.false)
                so_far)
          ]);
    }

pub returns-clause-least : goal.returns-clause-least
returns-clause-least c bad seen tests old =
    let all : take c.loop-page.page-index c.args.chain.now ≡ c.args.chain.now =
    take_all c.loop-page.page-index c.args.chain.now (omega arith) in
    rw all at (c.loop-page.invariant.least bad seen tests old)
