use Rattle.std.proofs.Common.{◌≡◌, ℕ, ◌+◌, ◌<◌, Bool, not, ◌||◌, List, ◌++◌, length, take, drop, get_or, sym, ◌∙◌}
use Rattle.std.proofs.Common.{arith}
use Rattle.std.specs.List.{list_any}
use Rattle.std.specs.Str.{bytes_eq}
use Rattle.std.proofs.lemmas.List.{get_or_default}
use Rattle.lh_page.specs.declared.pair.Pair.{Pair}
use Rattle.lh_page.specs.Records.{keys_of, no_pair}
use Rattle.lh_image.specs.Faults.{misfits}
use Rattle.lh_image.specs.Misplaced.{is_home}
use Rattle.lh_image.proofs.Judging.Misplacing.{misfit_step, misfit_end, keys_more, then_true, else_same}
use Rattle.lh_image.proofs.judge.misplaced.has_misfit.Goals as goal
use Rattle.lh_image.proofs.judge.misplaced.has_misfit.Goals.{then-branch, else-branch}

pub loop-pair-preserved : goal.loop-pair-preserved
loop-pair-preserved c =
    let rs : List Pair = c.args.pairs.now in
    let i : ℕ = c.loop-pair.pair-index in
    let r : Pair = c.pair-item.result in
    let home : List ℕ → Bool = is_home c.args.root.now c.args.bucket in
    let less : i < length rs = omega arith in
    let is : get_or rs i no_pair ≡ r = get_or_default rs i no_pair r less ∙ sym c.pair-item.is in
    record {
      known =
          λ before set.
          rw (keys_more before rs i r less is) at
          (c.in_ok-is_misfit.ensures.known (before ++ keys_of (take i rs)) (c.loop-pair.invariant.known before set));
      value = λ before set.
          let came : List (List ℕ) = before ++ keys_of (take i rs) in
          let rest : Bool = misfits home (before ++ keys_of (take (i + 1) rs)) (drop (i + 1) rs) in
          let here : Bool = not (home r.key) || list_any (bytes_eq r.key) came in
          let is_here : c.in_ok-is_misfit.field-0 ≡ here =
          c.in_ok-is_misfit.ensures.value came (c.loop-pair.invariant.known before set) in
          let total : ((c.loop-pair.misfit || here) || rest) ≡ misfits home before rs =
          sym (misfit_step home before rs i r c.loop-pair.misfit less is)
          ∙ c.loop-pair.invariant.value before set in
          elim c.if-branch.branch [
            | then-branch w ↦
                rw w.misfit-is
                (then_true c.loop-pair.misfit here rest (misfits home before rs) (sym is_here ∙ w.if-branch.true) total)
            | else-branch w ↦
                rw w.misfit-is
                (else_same c.loop-pair.misfit here rest (misfits home before rs) (sym is_here ∙ w.if-branch.false)
                total)
          ];
    }

pub returns-clause-value : goal.returns-clause-value
returns-clause-value c before set =
    misfit_end (is_home c.args.root.now c.args.bucket) before c.args.pairs.now c.loop-pair.pair-index c.loop-pair.misfit
    (misfits (is_home c.args.root.now c.args.bucket) before c.args.pairs.now)
    (omega arith) (c.loop-pair.invariant.value before set)
