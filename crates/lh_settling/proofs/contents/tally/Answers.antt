use Rattle.std.proofs.Common.{◌≡◌, ◌≢◌, ◌+◌, ◌∙◌, ◌++◌, ◌∷◌, [], Some, append_assoc, sym, ap, subst, take}
use Rattle.std.specs.Bool.{OnTrue, OnFalse}
use Rattle.std.specs.FinMap.{get}
use Rattle.std.proofs.lemmas.List.{take_more}
use Rattle.lh_bucket.specs.declared.call.Call.TheVariants.{Delete}
use Rattle.lh_bucket.specs.PlainMap.{Records, after}
use Rattle.lh_settling.specs.Tally.{IsTally}
use Rattle.lh_settling.proofs.Tallies.{same_more, stray_more}
use Rattle.lh_settling.proofs.contents.tally.Goals as goal
use Rattle.lh_settling.proofs.contents.tally.Goals.{then-not-is_value, else-not-is_value}

pub loop-pair-preserved : goal.loop-pair-preserved
loop-pair-preserved c = λ m done t.
    let p = c.pair-item.result in
    let n = c.loop-pair.pair-index in
    let before = done ++ take n c.args.pairs.now in
    let old = c.loop-pair.invariant m done t in
    let list : before ++ p ∷ [] ≡ done ++ take (n + 1) c.args.pairs.now =
    append_assoc done (take n c.args.pairs.now) (p ∷ [])
    ∙ ap (λ xs. done ++ xs) (ap (λ x. take n c.args.pairs.now ++ x ∷ []) c.pair-item.is
    ∙ sym (take_more c.args.pairs.now n p c.loop-pair-test.true)) in
    subst (λ ps. IsTally m ps c.take-found.new.self c.if-not-is_value.stray) list
    (subst (λ (left : Records). IsTally m (before ++ p ∷ []) left c.if-not-is_value.stray)
    (sym c.take-found.ensures.after)
    (elim c.if-not-is_value.branch [
      | then-not-is_value w ↦
          let differs : get c.loop-pair.records p.key ≢ Some p.value =
          λ e. subst
          (λ b. OnFalse b (c.take-found.result ≢ Some p.value)) w.if-not-is_value.true c.is_value.ensures.other
          (c.take-found.ensures.value ∙ e) in
          subst (IsTally m (before ++ p ∷ []) (after c.loop-pair.records (Delete p.key))) (sym w.stray-is)
          (stray_more m before p c.loop-pair.records c.loop-pair.stray w.lesser.result differs
          (w.lesser.ensures.either, w.lesser.ensures.second, w.lesser.ensures.first) old)
      | else-not-is_value w ↦
          subst (IsTally m (before ++ p ∷ []) (after c.loop-pair.records (Delete p.key))) (sym w.stray-is)
          (same_more m before p c.loop-pair.records c.loop-pair.stray
          (sym c.take-found.ensures.value
          ∙ subst (λ b.
          OnTrue b (c.take-found.result ≡ Some p.value)) w.if-not-is_value.false c.is_value.ensures.same) old)
    ]))
