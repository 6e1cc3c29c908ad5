use Rattle.std.proofs.Common.{◌∙◌, ap, map, sym, subst}
use Rattle.std.specs.List.Sorted.{IsPermutation}
use Rattle.std.proofs.lemmas.List.{take_all}
use Rattle.lh_settling.proofs.Orders.{act_at, stamped, place_below, placed_more, in_order}
use Rattle.lh_settling.proofs.order.in_order.Goals as goal

pub act_at-requires : goal.act_at-requires
act_at-requires c =
    place_below c.args.acts.now c.deref-place-items.result.now c.loop-place.place-index (0, 0)
    (subst (IsPermutation (stamped c.args.acts.now))
    (sym c.deref-place-items.ensures.value) c.in_ok-places.ensures.same) c.loop-place-test.true

pub loop-place-preserved : goal.loop-place-preserved
loop-place-preserved c =
    c.in_ok-push.ensures.items
    ∙ placed_more c.args.acts.now c.deref-place-items.result.now c.loop-place.history.items c.loop-place.place-index
    (0, 0) c.act_at.result c.loop-place-test.true c.act_at.ensures c.loop-place.invariant

pub returns : goal.returns
returns c =
    in_order c.args.acts.now c.in_ok-places.places.items c.loop-place.history.items c.in_ok-places.ensures.same
    c.in_ok-places.ensures.rising
    (c.loop-place.invariant ∙ ap (map (act_at c.args.acts.now))
    (take_all c.loop-place.place-index c.deref-place-items.result.now c.loop-place-test.false
    ∙ c.deref-place-items.ensures.value))
