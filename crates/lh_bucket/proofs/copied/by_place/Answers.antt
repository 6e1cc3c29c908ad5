use Rattle.std.proofs.Common.{◌<◌, length, ◌∙◌, arith}
use Rattle.std.proofs.lemmas.List.{take_all}
use Rattle.lh_bucket.proofs.Copies.{copied_more}
use Rattle.lh_bucket.proofs.copied.by_place.Goals as goal

pub loop-place-preserved : goal.loop-place-preserved
loop-place-preserved g c = λ all long each.
    let here : c.loop-place.place < length all = omega (arith, c.loop-place-test.true, long) in
    copied_more {more = c.push.new.self.items} all c.loop-place.place c.pair_at.result here
    (each c.loop-place.place c.pair_at.result c.loop-place-test.true c.pair_at.ensures)
    (c.loop-place.invariant all long each) c.in_ok-push.ensures.items

pub returns : goal.returns
returns g c = λ all long each.
    c.loop-place.invariant all long each
    ∙ take_all c.loop-place.place all (omega (arith, c.loop-place-test.false, long))
