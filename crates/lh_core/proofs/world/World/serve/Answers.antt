use Rattle.std.proofs.Common.{map, subst}
use Rattle.lh_core.specs.Control.{world_of}
use Rattle.lh_core.specs.Serial.{IsServedAlone}
use Rattle.lh_core.proofs.OneCaller.Alone.{at_once}
use Rattle.lh_core.proofs.OneCaller.Serving.{served_grown}
use Rattle.lh_core.proofs.world.World.serve.Goals as goal

pub returns-clause-served : goal.returns-clause-served
returns-clause-served g c = λ m stands count.
    let control = c.self.inside.control in
    let row = map g.B.Bucket.seen c.self.inside.buckets.items in
    let rows = map g.B.Bucket.seen c.serve.new.buckets.items in
    served_grown c.args.self.now (world_of control rows) c.grow_after.new.self m c.args.call c.in_ok-reply.reply
    c.grow_after.result.reply c.args.records c.grow_after.result.records c.grow_after.result.split_refused
    (subst (λ v. IsServedAlone v c.args.call c.in_ok-reply.reply (world_of control rows)) c.self.view_is
    (at_once control row rows c.args.call c.aimed-act.result.call.now c.in_ok-reply.reply c.aimed-act.ensures.call
    c.in_ok-reply.ensures.reply c.in_ok-reply.ensures.stands))
    stands count c.grow_after.ensures.reply c.grow_after.ensures.count c.grow_after.ensures.grown
