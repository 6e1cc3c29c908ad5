use Rattle.std.proofs.Common.{map}
use Rattle.lh_core.proofs.Worlds.Stepping.{after_turn}
use Rattle.lh_core.proofs.world.World.turn.Goals as goal

pub invariant_of-self : goal.invariant_of-self
invariant_of-self g c =
    after_turn c.self.inside.control c.turn.new.self (map g.B.Bucket.seen c.self.inside.buckets.items)
    c.linear_hashing.ensures c.args.event c.turn.result c.self.invariant.0 c.self.invariant.1 c.turn.ensures.keeps
    c.turn.ensures.filled c.turn.ensures.value c.turn.ensures.err
