use Rattle.std.proofs.Common.{map, Some, Ok, subst, sym, ap, ◌∙◌}
use Rattle.lh_core.specs.declared.event.Event.TheVariants as event
use Rattle.lh_core.specs.State.{State}
use Rattle.lh_core.specs.Control.{world_of}
use Rattle.lh_core.specs.Kept.{IsBucketRow}
use Rattle.lh_core.specs.World.{IsStep}
use Rattle.lh_core.proofs.Worlds.Stepping.{moved, after_step}
use Rattle.lh_core.proofs.world.World.move_records.Goals as goal

pub returns-in-Ok-divide-clause-step : goal.returns-in-Ok-divide-clause-step
returns-in-Ok-divide-clause-step g c =
    let control = c.self.inside.control in
    let row = map g.B.Bucket.seen c.self.inside.buckets.items in
    let rows = map g.B.Bucket.seen c.divide.new.buckets.items in
    subst (λ v. IsStep v event.SplitMove (Ok c.in-Ok.effect) (world_of c.note_move.new.self rows)) c.self.view_is
    (moved control c.note_move.new.self row c.in-Ok.effect rows c.in-Ok.ensures.told c.note_move.ensures.keeps
    c.note_move.ensures.state c.in-Ok.ensures.allowed c.in-Ok-divide.ensures.stands)

pub invariant_of-self : goal.invariant_of-self
invariant_of-self g c =
    let control = c.self.inside.control in
    let row = map g.B.Bucket.seen c.self.inside.buckets.items in
    let rows = map g.B.Bucket.seen c.divide.new.buckets.items in
    after_step control c.note_move.new.self row c.linear_hashing.ensures rows event.SplitMove (Some c.in-Ok.effect)
    c.self.invariant.0 c.self.invariant.1 c.note_move.ensures.keeps
    (c.in-Ok.ensures.allowed ∙ ap (λ b. Ok (Some c.in-Ok.effect, b)) (sym c.note_move.ensures.state))
    (subst (λ n. IsBucketRow control.config n rows) (sym (ap (λ (z : State). z.filled) c.note_move.ensures.state))
    c.in-Ok-divide.ensures.row)
