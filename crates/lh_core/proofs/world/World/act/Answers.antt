use Rattle.std.proofs.Common.{map, None, Ok, subst, sym, ap, ◌∙◌}
use Rattle.lh_addr.specs.Extent.{Extent}
use Rattle.lh_core.specs.declared.event.Event.TheVariants as event
use Rattle.lh_core.specs.declared.effect.Effect.TheVariants as effect
use Rattle.lh_core.specs.Control.{world_of}
use Rattle.lh_core.specs.Kept.{IsBucketRow}
use Rattle.lh_core.specs.World.{IsStep}
use Rattle.lh_core.proofs.Worlds.Stepping.{acted, after_step}
use Rattle.lh_core.proofs.world.World.act.Goals as goal

pub returns-in-Ok-serve-clause-step : goal.returns-in-Ok-serve-clause-step
returns-in-Ok-serve-clause-step g c =
    let control = c.self.inside.control in
    let row = map g.B.Bucket.seen c.self.inside.buckets.items in
    let rows = map g.B.Bucket.seen c.serve.new.buckets.items in
    subst
    (λ v.
    IsStep v (event.Act c.args.worker) (Ok (effect.Answered c.in-Ok-serve.reply))
    (world_of c.note_act.new.self rows)) c.self.view_is
    (acted control c.note_act.new.self row c.args.worker c.in-Ok.act c.in-Ok-serve.reply rows c.in-Ok.ensures.act
    c.note_act.ensures.keeps c.note_act.ensures.filled c.in-Ok.ensures.allowed
    (c.note_act.ensures.state c.in-Ok.act c.in-Ok.ensures.act) c.in-Ok-serve.ensures.reply
    c.in-Ok-serve.ensures.stands)

pub invariant_of-self : goal.invariant_of-self
invariant_of-self g c =
    let control = c.self.inside.control in
    let row = map g.B.Bucket.seen c.self.inside.buckets.items in
    let rows = map g.B.Bucket.seen c.serve.new.buckets.items in
    after_step control c.note_act.new.self row c.linear_hashing.ensures rows (event.Act c.args.worker) None
    c.self.invariant.0 c.self.invariant.1 c.note_act.ensures.keeps
    (c.in-Ok.ensures.allowed
    ∙ ap (λ b. Ok (None, b)) (sym (c.note_act.ensures.state c.in-Ok.act c.in-Ok.ensures.act)))
    (subst (λ (x : Extent). IsBucketRow control.config x.buckets rows) (sym c.note_act.ensures.filled)
    c.serve.ensures.row)
