use Rattle.std.proofs.Common.{◌∙◌, sym, subst}
use Rattle.lh_core.specs.Serial.{IsGrownAfter}
use Rattle.lh_core.proofs.OneCaller.Serving.{grown_maybe, not_grown}
use Rattle.lh_core.proofs.world.World.grow_after.Goals as goal
use Rattle.lh_core.proofs.world.World.grow_after.Goals.{then-wants, else-wants}

pub returns-clause-grown : goal.returns-clause-grown
returns-clause-grown g c =
    elim c.if-wants.branch [
      | then-wants w ↦
          subst
          (λ x. IsGrownAfter c.args.self.now c.count_after-count.result c.args.reply c.if-wants.split_refused x)
          (sym w.self-is)
          (grown_maybe c.args.self.now w.grow.new.self c.count_after-count.result c.args.reply w.grow.result
          c.if-wants.split_refused c.requires.rest (sym w.if-wants.true ∙ c.wants.ensures.value) w.grow.ensures.ok
          w.grow.ensures.err (w.split_refused-is ∙ w.is_err-split_refused.ensures.value))
      | else-wants w ↦
          subst
          (λ x. IsGrownAfter c.args.self.now c.count_after-count.result c.args.reply c.if-wants.split_refused x)
          (sym w.self-is)
          (not_grown c.args.self.now c.count_after-count.result c.args.reply c.if-wants.split_refused c.requires.rest
          (sym w.if-wants.false ∙ c.wants.ensures.value) (w.split_refused-is ∙ w.if-wants.false))
    ]
