use Rattle.std.proofs.KnownBytes.{Keeps-refl}
use Rattle.lhash.proofs.Serving.{performed_on_whole}
use Rattle.lhash.proofs.program.serve_on.Goals as goal

pub returns-in_default : goal.returns-in_default
returns-in_default g c =
    performed_on_whole c.args.notation c.args.is_terminal c.args.request c.in_default.not-Query c.in_default.not-Apply
    c.in_default.not-ServeImage _ _ _ _ _ _ _ c.serve.ensures (Keeps-refl _)
