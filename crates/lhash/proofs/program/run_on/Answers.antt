use Rattle.std.proofs.Common.{inl, inr, refl}
use Rattle.std.proofs.KnownBytes.{Keeps-refl}
use Rattle.lhash.proofs.program.run_on.Goals as goal

pub serve_on-requires : goal.serve_on-requires
serve_on-requires g c = (c.type_bounds.sync-A, c.in-Ok-request_of.ensures.servable)

pub returns-in-Ok-request_of : goal.returns-in-Ok-request_of
returns-in-Ok-request_of g c =
    inl (
      c.in-Ok-request_of.request,
      c.in-Ok-request_of.ensures.answers,
      (c.in-Ok.notation, c.in-Ok.ensures, c.serve_on.ensures),
    )

pub returns-in-Err : goal.returns-in-Err
returns-in-Err g c = inr (refl, Keeps-refl _, Keeps-refl _, Keeps-refl _)
