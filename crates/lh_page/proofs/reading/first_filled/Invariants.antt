use Rattle.lh_page.specs.PageFields.{UnusedAreZero}
use Rattle.lh_page.proofs.reading.first_filled.Given as goal

abbrev pub invariant-loop-place : goal.invariant-loop-place
invariant-loop-place l = UnusedAreZero l.fn.format l.bytes l.fn.used l.place
