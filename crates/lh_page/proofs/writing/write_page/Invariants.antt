use Rattle.lh_page.proofs.WrittenPages.{IsPartlyWritten}
use Rattle.lh_page.proofs.writing.write_page.Given as goal

abbrev pub invariant-loop-place : goal.invariant-loop-place
invariant-loop-place l = IsPartlyWritten l.fn.format l.bytes l.page l.place
