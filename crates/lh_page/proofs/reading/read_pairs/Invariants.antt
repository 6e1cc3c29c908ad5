use Rattle.lh_page.proofs.ReadPages.{IsReadTo}
use Rattle.lh_page.proofs.reading.read_pairs.Given as goal

abbrev pub invariant-loop-place : goal.invariant-loop-place
invariant-loop-place l = IsReadTo l.fn.format l.bytes l.pairs l.place
