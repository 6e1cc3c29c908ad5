use Rattle.std.proofs.Common.{ℕ, ◌<◌}
use Rattle.lh_page.specs.Records.{key_at, value_at}
use Rattle.lh_page.specs.Slots.{FitsRoom}
use Rattle.lh_bucket_tests.proofs.tests.listings.all_fit.Given as goal

abbrev pub invariant-loop-pair : goal.invariant-loop-pair
invariant-loop-pair g l = (i : ℕ) → i < l.pair-index → FitsRoom g.row.ROOM (key_at l.pairs i) (value_at l.pairs i)
