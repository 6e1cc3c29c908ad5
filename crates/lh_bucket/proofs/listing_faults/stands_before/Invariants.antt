use Rattle.std.proofs.Common.{◌≢◌, ℕ, ◌<◌}
use Rattle.lh_page.specs.Records.{key_at}
use Rattle.lh_bucket.proofs.listing_faults.stands_before.Given as goal

abbrev pub invariant-loop-earlier : goal.invariant-loop-earlier
invariant-loop-earlier l = (e : ℕ) → e < l.earlier → key_at l.pairs e ≢ key_at l.pairs l.place
