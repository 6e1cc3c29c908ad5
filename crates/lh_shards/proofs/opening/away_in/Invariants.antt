-- The records so far belong to the shard.
use Rattle.std.proofs.Common.{ℕ, ◌<◌}
use Rattle.lh_shards.specs.Opening.{IsHomeIn}
use Rattle.lh_shards.proofs.opening.away_in.Given as goal

abbrev pub invariant-loop-place : goal.invariant-loop-place
invariant-loop-place l = (p : ℕ) → p < l.place → IsHomeIn l.shards l.shard 0 l.pairs p
