-- The files so far have told their hands, and their numbers are added.
use Rattle.std.proofs.Common.{◌≡◌, ℕ, List}
use Rattle.std.specs.Prelude.{sum}
use Rattle.lh_file.specs.History.Telling.{HasTold}
use Rattle.lh_shards.specs.Counts.{capped}
use Rattle.lh_shards.proofs.Counting.{SoFar}
use Rattle.lh_shards.proofs.shards.SizedShards.acts.Given as goal

abbrev pub invariant-loop-place : goal.invariant-loop-place
invariant-loop-place g l = record {
  terms : List ℕ;
  so_far : SoFar (HasTold g.M.Mode.traced) l.self l.fn.hands l.place terms l.hands-inside.hands.items;
  total : l.total ≡ capped (sum terms);
}
