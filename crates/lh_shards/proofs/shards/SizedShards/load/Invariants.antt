-- The files so far have answered, and their numbers are added.
use Rattle.std.proofs.Common.{◌≡◌, List}
use Rattle.std.specs.Prelude.{sum_by}
use Rattle.lh_file.specs.Words.Calls.{IsLoadOf}
use Rattle.lh_file.specs.declared.words.load.Load.{Load}
use Rattle.lh_shards.specs.Counts.{capped}
use Rattle.lh_shards.proofs.Counting.{SoFar}
use Rattle.lh_shards.proofs.shards.SizedShards.load.Given as goal

abbrev pub invariant-loop-shard : goal.invariant-loop-shard
invariant-loop-shard g l = record {
  terms : List Load;
  so_far : SoFar IsLoadOf l.self l.fn.hands l.shard terms l.hands-inside.hands.items;
  same : l.hands-inside.hands.items ≡ l.fn.hands;
  opening : l.total.opening ≡ capped (sum_by (λ (term : Load). term.opening) terms);
  inserted : l.total.inserted ≡ capped (sum_by (λ (term : Load). term.inserted) terms);
  deleted : l.total.deleted ≡ capped (sum_by (λ (term : Load). term.deleted) terms);
}
