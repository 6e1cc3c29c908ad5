use Rattle.std.proofs.Common.{◌≡◌, ℕ, ◌<◌, take}
use Rattle.std.specs.List.{slice_get}
use Rattle.lh_bucket.specs.PlainMap.{replies, outcome}
use Rattle.lh_settling.specs.Acts.{calls_of, replies_of}
use Rattle.lh_settling.specs.Settled.{map_in}
use Rattle.lh_settling.proofs.replay.replay.Given as goal

abbrev pub invariant-loop-place : goal.invariant-loop-place
invariant-loop-place l = record {
  left : l.records ≡ outcome (map_in l.opening) (take l.place (calls_of l.history));
  same : (p : ℕ) → p < l.place
      → slice_get (replies_of l.history) p ≡ slice_get (replies (map_in l.opening) (calls_of l.history)) p;
}
