use Rattle.std.proofs.Common.{◌≡◌, take}
use Rattle.lh_file.proofs.buckets.copied.copied_pairs.Given as goal

abbrev pub invariant-loop-place : goal.invariant-loop-place
invariant-loop-place g l = l.pairs.items ≡ take l.place l.bucket.pairs
