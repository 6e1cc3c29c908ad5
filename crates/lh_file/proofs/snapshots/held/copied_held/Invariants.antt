use Rattle.std.proofs.Common.{◌≡◌, ◌++◌, map, reverse, vec_len}
use Rattle.std.specs.Sync.RwLock.{read_guard_value}
use Rattle.lh_bucket.specs.Bucket.{Seen}
use Rattle.lh_file.proofs.snapshots.held.copied_held.Given as goal

-- what was copied, and what is left, are all
abbrev pub invariant-loop-guard : goal.invariant-loop-guard
invariant-loop-guard g l =
    map (λ v. v.items) l.lists.items ++ map (λ (b : Seen). b.pairs) (map read_guard_value (reverse l.guards.items))
    ≡ map (λ (b : Seen). b.pairs) (map read_guard_value l.fn.guards.items)

abbrev pub decreases-loop-guard : goal.decreases-loop-guard
decreases-loop-guard g l = vec_len l.guards
