use Rattle.std.proofs.Common.{length, map}
use Rattle.std.specs.Sync.RwLock.{read_guard_value}
use Rattle.lh_file.proofs.OfSnapshots.Held.{AreBucketsTo}
use Rattle.lh_file.proofs.snapshots.held.check_held.Given as goal

abbrev pub invariant-loop-place : goal.invariant-loop-place
invariant-loop-place g l = AreBucketsTo l.config (length l.guards) (map read_guard_value l.guards) l.place
