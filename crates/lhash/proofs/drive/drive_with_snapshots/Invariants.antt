use Rattle.std.proofs.Common.{true}
use Rattle.lhash.proofs.drive.drive_with_snapshots.Given as goal

abbrev pub ghosts-driven_in : goal.ghosts-driven_in
ghosts-driven_in g a = record { named = true; tables = λ shard. a.opening.table }
