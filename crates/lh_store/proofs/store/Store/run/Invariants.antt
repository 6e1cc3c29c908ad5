use Rattle.std.proofs.Common.{true}
use Rattle.lh_store.proofs.store.Store.run.Given as goal

abbrev pub ghosts-run_from-J-FileBrand : goal.ghosts-run_from-J-FileBrand
ghosts-run_from-J-FileBrand g a = record { named = true; tables = λ shard. a.opening.table }

abbrev pub ghosts-run_from-B-SessionName : goal.ghosts-run_from-B-SessionName
ghosts-run_from-B-SessionName g a = record { is_named = true; state = a.opening }
