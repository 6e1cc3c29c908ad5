use Rattle.std.specs.Prelude.{true}
use Rattle.lh_history_tests.proofs.tests.memory.ten_of.Given as goal

abbrev pub ghosts-ten : goal.ghosts-ten
ghosts-ten g a = record { named = true; tables = λ shard. a.opening.table }
