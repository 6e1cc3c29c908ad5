use Rattle.std.proofs.Common.{true}
use Rattle.lh_store.proofs.open_store.SizedOpenStore+WIDEST_ROOM.run.Given as goal

abbrev pub ghosts-run_on : goal.ghosts-run_on
ghosts-run_on g a = record { is_named = true; state = a.file.now.state }
