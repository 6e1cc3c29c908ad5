use Rattle.std.proofs.Common.{None}
use Rattle.lh_words.specs.Seats.{unowned_bucket}
use Rattle.lh_words.proofs.table.WordTable.stamp.Given as goal

abbrev pub ghosts-stamp_deed : goal.ghosts-stamp_deed
ghosts-stamp_deed g a = let act = a._act.now in
    record { call = g.A.Stamped.call act; reply = g.A.Stamped.reply act; was = None; bucket = unowned_bucket }
