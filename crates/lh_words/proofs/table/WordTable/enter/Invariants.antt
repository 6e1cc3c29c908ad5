use Rattle.lh_bucket.specs.PlainMap.{key_of}
use Rattle.lh_words.specs.Seats.{met_in}
use Rattle.lh_words.proofs.table.WordTable.enter.Given as goal

abbrev pub ghosts-enter_deed : goal.ghosts-enter_deed
ghosts-enter_deed g a =
    record {
      call = g.A.Stamped.call a._act.now;
      reply = g.A.Stamped.reply a._act.now;
      was = met_in a._perch.now.view.parts (key_of (g.A.Stamped.call a._act.now));
      bucket = g.A.Stamped.bucket a._act.now;
    }
