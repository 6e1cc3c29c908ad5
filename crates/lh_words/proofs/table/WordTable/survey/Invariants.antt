use Rattle.lh_words.proofs.table.WordTable.survey.Given as goal

abbrev pub ghosts-tell : goal.ghosts-tell
ghosts-tell g a = record { listing = a.self.now.listing }
