use Rattle.lh_words.proofs.table.WordTable.move_split.Given as goal

abbrev pub ghosts-cut : goal.ghosts-cut
ghosts-cut g a = record { low = a._low.now; high = a._high.now }
