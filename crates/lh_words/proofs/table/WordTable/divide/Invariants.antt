use Rattle.lh_words.proofs.table.WordTable.divide.Given as goal

abbrev pub ghosts-divide_by : goal.ghosts-divide_by
ghosts-divide_by g a = record { calls = a._calls }
