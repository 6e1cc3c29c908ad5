use Rattle.lh_settling.proofs.Away.{IsAwayOf}
use Rattle.lh_settling.proofs.contents.away_in.Given as goal

abbrev pub invariant-loop-pair : goal.invariant-loop-pair
invariant-loop-pair l = IsAwayOf l.root.initial l.root.buckets l.bucket l.pairs l.pair-index l.away
