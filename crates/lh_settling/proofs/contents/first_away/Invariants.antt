use Rattle.std.proofs.Common.{map}
use Rattle.lh_settling.proofs.Away.{AtHomeBefore}
use Rattle.lh_settling.proofs.contents.first_away.Given as goal

abbrev pub invariant-loop-bucket : goal.invariant-loop-bucket
invariant-loop-bucket l = AtHomeBefore l.root.initial l.root.buckets (map (λ v. v.items) l.lists) l.bucket
