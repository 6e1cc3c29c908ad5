use Rattle.std.proofs.Common.{ℕ, ◌<◌, length, slice_index_or}
use Rattle.lhf.specs.declared.handle.Ask.{Ask}
use Rattle.lhf.specs.Many.{KeepsStart}
use Rattle.lhf.proofs.many.read_entries.Given as goal

abbrev pub invariant-loop-place : goal.invariant-loop-place
invariant-loop-place l = (i : ℕ) → i < length l.asks → (d : Ask) →
    KeepsStart (slice_index_or l.fn.asks i d) (slice_index_or l.asks i d)
