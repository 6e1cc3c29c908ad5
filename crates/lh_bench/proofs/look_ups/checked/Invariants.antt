use Rattle.std.proofs.Common.{◌≡◌, length}
use Rattle.lh_bench.proofs.look_ups.checked.Given as goal

abbrev pub invariant-loop-bytes : goal.invariant-loop-bytes
invariant-loop-bytes l = length l.checked.items ≡ l.bytes-index
