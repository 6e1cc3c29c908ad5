use Rattle.std.proofs.Common.{◌≡◌, take}
use Rattle.lhf.specs.Built.{puts_of}
use Rattle.lhf.proofs.build.puts_of.Given as goal

abbrev pub invariant-loop-record : goal.invariant-loop-record
invariant-loop-record l = l.calls.items ≡ puts_of (take l.record-index l.records)
