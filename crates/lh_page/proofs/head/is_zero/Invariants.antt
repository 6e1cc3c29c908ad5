use Rattle.std.proofs.Common.{◌≡◌, take}
use Rattle.lh_page.specs.PageFields.{all_zero}
use Rattle.lh_page.proofs.head.is_zero.Given as goal

abbrev pub invariant-loop-byte : goal.invariant-loop-byte
invariant-loop-byte l = l.zero ≡ all_zero (take l.byte-index l.bytes)
