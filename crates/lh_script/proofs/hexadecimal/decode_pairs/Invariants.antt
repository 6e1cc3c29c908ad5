use Rattle.std.proofs.Common.{◌≡◌, ◌+◌, ◌*◌, ◌<◌, ◌≤◌, None, length, take}
use Rattle.lh_script.specs.Hexadecimal.{pairs}
use Rattle.lh_script.proofs.Pairs.{with_front}
use Rattle.lh_script.proofs.hexadecimal.decode_pairs.Given as goal

abbrev pub invariant-loop-byte : goal.invariant-loop-byte
invariant-loop-byte l = record {
  good : l.marks < 16 → pairs l.word ≡ with_front (take l.byte-index l.out) (pairs l.rest);
  bad : 16 ≤ l.marks → pairs l.word ≡ None;
  left : length l.rest + 2 * l.byte-index ≡ 2 * length l.out;
}
