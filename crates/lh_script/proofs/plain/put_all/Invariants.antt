use Rattle.std.proofs.Common.{◌≡◌, ◌*◌, ◌≤◌, flat_map, take}
use Rattle.lh_script.specs.PlainTexts.{character}
use Rattle.lh_script.proofs.plain.put_all.Given as goal

abbrev pub invariant-loop-byte : goal.invariant-loop-byte
invariant-loop-byte l = record {
  used : l.used ≤ 3 * l.byte-index;
  bytes : take l.used l.room ≡ flat_map character (take l.byte-index l.bytes);
}
