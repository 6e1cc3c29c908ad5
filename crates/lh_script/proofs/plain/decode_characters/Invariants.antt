use Rattle.std.proofs.Common.{◌≡◌, ◌+◌, ◌≤◌, length, take}
use Rattle.std.specs.Option.{option_map}
use Rattle.lh_script.specs.PlainTexts.{characters}
use Rattle.lh_script.proofs.Characters.{bytes_behind, count_behind}
use Rattle.lh_script.proofs.plain.decode_characters.Given as goal

abbrev pub invariant-loop-rest : goal.invariant-loop-rest
invariant-loop-rest l = record {
  bytes : l.count ≤ length l.room → characters l.text ≡ bytes_behind (take l.count l.room) (characters l.rest);
  count : option_map length (characters l.text) ≡ count_behind l.count (characters l.rest);
  few : l.count + length l.rest ≤ length l.text;
}

abbrev pub decreases-loop-rest : goal.decreases-loop-rest
decreases-loop-rest l = length l.rest
