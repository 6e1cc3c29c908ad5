use Rattle.std.proofs.Common.{◌≡◌, ◌+◌, ◌≤◌, length, take}
use Rattle.std.specs.Option.{option_map}
use Rattle.lh_exchange.specs.DbTexts.{printed}
use Rattle.lh_exchange.proofs.Printed.{behind_bytes, count_more}
use Rattle.lh_exchange.proofs.decoding.decode_printed.Given as goal

abbrev pub invariant-loop-rest : goal.invariant-loop-rest
invariant-loop-rest l = record {
  bytes : l.count ≤ length l.room → printed l.text ≡ behind_bytes (take l.count l.room) (printed l.rest);
  count : option_map length (printed l.text) ≡ count_more l.count (printed l.rest);
  few : l.count + length l.rest ≤ length l.text;
}

abbrev pub decreases-loop-rest : goal.decreases-loop-rest
decreases-loop-rest l = length l.rest
