use Rattle.std.proofs.Common.{◌≡◌, ◌+◌, ◌-◌, ◌*◌, ◌≤◌, suc, length, vec_len}
use Rattle.lh_exchange.specs.Exchanged.{records_from}
use Rattle.lh_exchange.proofs.BodyRecords.{behind_records}
use Rattle.lh_exchange.proofs.reading.read_body.Given as goal

abbrev pub invariant-loop-pair : goal.invariant-loop-pair
invariant-loop-pair l = record {
  whole : records_from l.layout l.line (suc (length l.bytes)) 0 l.bytes
      ≡ behind_records l.pairs.items
      (records_from l.layout l.line (suc (length l.bytes) - vec_len l.pairs) (vec_len l.pairs) l.rest);
  few : 2 * vec_len l.pairs + length l.rest ≤ length l.bytes;
}

abbrev pub decreases-loop-pair : goal.decreases-loop-pair
decreases-loop-pair l = length l.rest
