use Rattle.std.proofs.Common.{◌≡◌, ◌+◌, ◌-◌, ◌≤◌, suc, None, length}
use Rattle.lh_exchange.specs.DbHeader.{header_from}
use Rattle.lh_exchange.proofs.header.read_header.Given as goal

abbrev pub invariant-loop-text : goal.invariant-loop-text
invariant-loop-text l = record {
  whole : header_from (suc (length l.bytes)) None 2 l.bytes
      ≡ header_from (length l.bytes + 3 - l.line) l.named l.line l.rest;
  lines : l.line + length l.rest ≤ length l.bytes + 2;
}

abbrev pub decreases-loop-text : goal.decreases-loop-text
decreases-loop-text l = length l.rest
