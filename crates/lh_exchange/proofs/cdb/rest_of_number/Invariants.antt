use Rattle.std.proofs.Common.{◌≡◌, drop}
use Rattle.lh_exchange.specs.Cdb.{number_until}
use Rattle.lh_exchange.proofs.cdb.rest_of_number.Given as goal

abbrev pub invariant-loop-place : goal.invariant-loop-place
invariant-loop-place l = number_until l.mark l.first l.bytes ≡ number_until l.mark l.number (drop l.place l.bytes)
