use Rattle.std.proofs.Common.{sym}
use Rattle.lh_exchange.proofs.LineCuts.{part_from}
use Rattle.lh_exchange.proofs.Printed.{plain_first}
use Rattle.lh_exchange.proofs.decoding.first_byte.Goals as goal

pub returns-then-is_plain_byte-clause-byte : goal.returns-then-is_plain_byte-clause-byte
returns-then-is_plain_byte-clause-byte c =
    rw part_from (plain_first c.args.text.now c.requires (sym c.if-is_plain_byte.ensures))
