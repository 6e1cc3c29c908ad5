use Rattle.std.proofs.Common.{◌+◌, refl}
use Rattle.lh_exchange.proofs.LineCuts.{cut_line, no_line, part_from}
use Rattle.lh_exchange.proofs.lines.first_line.Goals as goal

pub returns-in_err-end-clause-cut : goal.returns-in_err-end-clause-cut
returns-in_err-end-clause-cut c = rw c.from_residual.ensures (no_line c.args.bytes.now c.in_err-end.ensures)

pub returns-clause-cut : goal.returns-clause-cut
returns-clause-cut c =
    cut_line c.args.bytes.now _ _ c.in_ok-end.end c.in_ok-end.ensures refl
    (part_from (c.in_ok-end.end + 1) c.args.bytes.now)
