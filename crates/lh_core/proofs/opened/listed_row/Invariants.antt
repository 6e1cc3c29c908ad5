use Rattle.lh_core.specs.Opened.{IsListedRow}
use Rattle.lh_core.proofs.opened.listed_row.Given as goal

abbrev pub invariant-loop-number : goal.invariant-loop-number
invariant-loop-number l = IsListedRow l.fn.listing l.number l.row.items
