use Rattle.std.proofs.Common.{arith}
use Rattle.std.proofs.lemmas.Grind.{common_steps}
use Rattle.lh_script.proofs.Splitting.{line_parts, lines_whole, lines_none}
use Rattle.lh_script.proofs.lines.first_line.Goals as goal

pub returns-then-end-text-clause-first : goal.returns-then-end-text-clause-first
returns-then-end-text-clause-first c = grind (arith, common_steps, lines_whole c.args.text.now, lines_none)

pub returns-clause-first : goal.returns-clause-first
returns-clause-first c = grind (arith, common_steps, line_parts c.args.text.now c.without_cr.result.now)
