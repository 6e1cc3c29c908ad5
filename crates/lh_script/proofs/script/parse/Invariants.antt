use Rattle.std.proofs.Common.{◌≡◌, ◌+◌, ◌≤◌, length}
use Rattle.lh_script.specs.Lines.{lines}
use Rattle.lh_script.specs.Scripts.{from_line}
use Rattle.lh_script.proofs.Scripts.{after}
use Rattle.lh_script.proofs.script.parse.Given as goal

abbrev pub invariant-loop-rest : goal.invariant-loop-rest
invariant-loop-rest g l = record {
  whole : from_line (g.S.Statement.reads l.notation) 1 (lines l.text) ≡
      after l.statements.items (from_line (g.S.Statement.reads l.notation) l.line (lines l.rest));
  number : l.line + length l.rest ≤ 16777217;
}

abbrev pub decreases-loop-rest : goal.decreases-loop-rest
decreases-loop-rest g l = length l.rest
