use Rattle.std.specs.Prelude.{All}
use Rattle.lh_file.specs.FileState.{IsOf}
use Rattle.lh_bench.proofs.steps.hands_of.Given as goal

abbrev pub invariant-loop : goal.invariant-loop
invariant-loop g l = record {
  first : IsOf l.file.state l.hand;
  each : All (λ hand. IsOf l.file.state hand) l.hands.items;
}
