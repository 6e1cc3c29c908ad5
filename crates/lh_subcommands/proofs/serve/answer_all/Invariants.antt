use Rattle.std.proofs.Common.{◌≡◌, ℕ, List, ◌++◌, Option, None, length}
use Rattle.lh_serving.specs.Conversations.{Beginning}
use Rattle.lh_subcommands.specs.Serve.{IsTelling}
use Rattle.lh_subcommands.proofs.serve.answer_all.Given as goal

-- what was taken so far has been heard
abbrev pub invariant-loop-rest : goal.invariant-loop-rest
invariant-loop-rest g l = record {
  image : l.talk.image ≡ None;
  heard : (s : Beginning) (before : Option (List ℕ)) (heard : List ℕ) →
      IsTelling s l.fn.talk before (g.W.Write.contents l.fn.writer) heard →
      (taken : List ℕ) × (l.bytes ≡ taken ++ l.rest)
      × IsTelling s l.talk before (g.W.Write.contents l.writer) (heard ++ taken);
}

abbrev pub decreases-loop-rest : goal.decreases-loop-rest
decreases-loop-rest g l = length l.rest
