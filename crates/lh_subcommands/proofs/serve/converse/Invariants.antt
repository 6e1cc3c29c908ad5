use Rattle.std.proofs.Common.{ℕ, List, []}
use Rattle.std.specs.Io.KnownBytes.{Consumes}
use Rattle.lh_serving.specs.Conversations.{Beginning}
use Rattle.lh_serving.specs.Conversations.{IsAt, HasToldAll}
use Rattle.lh_subcommands.specs.Serve.{IsTelling}
use Rattle.lh_subcommands.proofs.serve.converse.Given as goal

-- at each read all that was heard is answered, and nothing waits
abbrev pub invariant-turns : goal.invariant-turns
invariant-turns g l = record {
  heard : (start : Beginning) → IsAt start l.fn.talk [] [] →
      (bytes : List ℕ) × Consumes (g.R.Read.remaining l.fn.reader) (g.R.Read.remaining l.reader) bytes
      × IsTelling start l.talk (g.W.Write.contents l.fn.writer) (g.W.Write.contents l.writer) bytes;
  told : HasToldAll l.talk;
}
