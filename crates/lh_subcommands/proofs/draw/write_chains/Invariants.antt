use Rattle.std.proofs.Common.{ℕ, List, ◌++◌, Option}
use Rattle.std.specs.String.{string_bytes}
use Rattle.lh_subcommands.specs.Devices.{Sends}
use Rattle.lh_draw.specs.Drawing.{chain_text, in_turn}
use Rattle.lh_subcommands.proofs.draw.write_chains.Given as goal

abbrev pub invariant-loop-bucket : goal.invariant-loop-bucket
invariant-loop-bucket g l =
    (before : Option (List ℕ)) (sent : List ℕ) →
    Sends before (g.W.Write.contents l.fn.writer) (string_bytes l.fn.waiting) sent →
    Sends before (g.W.Write.contents l.writer) (string_bytes l.waiting)
    (sent ++ in_turn (chain_text l.listing) l.bucket)
