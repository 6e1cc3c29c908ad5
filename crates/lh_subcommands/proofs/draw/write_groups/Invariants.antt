use Rattle.std.proofs.Common.{ℕ, List, ◌++◌, Option}
use Rattle.std.specs.String.{string_bytes}
use Rattle.lh_subcommands.specs.Devices.{Sends}
use Rattle.lh_draw.specs.Drawing.{group_bar, in_turn}
use Rattle.lh_draw.specs.DrawingTexts.{bar_text}
use Rattle.lh_subcommands.proofs.draw.write_groups.Given as goal

abbrev pub invariant-loop-column : goal.invariant-loop-column
invariant-loop-column g l =
    (before : Option (List ℕ)) (sent : List ℕ) →
    Sends before (g.W.Write.contents l.fn.writer) (string_bytes l.fn.waiting) sent →
    Sends before (g.W.Write.contents l.writer) (string_bytes l.waiting)
    (sent ++ in_turn (λ column. bar_text (group_bar l.listing column)) l.column)
