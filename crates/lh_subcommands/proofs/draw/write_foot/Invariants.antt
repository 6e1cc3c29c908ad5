use Rattle.std.proofs.Common.{ℕ, List, ◌++◌, Option}
use Rattle.std.specs.String.{string_bytes}
use Rattle.lh_subcommands.specs.Devices.{Sends}
use Rattle.lh_draw.specs.Drawing.{cuts_of, in_turn, label_of}
use Rattle.lh_draw.specs.DrawingTexts.{cuts_text, label_text}
use Rattle.lh_subcommands.proofs.draw.write_foot.Given as goal

abbrev pub invariant-loop-place : goal.invariant-loop-place
invariant-loop-place g l =
    (before : Option (List ℕ)) (sent : List ℕ) →
    Sends before (g.W.Write.contents l.fn.writer) (string_bytes l.fn.waiting) sent →
    Sends before (g.W.Write.contents l.writer) (string_bytes l.waiting)
    ((sent ++ cuts_text (cuts_of l.listing)) ++ in_turn (λ place. label_text (label_of l.listing place)) l.place)
