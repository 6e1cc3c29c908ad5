use Rattle.std.proofs.Common.{ℕ, List, ◌++◌, Option}
use Rattle.std.specs.String.{string_bytes}
use Rattle.lh_subcommands.specs.Devices.{Sends}
use Rattle.lh_draw.specs.Drawing.{in_turn, page_bar}
use Rattle.lh_draw.specs.DrawingTexts.{bar_text}
use Rattle.lh_subcommands.proofs.draw.write_chain.Given as goal

abbrev pub invariant-loop-page : goal.invariant-loop-page
invariant-loop-page g l =
    (before : Option (List ℕ)) (sent : List ℕ) →
    Sends before (g.W.Write.contents l.fn.writer) (string_bytes l.fn.waiting) sent →
    Sends before (g.W.Write.contents l.writer) (string_bytes l.waiting)
    (sent ++ in_turn (λ p. bar_text (page_bar l.listing l.bucket p)) l.page)
