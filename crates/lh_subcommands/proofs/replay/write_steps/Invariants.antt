use Rattle.std.proofs.Common.{ℕ, List, ◌++◌, Option}
use Rattle.std.specs.String.{string_bytes}
use Rattle.lh_subcommands.specs.Devices.{Sends}
use Rattle.lh_draw.specs.Drawing.{in_turn}
use Rattle.lh_replay.specs.Picture.{step_of}
use Rattle.lh_replay.specs.PictureTexts.{step_text}
use Rattle.lh_subcommands.proofs.replay.write_steps.Given as goal

abbrev pub invariant-loop-row : goal.invariant-loop-row
invariant-loop-row g l =
    (before : Option (List ℕ)) (sent : List ℕ) →
    Sends before (g.W.Write.contents l.fn.writer) (string_bytes l.fn.waiting) sent →
    Sends before (g.W.Write.contents l.writer) (string_bytes l.waiting)
    (sent ++ in_turn (λ row. step_text (step_of l.events l.entries row)) l.row)
