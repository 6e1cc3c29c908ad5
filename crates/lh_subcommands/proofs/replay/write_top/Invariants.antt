use Rattle.std.proofs.Common.{ℕ, List, ◌++◌, Option}
use Rattle.std.specs.String.{string_bytes}
use Rattle.lh_subcommands.specs.Devices.{Sends}
use Rattle.lh_draw.specs.Drawing.{in_turn}
use Rattle.lh_draw.specs.DrawingTexts.{canvas_text}
use Rattle.lh_replay.specs.Picture.{caption_of, heading_of, picture_canvas_of}
use Rattle.lh_replay.specs.PictureTexts.{heading_text, picture_caption_text}
use Rattle.lh_subcommands.proofs.replay.write_top.Given as goal

abbrev pub invariant-loop-lane : goal.invariant-loop-lane
invariant-loop-lane g l =
    (before : Option (List ℕ)) (sent : List ℕ) →
    Sends before (g.W.Write.contents l.fn.writer) (string_bytes l.fn.waiting) sent →
    Sends before (g.W.Write.contents l.writer) (string_bytes l.waiting)
    ((sent ++ (canvas_text (picture_canvas_of l.events) ++ picture_caption_text (caption_of l.events)))
    ++ in_turn (λ lane. heading_text (heading_of l.events lane)) l.lane)
