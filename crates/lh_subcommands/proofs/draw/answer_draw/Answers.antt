use Rattle.lh_subcommands.proofs.Inspecting.{undrawn, drawn, draw_begun}
use Rattle.lh_subcommands.proofs.draw.answer_draw.Goals as goal

pub returns-in-Err : goal.returns-in-Err
returns-in-Err g c = undrawn c.in-Err.fault _ _ _ c.unreadable.ensures c.in-Err.ensures.exact

pub returns-in-Ok-write_drawing : goal.returns-in-Ok-write_drawing
returns-in-Ok-write_drawing g c = drawn c.in-Ok.listing _ _ _ c.in-Ok.ensures.exact c.in-Ok-write_drawing.ensures.ok

pub returns : goal.returns
returns g c = draw_begun c.in-Ok.listing _ _ _ c.in-Ok.ensures.exact c.in-Err-write_drawing.ensures.err
