use Rattle.std.proofs.Common.{List, rules, subst}
use Rattle.std.specs.Io.KnownBytes.{Appends}
use Rattle.lh_core.specs.declared.event.Event.{Event}
use Rattle.lh_replay.specs.Picture.{picture_of}
use Rattle.lh_subcommands.specs.Devices.{TakesBeginning}
use Rattle.lh_subcommands.proofs.Ending.{schedule_begun, schedule_drawn}
use Rattle.lh_subcommands.proofs.replay.answer_replay.Goals as goal

pub returns-in-Ok-write_picture : goal.returns-in-Ok-write_picture
returns-in-Ok-write_picture g c =
    let start = g.W.Write.contents c.args.writer.now in
    let end = g.W.Write.contents c.write_picture.new.writer in
    let drawn =
    subst (λ (events : List Event). Appends start end (picture_of events c.as_slice-2.result.now))
    c.as_slice.ensures.value c.in-Ok-write_picture.ensures.ok in
    schedule_drawn c.args.config _ _ _ c.in-Ok.taken.events.items _ c.in-Ok.ensures.read (search rules) drawn

pub returns : goal.returns
returns g c =
    let start = g.W.Write.contents c.args.writer.now in
    let end = g.W.Write.contents c.write_picture.new.writer in
    let begun =
    subst (λ (events : List Event). TakesBeginning start end (picture_of events c.as_slice-2.result.now))
    c.as_slice.ensures.value c.in-Err-write_picture.ensures.err in
    schedule_begun c.args.config _ _ _ c.in-Ok.taken.events.items _ c.in-Ok.ensures.read (search rules) begun
