use Rattle.std.proofs.Common.{[], subst}
use Rattle.std.specs.Io.KnownBytes.{Appends}
use Rattle.std.specs.String.{string_bytes}
use Rattle.std.proofs.lemmas.Result.{on_ok_weaker}
use Rattle.lh_subcommands.specs.Devices.{Sends, TakesBeginning}
use Rattle.lh_replay.specs.Picture.{picture_of}
use Rattle.lh_subcommands.proofs.Sending.{begins_longer, on_err, on_err_weaker, sends_all, sends_nothing, stops_within}
use Rattle.lh_subcommands.proofs.replay.write_picture.Goals as goal

pub returns-in_err-write_top-clause-err : goal.returns-in_err-write_top-clause-err
unfolding picture_of
returns-in_err-write_top-clause-err g c =
    let start = g.W.Write.contents c.args.writer.now in
    on_err c.from_residual.result
    (begins_longer start _ _ _
    (begins_longer start _ _ _ (c.in_err-write_top.ensures.err start [] (sends_nothing start _ c.requires.empty))))

pub returns-in_err-write_steps-clause-err : goal.returns-in_err-write_steps-clause-err
unfolding picture_of
returns-in_err-write_steps-clause-err g c =
    let start = g.W.Write.contents c.args.writer.now in
    let top = c.in_ok-write_top.ensures.ok start [] (sends_nothing start _ c.requires.empty) in
    on_err c.from_residual-in_err-write_steps.result
    (begins_longer start _ _ _ (c.in_err-write_steps.ensures.err start _ top))

pub returns-in_err-put-clause-err : goal.returns-in_err-put-clause-err
unfolding picture_of
returns-in_err-put-clause-err g c =
    let start = g.W.Write.contents c.args.writer.now in
    let top = c.in_ok-write_top.ensures.ok start [] (sends_nothing start _ c.requires.empty) in
    let steps = c.in_ok-write_steps.ensures.ok start _ top in
    on_err c.from_residual-in_err-put.result (c.in_err-put.ensures.err start _ steps)

pub returns : goal.returns
unfolding picture_of
returns g c =
    let start = g.W.Write.contents c.args.writer.now in
    let now = g.W.Write.contents c.put.new.writer in
    let end = g.W.Write.contents c.write_all.new.writer in
    let top = c.in_ok-write_top.ensures.ok start [] (sends_nothing start _ c.requires.empty) in
    let steps = c.in_ok-write_steps.ensures.ok start _ top in
    let sent : Sends start now (string_bytes c.put.new.waiting) (picture_of c.args.events.now c.args.entries.now) =
    c.in_ok-put.ensures.ok start _ steps in
    record {
      ok =
          on_ok_weaker c.write_all.result
          (λ written. sends_all _ _ _ _ _ sent (subst (Appends now end) c.as_bytes.ensures.value written))
          c.write_all.ensures.ok;
      err =
          on_err_weaker c.write_all.result
          (λ written. stops_within _ _ _ _ _ sent (subst (TakesBeginning now end) c.as_bytes.ensures.value written))
          c.write_all.ensures.err;
    }
