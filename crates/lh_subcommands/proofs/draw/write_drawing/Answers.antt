use Rattle.std.proofs.Common.{[], subst}
use Rattle.std.specs.Io.KnownBytes.{Appends}
use Rattle.std.specs.String.{string_bytes}
use Rattle.std.proofs.lemmas.Result.{on_ok_weaker}
use Rattle.lh_subcommands.specs.Devices.{Sends, TakesBeginning}
use Rattle.lh_draw.specs.Drawing.{drawing_of}
use Rattle.lh_subcommands.proofs.Sending.{begins_longer, on_err, on_err_weaker, sends_all, sends_nothing, stops_within}
use Rattle.lh_subcommands.proofs.draw.write_drawing.Goals as goal

pub returns-in_err-write_head-clause-err : goal.returns-in_err-write_head-clause-err
unfolding drawing_of
returns-in_err-write_head-clause-err g c =
    let start = g.W.Write.contents c.args.writer.now in
    on_err c.from_residual.result
    (begins_longer start _ _ _
    (begins_longer start _ _ _ (c.in_err-write_head.ensures.err start [] (sends_nothing start _ c.requires.empty))))

pub returns-in_err-write_columns-clause-err : goal.returns-in_err-write_columns-clause-err
unfolding drawing_of
returns-in_err-write_columns-clause-err g c =
    let start = g.W.Write.contents c.args.writer.now in
    let head = c.in_ok-write_head.ensures.ok start [] (sends_nothing start _ c.requires.empty) in
    on_err c.from_residual-in_err-write_columns.result
    (begins_longer start _ _ _ (c.in_err-write_columns.ensures.err start _ head))

pub returns-in_err-write_foot-clause-err : goal.returns-in_err-write_foot-clause-err
unfolding drawing_of
returns-in_err-write_foot-clause-err g c =
    let start = g.W.Write.contents c.args.writer.now in
    let head = c.in_ok-write_head.ensures.ok start [] (sends_nothing start _ c.requires.empty) in
    let columns = c.in_ok-write_columns.ensures.ok start _ head in
    on_err c.from_residual-in_err-write_foot.result (c.in_err-write_foot.ensures.err start _ columns)

pub returns : goal.returns
unfolding drawing_of
returns g c =
    let start = g.W.Write.contents c.args.writer.now in
    let now = g.W.Write.contents c.write_foot.new.writer in
    let end = g.W.Write.contents c.write_all.new.writer in
    let head = c.in_ok-write_head.ensures.ok start [] (sends_nothing start _ c.requires.empty) in
    let columns = c.in_ok-write_columns.ensures.ok start _ head in
    let sent : Sends start now (string_bytes c.write_foot.new.waiting) (drawing_of c.args.listing.now) =
    c.in_ok-write_foot.ensures.ok start _ columns in
    record {
      ok =
          on_ok_weaker c.write_all.result
          (λ written. sends_all _ _ _ _ _ sent (subst (Appends now end) c.as_bytes.ensures.value written))
          c.write_all.ensures.ok;
      err =
          on_err_weaker c.write_all.result
          (λ written. stops_within _ _ _ _ _ sent (subst (TakesBeginning now end) c.as_bytes.ensures.value written))
          c.write_all.ensures.err;
    }
