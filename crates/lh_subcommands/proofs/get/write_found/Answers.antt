use Rattle.std.proofs.Common.{subst, arith}
use Rattle.std.specs.Io.KnownBytes.{Appends}
use Rattle.std.specs.String.{string_bytes}
use Rattle.std.proofs.lemmas.Result.{on_ok_weaker}
use Rattle.lh_subcommands.specs.Devices.{Sends, TakesBeginning}
use Rattle.lh_subcommands.specs.Get.{found_text}
use Rattle.lh_subcommands.proofs.ReplyLines.{reply_lines, begins_found, found_text-all}
use Rattle.lh_subcommands.proofs.Sending.{on_err, on_err_weaker, sends_all, stops_within}
use Rattle.lh_subcommands.proofs.get.write_found.Goals as goal

pub returns-in_err-put_line-clause-err : goal.returns-in_err-put_line-clause-err
returns-in_err-put_line-clause-err g c =
    on_err c.from_residual.result
    (begins_found c.args.notation _ _ c.args.replies.now c.loop-reply.reply-index c.reply-item.result
    (omega arith) c.reply-item.is
    (c.in_err-put_line.ensures.err (g.W.Write.contents c.args.writer.now)
    (reply_lines c.args.notation _) c.loop-reply.invariant))

pub returns : goal.returns
returns g c =
    let now = g.W.Write.contents c.loop-reply.writer in
    let end = g.W.Write.contents c.write_all.new.writer in
    let sent : Sends (g.W.Write.contents c.args.writer.now) now (string_bytes c.loop-reply.waiting)
    (found_text c.args.notation c.args.replies.now) =
    subst (Sends (g.W.Write.contents c.args.writer.now) now (string_bytes c.loop-reply.waiting))
    (found_text-all c.args.notation c.args.replies.now c.loop-reply.reply-index (omega arith)) c.loop-reply.invariant in
    record {
      ok =
          on_ok_weaker c.write_all.result
          (λ written. sends_all _ _ _ _ _ sent (subst (Appends now end) c.as_bytes.ensures.value written))
          c.write_all.ensures.ok;
      err =
          on_err_weaker c.write_all.result
          (λ written. stops_within _ _ _ _ _ sent (subst (TakesBeginning now end) c.as_bytes.ensures.value written))
          c.write_all.ensures.err;
    }
