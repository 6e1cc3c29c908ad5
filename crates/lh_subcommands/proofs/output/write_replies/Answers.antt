use Rattle.std.proofs.Common.{subst, arith}
use Rattle.std.specs.Io.KnownBytes.{Appends}
use Rattle.std.specs.String.{string_bytes}
use Rattle.std.proofs.lemmas.Result.{on_ok_weaker}
use Rattle.lh_subcommands.specs.Devices.{Sends, TakesBeginning}
use Rattle.lh_script.specs.Texts.{commands_text}
use Rattle.lh_subcommands.proofs.ReplyLines.{reply_lines, begins_commands, commands_text-all}
use Rattle.lh_subcommands.proofs.Sending.{on_err, on_err_weaker, sends_all, stops_within}
use Rattle.lh_subcommands.proofs.output.write_replies.Goals as goal

pub returns-in_err-put_line-clause-err : goal.returns-in_err-put_line-clause-err
returns-in_err-put_line-clause-err g c =
    on_err c.from_residual.result
    (begins_commands c.args.notation _ _ c.args.replies.now c.loop-reply.reply-index c.reply-item.result c.args.buckets
    (omega arith)
    c.reply-item.is
    (c.in_err-put_line.ensures.err (g.W.Write.contents c.args.writer.now)
    (reply_lines c.args.notation _) c.loop-reply.invariant))

pub returns-in_err-put_line-2-clause-err : goal.returns-in_err-put_line-2-clause-err
returns-in_err-put_line-2-clause-err g c =
    on_err c.from_residual-in_err-put_line-2.result
    (subst (TakesBeginning (g.W.Write.contents c.args.writer.now) (g.W.Write.contents c.put_line-2.new.writer))
    (commands_text-all c.args.notation c.args.replies.now c.loop-reply.reply-index c.args.buckets (omega arith))
    (c.in_err-put_line-2.ensures.err (g.W.Write.contents c.args.writer.now)
    (reply_lines c.args.notation _) c.loop-reply.invariant))

pub returns : goal.returns
returns g c =
    let now = g.W.Write.contents c.put_line-2.new.writer in
    let end = g.W.Write.contents c.write_all.new.writer in
    let sent : Sends (g.W.Write.contents c.args.writer.now) now (string_bytes c.put_line-2.new.waiting)
    (commands_text c.args.notation c.args.replies.now c.args.buckets) =
    subst (Sends (g.W.Write.contents c.args.writer.now) now (string_bytes c.put_line-2.new.waiting))
    (commands_text-all c.args.notation c.args.replies.now c.loop-reply.reply-index c.args.buckets (omega arith))
    (c.in_ok-put_line-2.ensures.ok (g.W.Write.contents c.args.writer.now)
    (reply_lines c.args.notation _) c.loop-reply.invariant) in
    record {
      ok =
          on_ok_weaker c.write_all.result
          (λ written. sends_all _ _ _ _ _ sent (subst (Appends now end) c.as_bytes.ensures.value written))
          c.write_all.ensures.ok;
      err =
          on_err_weaker c.write_all.result
          (λ written. stops_within _ _ _ _ _ sent (subst (TakesBeginning now end) c.as_bytes.ensures.value written))
          c.write_all.ensures.err;
    }
