use Rattle.std.proofs.Common.{take}
use Rattle.std.specs.String.{string_bytes}
use Rattle.lh_subcommands.specs.Devices.{Sends}
use Rattle.lh_subcommands.proofs.ReplyLines.{reply_lines}
use Rattle.lh_subcommands.proofs.get.write_found.Given as goal

abbrev pub invariant-loop-reply : goal.invariant-loop-reply
invariant-loop-reply g l =
    Sends (g.W.Write.contents l.fn.writer) (g.W.Write.contents l.writer) (string_bytes l.waiting)
    (reply_lines l.notation (take l.reply-index l.replies))
