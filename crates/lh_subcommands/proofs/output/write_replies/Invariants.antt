use Rattle.std.proofs.Common.{flat_map, take}
use Rattle.std.specs.String.{string_bytes}
use Rattle.lh_subcommands.specs.Devices.{Sends}
use Rattle.lh_script.specs.Texts.{line, reply_text}
use Rattle.lh_subcommands.proofs.output.write_replies.Given as goal

abbrev pub invariant-loop-reply : goal.invariant-loop-reply
invariant-loop-reply g l =
    Sends (g.W.Write.contents l.fn.writer) (g.W.Write.contents l.writer) (string_bytes l.waiting)
    (flat_map (λ reply. line (reply_text l.notation reply)) (take l.reply-index l.replies))
