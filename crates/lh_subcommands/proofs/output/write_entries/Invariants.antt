use Rattle.std.proofs.Common.{take}
use Rattle.std.specs.String.{string_bytes}
use Rattle.lh_subcommands.specs.Devices.{Sends}
use Rattle.lh_subcommands.proofs.ReplyLines.{entry_lines}
use Rattle.lh_subcommands.proofs.output.write_entries.Given as goal

abbrev pub invariant-loop-entry : goal.invariant-loop-entry
invariant-loop-entry g l =
    Sends (g.W.Write.contents l.fn.writer) (g.W.Write.contents l.writer) (string_bytes l.waiting)
    (entry_lines l.notation (take l.entry-index l.entries))
