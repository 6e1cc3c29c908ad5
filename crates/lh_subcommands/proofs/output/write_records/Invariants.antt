use Rattle.std.specs.String.{string_bytes}
use Rattle.lh_subcommands.specs.Devices.{Sends}
use Rattle.lh_subcommands.proofs.RecordLines.{buckets_before}
use Rattle.lh_subcommands.proofs.output.write_records.Given as goal

abbrev pub invariant-loop-bucket : goal.invariant-loop-bucket
invariant-loop-bucket g l =
    Sends (g.W.Write.contents l.fn.writer) (g.W.Write.contents l.writer) (string_bytes l.waiting)
    (buckets_before l.notation l.listing l.bucket)
