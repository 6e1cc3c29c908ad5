use Rattle.std.proofs.Common.{◌++◌}
use Rattle.lh_exchange.specs.StreamTexts.{leading_text}
use Rattle.lh_subcommands.specs.Devices.{Sends}
use Rattle.lh_subcommands.specs.Exporting.{HasRecordRoom}
use Rattle.lh_subcommands.proofs.Exporting.{chain_stream}
use Rattle.lh_subcommands.proofs.RecordLines.{texts_before}
use Rattle.lh_subcommands.proofs.export.write_stream.Given as goal

abbrev pub invariant-loop-bucket : goal.invariant-loop-bucket
invariant-loop-bucket g l =
    HasRecordRoom l.waiting
    × Sends (g.W.Write.contents l.fn.writer) (g.W.Write.contents l.writer) l.waiting.items
    (leading_text l.format ++ texts_before (chain_stream l.format l.listing) l.listing l.bucket)
