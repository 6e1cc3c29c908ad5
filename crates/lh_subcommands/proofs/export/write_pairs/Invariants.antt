use Rattle.std.proofs.Common.{ℕ, List, ◌++◌, Option, flat_map, take}
use Rattle.lh_bucket.specs.Listing.{list_at}
use Rattle.lh_exchange.specs.StreamTexts.{pair_text}
use Rattle.lh_subcommands.specs.Devices.{Sends}
use Rattle.lh_subcommands.specs.Exporting.{HasRecordRoom}
use Rattle.lh_subcommands.proofs.export.write_pairs.Given as goal

abbrev pub invariant-loop-place : goal.invariant-loop-place
invariant-loop-place g l =
    HasRecordRoom l.waiting
    × ((before : Option (List ℕ)) (sent : List ℕ) →
    Sends before (g.W.Write.contents l.fn.writer) l.fn.waiting.items sent →
    Sends before (g.W.Write.contents l.writer) l.waiting.items
    (sent ++ flat_map (pair_text l.format) (take l.place (list_at l.listing.lists l.bucket))))
