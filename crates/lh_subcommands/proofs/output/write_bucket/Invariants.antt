use Rattle.std.proofs.Common.{ℕ, List, ◌++◌, Option}
use Rattle.std.specs.String.{string_bytes}
use Rattle.lh_bucket.specs.Listing.{list_at}
use Rattle.lh_subcommands.specs.Devices.{Sends}
use Rattle.lh_subcommands.proofs.RecordLines.{lines_before}
use Rattle.lh_subcommands.proofs.output.write_bucket.Given as goal

abbrev pub invariant-loop-place : goal.invariant-loop-place
invariant-loop-place g l =
    (before : Option (List ℕ)) (sent : List ℕ) →
    Sends before (g.W.Write.contents l.fn.writer) (string_bytes l.fn.waiting) sent →
    Sends before (g.W.Write.contents l.writer) (string_bytes l.waiting)
    (sent ++ lines_before l.notation l.bucket (list_at l.listing.lists l.bucket) l.place)
