use Rattle.std.proofs.Common.{map, take}
use Rattle.lh_bucket.specs.Listing.{all_of}
use Rattle.lh_settling.specs.Tally.{IsTally}
use Rattle.lh_settling.proofs.contents.first_stray.Given as goal

abbrev pub invariant-loop-list : goal.invariant-loop-list
invariant-loop-list l = IsTally l.initial.records
    (all_of (take l.list-index (map (λ v. v.items) l.lists))) l.records l.stray
