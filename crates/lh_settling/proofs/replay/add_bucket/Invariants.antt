use Rattle.std.proofs.Common.{◌≡◌, take}
use Rattle.lh_bucket.specs.Listing.{list_at}
use Rattle.lh_bucket.specs.PlainMap.{outcome}
use Rattle.lh_settling.specs.Replay.{calls_inserting}
use Rattle.lh_settling.proofs.replay.add_bucket.Given as goal

abbrev pub invariant-loop-place : goal.invariant-loop-place
invariant-loop-place l = l.records ≡ outcome l.initial.records
    (calls_inserting (take l.place (list_at l.listing.lists l.bucket)))
