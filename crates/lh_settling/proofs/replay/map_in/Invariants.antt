use Rattle.std.proofs.Common.{◌≡◌, take}
use Rattle.std.specs.FinMap.{empty}
use Rattle.lh_bucket.specs.Listing.{all_of}
use Rattle.lh_bucket.specs.PlainMap.{outcome}
use Rattle.lh_settling.specs.Replay.{calls_inserting}
use Rattle.lh_settling.proofs.replay.map_in.Given as goal

abbrev pub invariant-loop-bucket : goal.invariant-loop-bucket
invariant-loop-bucket l = l.records ≡ outcome empty (calls_inserting (all_of (take l.bucket l.listing.lists)))
