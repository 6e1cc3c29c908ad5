-- When shards are not opened, and why
use Rattle.std.specs.Prelude.{List, length}
use Rattle.lh_bucket.specs.Listing.{Lists}
use Rattle.lh_shards.specs.Hands.{IsCount}
use Rattle.lh_shards.specs.Opening.{AreAlike, IsFirstOfOtherShard, IsFirstOther}
use Rattle.lh_shards.specs.declared.fault.OpenFault.{OpenFault}
use Rattle.lh_shards.specs.declared.fault.OpenFault.TheVariants.{Count, Config, Misplaced, Memory}

-- When each fault is answered: the first that applies. Out of memory may come where no other does.
abbrev pub IsOpenFault : List Lists → OpenFault → Type 0
IsOpenFault listings Count = ¬ IsCount (length listings)
IsOpenFault listings (Config shard) = IsCount (length listings) × IsFirstOther listings shard
IsOpenFault listings (Misplaced shard bucket place) =
    IsCount (length listings) × AreAlike listings × IsFirstOfOtherShard listings shard bucket place
IsOpenFault listings Memory = IsCount (length listings)
