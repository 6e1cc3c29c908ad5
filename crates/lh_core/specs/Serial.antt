-- Calls served one after another, and how a file grows under them
use Rattle.std.specs.Prelude.{◌≡◌, ℕ, ◌+◌, ◌-◌, Bool, true, false, List, [], ◌∷◌}
use Rattle.std.specs.Prelude.{if◌then◌else◌}
use Rattle.std.specs.FinMap.{len, empty}
use Rattle.lh_addr.specs.Settings.{Settings, wants_split}
use Rattle.lh_bucket.specs.declared.call.Call.{Call}
use Rattle.lh_bucket.specs.declared.call.Reply.{Reply}
use Rattle.lh_bucket.specs.declared.call.Reply.TheVariants.{Inserted, Deleted}
use Rattle.lh_bucket.specs.PlainMap.{Records, reply, after, replies, outcome}
use Rattle.lh_core.specs.declared.state.SplitState.TheVariants as split
use Rattle.lh_core.specs.State.{State, all_idle}
use Rattle.lh_core.specs.World.{WorldSeen, IsPlaced, HasLevels, StandsFor}

-- whether a file of `size` buckets grows after a reply: only where an insert added its record, and by the split policy
abbrev pub grows_after : Settings → ℕ → ℕ → Reply → Bool
grows_after config records size Inserted = wants_split config records size
grows_after config records size _ = false

-- the number of buckets after a reply that left this map
abbrev pub size_after : Settings → Records → ℕ → Reply → ℕ
size_after config map size reply = if grows_after config (len map) size reply then size + 1 else size

-- the number of buckets after calls, from this map and this number on
abbrev pub size_from : Settings → Records → ℕ → List Call → ℕ
size_from config map size [] = size
size_from config map size (call ∷ calls) =
    size_from config (after map call) (size_after config (after map call) size (reply map call)) calls

-- the number of buckets of a file after calls
abbrev pub size_of : Settings → List Call → ℕ
size_of config calls = size_from config empty config.initial calls

-- nobody is at work, and no split is under way
pub record IsAtRest (state : State) : Type 0 where
  pub workers : state.workers ≡ all_idle
  pub splitter : state.splitter ≡ split.Idle

-- Calls were served one after another on a file of so many buckets that stands for a map: the replies are the map's,
-- the file has grown as the policy wants, nobody is at work, and each record stands in its bucket and nowhere else.
pub record IsSerialFrom (config : Settings) (map : Records) (start : ℕ) (calls : List Call) (told : List Reply)
    (world : WorldSeen) : Type 0 where
  pub same : world.config ≡ config
  pub replied : told ≡ replies map calls
  pub size : world.state.buckets ≡ size_from config map start calls
  pub rest : IsAtRest world.state
  pub placed : IsPlaced config.initial (size_from config map start calls) (outcome map calls) world.buckets
  pub levels : HasLevels config.initial (size_from config map start calls) world.buckets

-- they were served on an empty file, with its initial number of buckets
abbrev pub IsSerial : Settings → List Call → List Reply → WorldSeen → Type 0
IsSerial config calls told world = IsSerialFrom config empty config.initial calls told world

-- so many records stand in the buckets of a world
abbrev pub HasRecords : WorldSeen → ℕ → Type 0
HasRecords world records = (map : Records) × StandsFor world map × (records ≡ len map)

-- the number of records after a reply
abbrev pub count_after : ℕ → Reply → ℕ
count_after records Inserted = records + 1
count_after records Deleted = records - 1
count_after records _ = records

-- a call was served alone
pub record IsServedAlone (world : WorldSeen) (call : Call) (told : Reply) (next : WorldSeen) : Type 0 where
  pub same : next.config ≡ world.config
  pub state : next.state ≡ world.state
  pub replied : (map : Records) → StandsFor world map → told ≡ reply map call
  pub stands : (map : Records) → StandsFor world map → StandsFor next (after map call)

-- a file at rest has one bucket more, and the same records
pub record HasGrown (world next : WorldSeen) : Type 0 where
  pub same : next.config ≡ world.config
  pub size : next.state.buckets ≡ world.state.buckets + 1
  pub rest : IsAtRest next.state
  pub stands : (map : Records) → StandsFor world map → StandsFor next map

-- memory ran out, and what was begun was given up: the state is as it was, and the buckets stand for the same maps
pub record IsGivenUp (world next : WorldSeen) : Type 0 where
  pub same : next.config ≡ world.config
  pub state : next.state ≡ world.state
  pub stands : (map : Records) → StandsFor world map → StandsFor next map

-- A file at rest has grown, if the policy wants it after a reply that left so many records, and has the same records.
-- Where the split is told as refused it was wanted, and the file has not grown.
pub record IsGrownAfter (world : WorldSeen) (records : ℕ) (told : Reply) (refused : Bool) (next : WorldSeen)
    : Type 0 where
  pub same : next.config ≡ world.config
  pub rest : IsAtRest next.state
  pub size : next.state.buckets ≡ (if refused then world.state.buckets
      else if grows_after world.config records world.state.buckets told then world.state.buckets + 1
      else world.state.buckets)
  pub asked : refused ≡ true → grows_after world.config records world.state.buckets told ≡ true
  pub stands : (map : Records) → StandsFor world map → StandsFor next map

-- A call was served, and the split that it asked for. Where the split is told as refused it was asked for, and the file
-- has not grown.
pub record IsServedOn (world : WorldSeen) (map : Records) (call : Call) (told : Reply) (records : ℕ) (refused : Bool)
    (next : WorldSeen) : Type 0 where
  pub same : next.config ≡ world.config
  pub rest : IsAtRest next.state
  pub size : next.state.buckets ≡ (if refused then world.state.buckets
      else size_after world.config (after map call) world.state.buckets (reply map call))
  pub asked : refused ≡ true →
      grows_after world.config (len (after map call)) world.state.buckets (reply map call) ≡ true
  pub stands : StandsFor next (after map call)
  pub replied : told ≡ reply map call
  pub count : records ≡ len (after map call)
