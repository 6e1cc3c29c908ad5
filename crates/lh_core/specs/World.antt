-- A world: its configuration, its state, and its filled buckets
use Rattle.std.specs.Prelude.{◌≡◌, ℕ, ◌<◌, List, [], length, Option, Some, None, Ok, Err, ◌==◌, slice_index_or}
use Rattle.std.specs.FinMap.{retain_keys}
use Rattle.std.specs.List.{IsDistinct}
use Rattle.std.specs.Str.{bytes_eq}
use Rattle.lh_addr.specs.Fnv.{code_of}
use Rattle.lh_addr.specs.Growth.{address, level_of}
use Rattle.lh_addr.specs.Settings.{Settings}
use Rattle.lh_page.specs.Records.{keys_of}
use Rattle.lh_bucket.specs.declared.call.Call.{Call}
use Rattle.lh_bucket.specs.declared.call.Reply.{Reply}
use Rattle.lh_bucket.specs.Bucket.{Seen, content}
use Rattle.lh_bucket.specs.PlainMap.{Records, reply, after}
use Rattle.lh_core.specs.declared.event.Event.{Event}
use Rattle.lh_core.specs.State.{State}
use Rattle.lh_core.specs.Log.{Entry, effect_reply}
use Rattle.lh_core.specs.History.{IsEntry, served_by}

-- the configuration of a file, its state, and its filled buckets in the order of their numbers
pub record WorldSeen : Type 0 where
  pub config : Settings
  pub state : State
  pub buckets : List Seen

-- what is read past the last bucket
abbrev pub no_bucket : Seen
no_bucket = record { head = record { number = 0; initial = 0; capacity = 0; level = None }; pairs = [] }

-- a bucket of a row
abbrev pub bucket_at : List Seen → ℕ → Seen
bucket_at buckets i = slice_index_or buckets i no_bucket

-- Each record of a map stands in the bucket of its address and nowhere else: bucket i holds just the pairs of the map
-- whose address is i, and there are no buckets but these.
pub record IsPlaced (initial size : ℕ) (map : Records) (buckets : List Seen) : Type 0 where
  pub all : length buckets ≡ size
  pub each : (i : ℕ) → i < size →
      content (bucket_at buckets i) ≡ retain_keys map (λ key. address initial size (code_of key) == i)

-- a bucket has each of its keys once
abbrev pub HasKeysOnce : Seen → Type 0
HasKeysOnce bucket = IsDistinct bytes_eq (keys_of bucket.pairs)

-- so do the first buckets
abbrev pub HaveKeysOnce : ℕ → List Seen → Type 0
HaveKeysOnce size buckets = (i : ℕ) → i < size → HasKeysOnce (bucket_at buckets i)

-- each bucket has its local level
pub record HasLevels (initial size : ℕ) (buckets : List Seen) : Type 0 where
  pub each : (i : ℕ) → i < size → (bucket_at buckets i).head.level ≡ Some (level_of initial size i)

-- the filled buckets of a world stand for a map
abbrev pub StandsFor : WorldSeen → Records → Type 0
StandsFor world map = IsPlaced world.config.initial world.state.filled map world.buckets

-- the reply of a map to a call, if there is a call
abbrev pub reply_to : Records → Option Call → Option Reply
reply_to map None = None
reply_to map (Some call) = Some (reply map call)

-- the map after a call, if there is a call
abbrev pub map_after : Records → Option Call → Records
map_after map None = map
map_after map (Some call) = after map call

-- beside a map, a step tells the map's reply to the call that it serves, and leaves buckets that stand for the map
-- after that call; a refusal leaves buckets that stand for the map
abbrev pub FollowsMap : WorldSeen → Records → Event → Entry → WorldSeen → Type 0
FollowsMap world map event (Ok effect) next =
    (effect_reply effect ≡ reply_to map (served_by world.state event))
    × StandsFor next (map_after map (served_by world.state event))
FollowsMap world map event (Err refusal) next = StandsFor next map

-- One step of a world: the configuration stays, entry and state are those of the rules, and the buckets follow every
-- map that they stand for.
pub record IsStep (world : WorldSeen) (event : Event) (entry : Entry) (next : WorldSeen) : Type 0 where
  pub config : next.config ≡ world.config
  pub ruled : IsEntry world.config world.state event entry next.state
  pub follows : (map : Records) → StandsFor world map → FollowsMap world map event entry next
