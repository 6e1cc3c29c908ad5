-- What a picture means: each step stands in a lane that is drawn,
-- and a box or an arrow reaches down to the step that ends it
use Rattle.std.specs.Prelude.{◌≡◌, ◌⊎◌, ℕ, ◌+◌, ◌<◌, ◌≤◌, Bool, true, false, List, ◌∷◌, ◌++◌, length, Some, Ok}
use Rattle.std.specs.Prelude.{slice_get}
use Rattle.std.specs.List.{list_any}
use Rattle.lh_addr.specs.Settings.{Settings}
use Rattle.lh_core.specs.declared.effect.Effect.TheVariants as effect
use Rattle.lh_core.specs.declared.event.Event.{Event}
use Rattle.lh_core.specs.declared.event.Event.TheVariants as event
use Rattle.lh_core.specs.declared.state.WorkerState.{WorkerState}
use Rattle.lh_core.specs.History.{IsHistory}
use Rattle.lh_core.specs.Holds.{holds, split_holds}
use Rattle.lh_core.specs.Log.{Entry, Log}
use Rattle.lh_core.specs.State.{State}
use Rattle.lh_replay.specs.Lanes.{ends_at, lane_count, lane_of, rows_until}
use Rattle.lh_replay.specs.Picture.{event_at, told_at}

-- whether the step of a row ends a box of a lane, or an arrow
abbrev pub ends_row : Bool → ℕ → List Event → List Entry → ℕ → Bool
ends_row is_lock lane events entries row = ends_at is_lock lane (event_at events row) (told_at entries row)

-- what is drawn in a lane reaches over this many of these steps:
-- the last of them ends it and none before, or none ends it and there are no more
pub record Reaches (is_lock : Bool) (lane : ℕ) (events : List Event) (entries : List Entry) (rows : ℕ) : Type 0 where
  pub within : rows ≤ length events
  pub goes_on : (row : ℕ) → row + 1 < rows → ends_row is_lock lane events entries row ≡ false
  pub ends :
      ((last : ℕ) × (rows ≡ last + 1) × (ends_row is_lock lane events entries last ≡ true))
      ⊎ ((rows ≡ length events) × ((row : ℕ) → row < rows → ends_row is_lock lane events entries row ≡ false))

-- A box reaches down to the first accepted step of its lane that lets a bucket go,
-- and an arrow to the first that locks one; without such a step, to the last row.
abbrev pub ReachLaw : Type 0
ReachLaw = (is_lock : Bool) (lane : ℕ) (events : List Event) (entries : List Entry) → length entries ≡ length events →
    Reaches is_lock lane events entries (rows_until is_lock lane events entries)

-- The lane of each step is drawn.
abbrev pub LaneLaw : Type 0
LaneLaw = (events : List Event) (row : ℕ) → row < length events → lane_of (event_at events row) < lane_count events

-- a worker holds a bucket in a state
abbrev pub DoesHold : State → ℕ → ℕ → Type 0
DoesHold state worker bucket =
    (doing : WorkerState) × (slice_get state.workers worker ≡ Some doing) × (holds bucket doing ≡ true)

-- As far as its box reaches, a bucket is held by its worker:
-- after an accepted lock and later steps of which none ends the box, the worker holds the bucket.
abbrev pub HeldLaw : Type 0
HeldLaw = (config : Settings) (worker bucket level : ℕ) (earlier later : Log) (state : State) →
    IsHistory config (later ++ (event.Lock worker, Ok (effect.Locked bucket level)) ∷ earlier) state →
    list_any (λ step. ends_at false (worker + 1) step.0 step.1) later ≡ false → DoesHold state worker bucket

-- As far as their boxes reach, two buckets are held by the splitter.
abbrev pub BothHeldLaw : Type 0
BothHeldLaw = (config : Settings) (old new : ℕ) (earlier later : Log) (state : State) →
    IsHistory config (later ++ (event.SplitLock, Ok (effect.Both old new)) ∷ earlier) state →
    list_any (λ step. ends_at false 0 step.0 step.1) later ≡ false →
    (split_holds config state old ≡ true) × (split_holds config state new ≡ true)
