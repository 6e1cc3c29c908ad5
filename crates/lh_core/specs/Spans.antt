-- Where an act lies: in the span of a call, and as many rehashes after the read as the level has risen
use Rattle.std.specs.Prelude.{◌≡◌, ℕ, ◌+◌, Bool, false, [], ◌∷◌, ◌++◌, Some, Ok, ◌==◌, slice_get, count_by}
use Rattle.std.specs.List.{list_any}
use Rattle.lh_addr.specs.Settings.{Settings}
use Rattle.lh_bucket.specs.declared.call.Call.{Call}
use Rattle.lh_core.specs.declared.effect.Effect.{Effect}
use Rattle.lh_core.specs.declared.effect.Effect.TheVariants as effect
use Rattle.lh_core.specs.declared.event.Event.{Event}
use Rattle.lh_core.specs.declared.event.Event.TheVariants as event
use Rattle.lh_core.specs.declared.state.WorkerState.TheVariants.{Holding}
use Rattle.lh_core.specs.State.{State, local_level}
use Rattle.lh_core.specs.Log.{Entry, Log, if_accepted, open_call}

-- whether an event is a call, act or release of a worker
abbrev pub is_bound_by : ℕ → Event → Bool
is_bound_by worker (event.Call other call) = other == worker
is_bound_by worker (event.Act other) = other == worker
is_bound_by worker (event.Release other) = other == worker
is_bound_by worker _ = false

-- whether a step is an accepted call, act or release of a worker
abbrev pub is_bound : ℕ → Event × Entry → Bool
is_bound worker step = if_accepted step.1 (is_bound_by worker step.0) false

-- the span of a call of a worker reaches to the end of a log: the call was accepted there, and no call, act or release
-- of that worker since
pub record IsInSpan (worker : ℕ) (log : Log) (call : Call) : Type 0 where
  pub later : Log
  pub earlier : Log
  pub effect : Effect
  pub is : log ≡ later ++ (event.Call worker call, Ok effect) ∷ earlier
  pub since : list_any (is_bound worker) later ≡ false

-- an accepted act after a log lies in the span of the call that it serves
abbrev pub ActLiesInSpan : Event → Entry → Log → Type 0
ActLiesInSpan (event.Act worker) (Ok effect) log =
    (call : Call) × (open_call worker log ≡ Some call) × IsInSpan worker log call
ActLiesInSpan _ _ log = Unit {0}

-- every accepted act of a log lies in the span of the call that it serves
abbrev pub ActsLieInSpans : Log → Type 0
ActsLieInSpans [] = Unit {0}
ActsLieInSpans (step ∷ log) = ActsLieInSpans log × ActLiesInSpan step.0 step.1 log

-- whether an event is a call, read, act or release of a worker
abbrev pub is_turn_by : ℕ → Event → Bool
is_turn_by worker (event.Call other call) = other == worker
is_turn_by worker (event.Read other) = other == worker
is_turn_by worker (event.Act other) = other == worker
is_turn_by worker (event.Release other) = other == worker
is_turn_by worker _ = false

-- whether a step is an accepted call, read, act or release of a worker
abbrev pub is_turn : ℕ → Event × Entry → Bool
is_turn worker step = if_accepted step.1 (is_turn_by worker step.0) false

-- whether an event is a rehash of a worker
abbrev pub is_rehash_by : ℕ → Event → Bool
is_rehash_by worker (event.Rehash other) = other == worker
is_rehash_by worker _ = false

-- whether a step is an accepted rehash of a worker
abbrev pub is_accepted_rehash : ℕ → Event × Entry → Bool
is_accepted_rehash worker step = if_accepted step.1 (is_rehash_by worker step.0) false

-- a worker has come to a level: it read a lower one, or this one, and has rehashed once for each level since
pub record HasRisen (worker : ℕ) (log : Log) (k : ℕ) : Type 0 where
  pub later : Log
  pub earlier : Log
  pub low : ℕ
  pub bucket : ℕ
  pub is : log ≡ later ++ (event.Read worker, Ok (effect.Aim low bucket)) ∷ earlier
  pub since : list_any (is_turn worker) later ≡ false
  pub rises : k ≡ low + count_by (is_accepted_rehash worker) later

-- a worker holds a bucket, and has come to just that bucket's level
pub record HasRisenToAct (config : Settings) (state : State) (worker : ℕ) (log : Log) : Type 0 where
  pub call : Call
  pub k : ℕ
  pub bucket : ℕ
  pub holding : slice_get state.workers worker ≡ Some (Holding call k bucket)
  pub same : local_level config state bucket ≡ k
  pub risen : HasRisen worker log k
