-- Which entries and which states a list of steps gives, by the rules
use Rattle.std.specs.Prelude.{◌≡◌, Bool, true, false, [], ◌∷◌, Option, Some, None, Ok, Err, ◌⊎◌, slice_get}
use Rattle.std.specs.Result.{IsOk}
use Rattle.lh_addr.specs.Settings.{Settings}
use Rattle.lh_bucket.specs.declared.call.Call.{Call}
use Rattle.lh_bucket.specs.Call.{is_insert}
use Rattle.lh_core.specs.declared.effect.Effect.{Effect}
use Rattle.lh_core.specs.declared.effect.Effect.TheVariants as effect
use Rattle.lh_core.specs.declared.effect.Refusal.TheVariants.{Memory}
use Rattle.lh_core.specs.declared.event.Event.{Event}
use Rattle.lh_core.specs.declared.event.Event.TheVariants as event
use Rattle.lh_core.specs.declared.state.WorkerState.{WorkerState}
use Rattle.lh_core.specs.declared.state.WorkerState.TheVariants.{Holding}
use Rattle.lh_core.specs.State.{State, first}
use Rattle.lh_core.specs.Rules.{allowed}
use Rattle.lh_core.specs.Log.{Entry, Log}

-- an effect, or none where it is a reply
abbrev pub outline : Effect → Option Effect
outline (effect.Answered reply) = None
outline effect = Some effect

-- the call of a worker that holds the bucket of its aim
abbrev pub call_held : Option WorkerState → Option Call
call_held (Some (Holding call k bucket)) = Some call
call_held _ = None

-- the call that an event serves in a state, if it is an act where a bucket is held
abbrev pub served_by : State → Event → Option Call
served_by state (event.Act worker) = call_held (slice_get state.workers worker)
served_by state _ = None

-- whether a call is there, and is an insert
abbrev pub has_insert : Option Call → Bool
has_insert (Some call) = is_insert call
has_insert None = false

-- whether a step may want memory: the moving of a split's records, and the act of an insert
abbrev pub may_want_memory : State → Event → Bool
may_want_memory state event.SplitMove = true
may_want_memory state event = has_insert (served_by state event)

-- An entry is the effect where the rules allow the event, and exactly the rules' refusal where they don't. Where they
-- allow it, it may be refused because memory ran out, if it takes any. A refusal leaves the state.
abbrev pub IsEntry : Settings → State → Event → Entry → State → Type 0
IsEntry config state event (Ok effect) next = allowed config state event ≡ Ok (outline effect, next)
IsEntry config state event (Err refusal) next =
    (next ≡ state)
    × ((allowed config state event ≡ Err refusal)
    ⊎ ((refusal ≡ Memory) × (may_want_memory state event ≡ true) × IsOk (allowed config state event)))

-- a log leads from the first state to a state, entry by entry
abbrev pub IsHistory : Settings → Log → State → Type 0
IsHistory config [] state = state ≡ first config
IsHistory config (step ∷ log) state =
    (before : State) × IsHistory config log before × IsEntry config before step.0 step.1 state
