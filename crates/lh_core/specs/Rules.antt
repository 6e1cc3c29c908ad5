-- The rules of the steps: which event a state allows, its effect, and the next state
use Rattle.std.specs.Prelude.{ℕ, ◌+◌, Option, Some, None, Result, Ok, Err, ◌==◌, if◌then◌else◌, nat_lt, slice_get}
use Rattle.lh_addr.specs.Fnv.{code_of}
use Rattle.lh_addr.specs.Growth.{address, level_of, hash_at}
use Rattle.lh_addr.specs.Settings.{Settings}
use Rattle.lh_bucket.specs.declared.call.Call.{Call}
use Rattle.lh_bucket.specs.Call.{key_of}
use Rattle.lh_core.specs.declared.effect.Effect.{Effect}
use Rattle.lh_core.specs.declared.effect.Effect.TheVariants as effect
use Rattle.lh_core.specs.declared.effect.Refusal.{Refusal}
use Rattle.lh_core.specs.declared.effect.Refusal.TheVariants.{WrongState, Held, MustRehash, NothingToRehash, SplitBusy}
use Rattle.lh_core.specs.declared.effect.Refusal.TheVariants.{FileFull}
use Rattle.lh_core.specs.declared.event.Event.{Event}
use Rattle.lh_core.specs.declared.event.Event.TheVariants as event
use Rattle.lh_core.specs.declared.state.WorkerState.{WorkerState}
use Rattle.lh_core.specs.declared.state.WorkerState.TheVariants.{Idle, Called, Aimed, Holding, Acted}
use Rattle.lh_core.specs.declared.state.SplitState.{SplitState}
use Rattle.lh_core.specs.declared.state.SplitState.TheVariants as split
use Rattle.lh_core.specs.State.{State, local_level, splitting, with_worker, with_splitter, with_moved, with_pointed}
use Rattle.lh_core.specs.Holds.{is_barred, is_held}

-- what a step makes of one worker: its effect and what the worker does next, or the refusal. The effect is none where
-- it is an act's reply, which the map gives
abbrev pub WorkerStep : Type 0
WorkerStep = Result (Option Effect × WorkerState) Refusal

-- what a step makes of the state: its effect and the next state, or the refusal
abbrev pub Allowed : Type 0
Allowed = Result (Option Effect × State) Refusal

-- a worker with an aim
abbrev pub aimed : Call → ℕ → ℕ → WorkerStep
aimed call k bucket = Ok (Some (effect.Aim k bucket), Aimed call k bucket)

-- the bucket of a call's key, by the root
abbrev pub home : Settings → State → Call → ℕ
home config state call = address config.initial state.buckets (code_of (key_of call))

-- a call comes in where nothing happens
abbrev pub called : Call → WorkerState → WorkerStep
called call Idle = Ok (Some effect.Called, Called call)
called call _ = Err WrongState

-- a root is read: the aim is the key's bucket by that root, at the bucket's level by that root
abbrev pub read : Settings → State → WorkerState → WorkerStep
read config state (Called call) =
    aimed call (level_of config.initial state.buckets (home config state call)) (home config state call)
read config state _ = Err WrongState

-- a bucket is locked, unless it is barred
abbrev pub lock : Settings → State → WorkerState → WorkerStep
lock config state (Aimed call k bucket) =
    if is_barred config state call bucket
    then Err Held
    else Ok (Some (effect.Locked bucket (local_level config state bucket)), Holding call k bucket)
lock config state _ = Err WrongState

-- a rehash goes one level up, unless the bucket's level is the worker's
abbrev pub rehash : Settings → State → WorkerState → WorkerStep
rehash config state (Holding call k bucket) =
    if k == local_level config state bucket
    then Err NothingToRehash
    else aimed call (k + 1) (hash_at config.initial (k + 1) (code_of (key_of call)))
rehash config state _ = Err WrongState

-- an act takes place at the bucket's own level, and not below it
abbrev pub act : Settings → State → WorkerState → WorkerStep
act config state (Holding call k bucket) =
    if nat_lt k (local_level config state bucket) then Err MustRehash else Ok (None, Acted call bucket)
act config state _ = Err WrongState

-- a bucket is let go, after an act or without one
abbrev pub release : WorkerState → WorkerStep
release (Holding call k bucket) = Ok (Some effect.GivenUp, Idle)
release (Acted call bucket) = Ok (Some effect.Released, Idle)
release _ = Err WrongState

-- a split begins, unless one is under way or the file is full
abbrev pub begin_split : Settings → State → SplitState → Allowed
begin_split config state split.Idle =
    if state.buckets == config.max
    then Err FileFull
    else Ok (Some (effect.Begun (splitting config state) state.buckets), with_splitter state split.Begun)
begin_split config state _ = Err SplitBusy

-- the old bucket is locked, unless it is held; nobody can hold the new one
abbrev pub lock_both : Settings → State → SplitState → Allowed
lock_both config state split.Begun =
    if is_held config state (splitting config state)
    then Err Held
    else Ok (Some (effect.Both (splitting config state) state.buckets), with_splitter state split.Locked)
lock_both config state _ = Err WrongState

-- the records are divided, and the new bucket is filled
abbrev pub move_records : Settings → State → SplitState → Allowed
move_records config state split.Locked =
    Ok (Some (effect.Moved (splitting config state) state.buckets), with_moved state)
move_records config state _ = Err WrongState

-- both buckets are let go; where nothing was moved, the split is where it began
abbrev pub free_both : State → SplitState → Allowed
free_both state split.Locked = Ok (Some effect.Freed, with_splitter state split.Begun)
free_both state split.LockedMoved = Ok (Some effect.Freed, with_splitter state split.Moved)
free_both state _ = Err WrongState

-- the pointer moves on, once the records are moved
abbrev pub point : State → SplitState → Allowed
point state split.Moved = Ok (Some (effect.Point state.filled), with_pointed state)
point state _ = Err WrongState

-- a split is given up, as long as nothing was moved
abbrev pub drop_split : State → SplitState → Allowed
drop_split state split.Begun = Ok (Some effect.Dropped, with_splitter state split.Idle)
drop_split state _ = Err WrongState

-- what a step of one worker makes of the state
abbrev pub put : State → ℕ → WorkerStep → Allowed
put state worker (Ok moved) = Ok (moved.0, with_worker state worker moved.1)
put state worker (Err refusal) = Err refusal

-- a step of a worker, if there is such a worker
abbrev pub put_at : State → ℕ → (WorkerState → WorkerStep) → Option WorkerState → Allowed
put_at state worker step None = Err WrongState
put_at state worker step (Some doing) = put state worker (step doing)

-- a step of a worker of the state
abbrev pub at_worker : State → ℕ → (WorkerState → WorkerStep) → Allowed
at_worker state worker step = put_at state worker step (slice_get state.workers worker)

-- the rules: what each event makes of a state
abbrev pub allowed : Settings → State → Event → Allowed
allowed config state (event.Call worker call) = at_worker state worker (called call)
allowed config state (event.Read worker) = at_worker state worker (read config state)
allowed config state (event.Lock worker) = at_worker state worker (lock config state)
allowed config state (event.Rehash worker) = at_worker state worker (rehash config state)
allowed config state (event.Act worker) = at_worker state worker (act config state)
allowed config state (event.Release worker) = at_worker state worker release
allowed config state event.SplitBegin = begin_split config state state.splitter
allowed config state event.SplitLock = lock_both config state state.splitter
allowed config state event.SplitMove = move_records config state state.splitter
allowed config state event.SplitRelease = free_both state state.splitter
allowed config state event.SplitPoint = point state state.splitter
allowed config state event.SplitDrop = drop_split state state.splitter
