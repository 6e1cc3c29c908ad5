-- Logs of steps: which calls were served, and what they were told. A log has the newest step first
use Rattle.std.specs.Prelude.{ℕ, List, [], ◌∷◌, ◌++◌, Option, Some, None, Result, Ok, Err, ◌==◌, if◌then◌else◌}
use Rattle.lh_bucket.specs.declared.call.Call.{Call}
use Rattle.lh_bucket.specs.declared.call.Reply.{Reply}
use Rattle.lh_core.specs.declared.effect.Effect.{Effect}
use Rattle.lh_core.specs.declared.effect.Effect.TheVariants as effect
use Rattle.lh_core.specs.declared.effect.Refusal.{Refusal}
use Rattle.lh_core.specs.declared.event.Event.{Event}
use Rattle.lh_core.specs.declared.event.Event.TheVariants as event

-- an event's effect, or why it is refused
abbrev pub Entry : Type 0
Entry = Result Effect Refusal

-- the steps that were taken, each with what was told of it
abbrev pub Log : Type 0
Log = List (Event × Entry)

-- a log with more steps after it
abbrev pub logged : Log → List Event → List Entry → Log
logged log [] entries = log
logged log (event ∷ events) [] = log
logged log (event ∷ events) (entry ∷ entries) = logged ((event, entry) ∷ log) events entries

-- the log of a list of events and their entries
abbrev pub log_of : List Event → List Entry → Log
log_of events entries = logged [] events entries

-- one value where a step was accepted, another where it was refused
abbrev pub if_accepted : {X : Type 0} → Entry → X → X → X
if_accepted (Ok effect) accepted refused = accepted
if_accepted (Err refusal) accepted refused = refused

-- the open call of a worker after an accepted event: a call opens it, an act and a release close it
abbrev pub open_after : ℕ → Event → Option Call → Option Call
open_after worker (event.Call other call) before = if other == worker then Some call else before
open_after worker (event.Act other) before = if other == worker then None else before
open_after worker (event.Release other) before = if other == worker then None else before
open_after worker _ before = before

-- the open call of a worker: the last one that came in there, unless there was an act or a release since
abbrev pub open_call : ℕ → Log → Option Call
open_call worker [] = None
open_call worker (step ∷ log) =
    if_accepted step.1 (open_after worker step.0 (open_call worker log)) (open_call worker log)

-- calls, and one more if there is one
abbrev pub and_call : List Call → Option Call → List Call
and_call calls None = calls
and_call calls (Some call) = calls ++ call ∷ []

-- the calls that were served, after one more accepted event
abbrev pub acts_after : Event → Log → List Call → List Call
acts_after (event.Act worker) log calls = and_call calls (open_call worker log)
acts_after _ log calls = calls

-- the calls of the accepted acts, the oldest first
abbrev pub acts : Log → List Call
acts [] = []
acts (step ∷ log) = if_accepted step.1 (acts_after step.0 log (acts log)) (acts log)

-- the reply that an effect tells, if it is one
abbrev pub effect_reply : Effect → Option Reply
effect_reply (effect.Answered reply) = Some reply
effect_reply _ = None

-- replies, and one more if there is one
abbrev pub and_reply : List Reply → Option Reply → List Reply
and_reply replies None = replies
and_reply replies (Some reply) = replies ++ reply ∷ []

-- the replies that were given, after one more entry
abbrev pub given_by : Entry → List Reply → List Reply
given_by (Ok effect) replies = and_reply replies (effect_reply effect)
given_by (Err refusal) replies = replies

-- the replies that were given, the oldest first
abbrev pub given : Log → List Reply
given [] = []
given (step ∷ log) = given_by step.1 (given log)
