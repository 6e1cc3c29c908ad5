-- The part of a world that the rules speak of, as the rules see it
use Rattle.std.specs.Prelude.{◌≡◌, ℕ, ◌<◌, ◌≤◌, List, Some, Result, Ok, Err, slice_get}
use Rattle.lh_addr.specs.Fnv.{code_of}
use Rattle.lh_addr.specs.Growth.{IsAim, level_of}
use Rattle.lh_addr.specs.Limits.{most_level}
use Rattle.lh_addr.specs.Settings.{IsInRange}
use Rattle.lh_bucket.specs.Bucket.{Seen}
use Rattle.lh_bucket.specs.Call.{key_of}
use Rattle.lh_core.specs.declared.control.Act.{Act}
use Rattle.lh_core.specs.declared.control.Control.{Control}
use Rattle.lh_core.specs.declared.effect.Effect.{Effect}
use Rattle.lh_core.specs.declared.effect.Effect.TheVariants as effect
use Rattle.lh_core.specs.declared.effect.Refusal.{Refusal}
use Rattle.lh_core.specs.declared.event.Event.{Event}
use Rattle.lh_core.specs.declared.event.Event.TheVariants as event
use Rattle.lh_core.specs.declared.state.WorkerState.TheVariants.{Holding, Acted}
use Rattle.lh_core.specs.State.{State, with_worker}
use Rattle.lh_core.specs.Rules.{Allowed}
use Rattle.lh_core.specs.Sound.{IsSound}
use Rattle.lh_core.specs.World.{WorldSeen}

-- the state of a world with this control
abbrev pub control_state : Control → State
control_state c = record {
  buckets = c.root.buckets;
  filled = c.filled.buckets;
  workers = c.workers;
  splitter = c.splitter;
}

-- the file's configuration is in range, both roots are of it, and the state is sound
pub record IsControl (c : Control) : Type 0 where
  pub range : IsInRange c.config
  pub root : c.root.initial ≡ c.config.initial
  pub filled : c.filled.initial ≡ c.config.initial
  pub sound : IsSound c.config (control_state c)

-- the configuration and what the file began with stay
pub record KeepsFile (c d : Control) : Type 0 where
  pub config : d.config ≡ c.config
  pub root : d.root.initial ≡ c.root.initial
  pub filled : d.filled.initial ≡ c.filled.initial

-- what a step gave and left, as the rules see it
abbrev pub step_to : Result Effect Refusal → Control → Allowed
step_to (Ok effect) c = Ok (Some effect, control_state c)
step_to (Err refusal) c = Err refusal

-- an effect that tells no reply
abbrev pub HasNoReply : Effect → Type 0
HasNoReply (effect.Answered reply) = ⊥
HasNoReply _ = Unit {0}

-- an event that leaves the records where they are
abbrev pub IsQuiet : Event → Type 0
IsQuiet (event.Act worker) = ⊥
IsQuiet event.SplitMove = ⊥
IsQuiet _ = Unit {0}

-- a call at the bucket that it aims at, at the bucket's level
pub record IsAimed (c : Control) (act : Act) : Type 0 where
  pub low : act.level ≤ most_level
  pub aim : IsAim c.config.initial c.filled.buckets (code_of (key_of act.call.now)) act.level act.bucket
  pub level : act.level ≡ level_of c.config.initial c.filled.buckets act.bucket

-- the act of a worker: its call, at the level that it came with, which is the bucket's
pub record IsActOf (c : Control) (worker : ℕ) (act : Act) : Type 0 where
  pub there : worker < 16
  pub low : act.level ≤ most_level
  pub held : slice_get c.workers worker ≡ Some (Holding act.call.now act.level act.bucket)
  pub aim : IsAim c.config.initial c.filled.buckets (code_of (key_of act.call.now)) act.level act.bucket
  pub level : act.level ≡ level_of c.config.initial c.filled.buckets act.bucket

-- the state after an act
abbrev pub acted : State → ℕ → Act → State
acted state worker act = with_worker state worker (Acted act.call.now act.bucket)

-- a world with these buckets
abbrev pub world_of : Control → List Seen → WorldSeen
world_of c buckets = record { config = c.config; state = control_state c; buckets = buckets }
