-- What holds of every state that steps lead to
use Rattle.std.specs.Prelude.{◌≡◌, ℕ, ◌+◌, ◌<◌, ◌≤◌, length}
use Rattle.lh_addr.specs.Settings.{Settings}
use Rattle.lh_core.specs.declared.state.SplitState.{SplitState}
use Rattle.lh_core.specs.declared.state.SplitState.TheVariants as split
use Rattle.lh_core.specs.State.{State}
use Rattle.lh_core.specs.Aims.{AimsLead}

-- how many buckets are filled, by what the splitter does: one more than the root counts from the move to the pointer
abbrev pub IsPhase : Settings → ℕ → ℕ → SplitState → Type 0
IsPhase config buckets filled split.Idle = filled ≡ buckets
IsPhase config buckets filled split.Begun = (filled ≡ buckets) × (buckets < config.max)
IsPhase config buckets filled split.Locked = (filled ≡ buckets) × (buckets < config.max)
IsPhase config buckets filled split.LockedMoved = (filled ≡ buckets + 1) × (buckets < config.max)
IsPhase config buckets filled split.Moved = (filled ≡ buckets + 1) × (buckets < config.max)

-- the numbers of a state are within its configuration, sixteen workers are there, and their aims lead
pub record IsSound (config : Settings) (state : State) : Type 0 where
  pub some : 1 ≤ config.initial
  pub from_initial : config.initial ≤ state.buckets
  pub to_max : state.buckets ≤ config.max
  pub sixteen : length state.workers ≡ 16
  pub phase : IsPhase config state.buckets state.filled state.splitter
  pub aims : AimsLead config state
