-- The state of a world but for its records: plain data, over which the rules of the steps are stated
use Rattle.std.specs.Prelude.{ℕ, ◌+◌, List, replicate, slice_set}
use Rattle.lh_addr.specs.Growth.{level_of, pointer}
use Rattle.lh_addr.specs.Settings.{Settings}
use Rattle.lh_core.specs.declared.state.WorkerState.{WorkerState}
use Rattle.lh_core.specs.declared.state.WorkerState.TheVariants.{Idle}
use Rattle.lh_core.specs.declared.state.SplitState.{SplitState}
use Rattle.lh_core.specs.declared.state.SplitState.TheVariants as split

-- the buckets that the root counts, the buckets that are filled, and what each worker and the splitter are doing
pub record State : Type 0 where
  pub buckets : ℕ
  pub filled : ℕ
  pub workers : List WorkerState
  pub splitter : SplitState

-- sixteen workers that do nothing
abbrev pub all_idle : List WorkerState
all_idle = replicate 16 Idle

-- the state of a file of so many buckets, with nobody at work
abbrev pub resting : ℕ → State
resting buckets = record { buckets = buckets; filled = buckets; workers = all_idle; splitter = split.Idle }

-- the first state of a file
abbrev pub first : Settings → State
first config = resting config.initial

-- the local level of a bucket, by the number of filled buckets
abbrev pub local_level : Settings → State → ℕ → ℕ
local_level config state bucket = level_of config.initial state.filled bucket

-- the bucket that splits next
abbrev pub splitting : Settings → State → ℕ
splitting config state = pointer config.initial state.buckets

-- the state with another thing done by a worker
abbrev pub with_worker : State → ℕ → WorkerState → State
with_worker state worker doing = record state { workers = slice_set state.workers worker doing }

-- the state with another thing done by the splitter
abbrev pub with_splitter : State → SplitState → State
with_splitter state doing = record state { splitter = doing }

-- the state after the records of a split are divided: one bucket more is filled
abbrev pub with_moved : State → State
with_moved state = record state { filled = state.buckets + 1; splitter = split.LockedMoved }

-- the state after a split: the root counts the filled buckets
abbrev pub with_pointed : State → State
with_pointed state = record state { buckets = state.filled; splitter = split.Idle }
