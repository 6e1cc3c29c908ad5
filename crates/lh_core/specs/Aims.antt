-- The aims of the workers
use Rattle.std.specs.Prelude.{◌≡◌, ℕ, Some, slice_get}
use Rattle.lh_addr.specs.Fnv.{code_of}
use Rattle.lh_addr.specs.Growth.{IsAim}
use Rattle.lh_addr.specs.Settings.{Settings}
use Rattle.lh_bucket.specs.Call.{key_of}
use Rattle.lh_core.specs.declared.state.WorkerState.{WorkerState}
use Rattle.lh_core.specs.declared.state.WorkerState.TheVariants.{Aimed, Holding}
use Rattle.lh_core.specs.State.{State}

-- the aim of a worker, if it has one, leads by the hash of its level to a filled bucket of no lower level
abbrev pub Leads : ℕ → ℕ → WorkerState → Type 0
Leads initial filled (Aimed call k bucket) = IsAim initial filled (code_of (key_of call)) k bucket
Leads initial filled (Holding call k bucket) = IsAim initial filled (code_of (key_of call)) k bucket
Leads initial filled _ = Unit {0}

-- the aims of all workers lead where they should
abbrev pub AimsLead : Settings → State → Type 0
AimsLead config state =
    (worker : ℕ) (doing : WorkerState) → slice_get state.workers worker ≡ Some doing →
    Leads config.initial state.filled doing
