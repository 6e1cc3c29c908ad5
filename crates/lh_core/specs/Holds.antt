-- Which buckets are held, and by whom: it follows from what the workers and the splitter are doing
use Rattle.std.specs.Prelude.{ℕ, Bool, true, false, not, ◌||◌, ◌&&◌, ◌==◌, if◌then◌else◌}
use Rattle.std.specs.List.{list_any}
use Rattle.lh_addr.specs.Settings.{Settings}
use Rattle.lh_bucket.specs.declared.call.Call.{Call}
use Rattle.lh_bucket.specs.Call.{is_search}
use Rattle.lh_core.specs.declared.state.WorkerState.{WorkerState}
use Rattle.lh_core.specs.declared.state.WorkerState.TheVariants.{Holding, Acted}
use Rattle.lh_core.specs.declared.state.SplitState.{SplitState}
use Rattle.lh_core.specs.declared.state.SplitState.TheVariants as split
use Rattle.lh_core.specs.State.{State, splitting}

-- whether a worker holds a bucket
abbrev pub holds : ℕ → WorkerState → Bool
holds bucket (Holding call k m) = m == bucket
holds bucket (Acted call m) = m == bucket
holds bucket _ = false

-- whether a worker holds a bucket exclusively, as it does for every call but a search
abbrev pub holds_alone : ℕ → WorkerState → Bool
holds_alone bucket (Holding call k m) = (m == bucket) && not (is_search call)
holds_alone bucket (Acted call m) = (m == bucket) && not (is_search call)
holds_alone bucket _ = false

-- whether the splitter holds its two buckets
abbrev pub has_locks : SplitState → Bool
has_locks split.Locked = true
has_locks split.LockedMoved = true
has_locks _ = false

-- whether the splitter holds a bucket, which it does exclusively
abbrev pub split_holds : Settings → State → ℕ → Bool
split_holds config state bucket =
    has_locks state.splitter && ((bucket == splitting config state) || (bucket == state.buckets))

-- whether anyone holds a bucket
unfoldable pub is_held : Settings → State → ℕ → Bool
is_held config state bucket = list_any (holds bucket) state.workers || split_holds config state bucket

-- whether anyone holds a bucket exclusively
unfoldable pub is_held_alone : Settings → State → ℕ → Bool
is_held_alone config state bucket = list_any (holds_alone bucket) state.workers || split_holds config state bucket

-- whether a call may not lock a bucket: a search where it is held exclusively, another call where it is held at all
unfoldable pub is_barred : Settings → State → Call → ℕ → Bool
is_barred config state call bucket =
    if is_search call then is_held_alone config state bucket else is_held config state bucket
