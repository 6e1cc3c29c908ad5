-- What a run of calls in threads may tell: the totals of a settled history, or why there are none
use Rattle.std.specs.Prelude.{◌≡◌, ◌≢◌, ◌⊎◌, ◌≤◌, ℕ, ◌-◌, ◌%◌, ◌^◌, true, min, List, [], ◌++◌, All, Contains, Option}
use Rattle.std.specs.Prelude.{Ok, length, replicate}
use Rattle.std.specs.Io.KnownBytes.{Keeps}
use Rattle.lh_addr.specs.Settings.{Settings}
use Rattle.lh_bucket.specs.declared.call.Call.{Call as CallOf}
use Rattle.lh_bucket.specs.Listing.{Lists, count_of}
use Rattle.lh_settling.specs.Acts.{replies_of, acts_before}
use Rattle.lh_settling.specs.ClosedFile.{ClosedFile}
use Rattle.lh_settling.specs.SettleFault.{IsDue}
use Rattle.lh_settling.specs.Settled.{IsSettled, Settled}
use Rattle.lh_settling.specs.declared.act.ActLine.{ActLine}
use Rattle.lh_settling.specs.declared.settle_fault.SettleFault.TheVariants as settle
use Rattle.lh_settling.specs.declared.settle_fault.SettleFault.{SettleFault}
use Rattle.lh_file.specs.Snapshots.Settled.{IsSettledFirst}
use Rattle.lh_file.specs.declared.fault.FileFault.{FileFault}
use Rattle.lh_file.specs.declared.fault.FileFault.TheVariants as file
use Rattle.lh_script.specs.Commands.{command}
use Rattle.lh_script.specs.declared.notation.Notation.{Notation}
use Rattle.lhash.specs.Driven.{Counts, driven_text, snapshots_text}
use Rattle.lh_subcommands.specs.Run.{EndsTelling}
use Rattle.lh_script.specs.Scripts.{script}
use Rattle.lhash.specs.declared.drive.DriveFault.{DriveFault}
use Rattle.lhash.specs.declared.drive.DriveFault.TheVariants.{Settle, Call, Thread, Memory}
use Rattle.lhash.specs.declared.driven.Driven.{Driven}
use Rattle.lh_subcommands.specs.declared.status.Status.{Status}
use Rattle.lh_subcommands.specs.declared.status.Status.TheVariants.{NotSettled, Memory as NoMemory}
use Rattle.lh_subcommands.specs.declared.unsettled.Unsettled.TheVariants as unsettled

-- the listing of an empty file
abbrev pub empty_file : Settings → Lists
empty_file settings = record { config = settings; lists = replicate settings.initial [] }

-- The totals are those of a legal history: a closed file of the settings, and some acts, are settled with it, from an
-- empty file on; the replies are counted, one for each call of the script, and the records of the closed file (from
-- 2^64 on it would be 2^64 - 1).
pub record IsDriven (settings : Settings) (calls : List CallOf) (d : Driven) : Type 0 where
  pub closed : ClosedFile
  pub acts : List ActLine
  pub history : List ActLine
  pub config : closed.config ≡ settings
  pub settled : IsSettled (empty_file settings) closed acts history
  pub counts : Counts (replies_of history) d
  pub made : d.calls ≡ length calls
  pub records : d.records ≡ min (count_of closed.lists) (2 ^ 64 - 1)

-- a snapshot is one of a file of the settings, and is settled, from an empty file on, with those of these acts that
-- have lesser stamps than it says
abbrev pub IsSettledBefore : Settings → List ActLine → ClosedFile → Type 0
IsSettledBefore settings acts snapshot =
    (snapshot.config ≡ settings) × Settled (empty_file settings) snapshot (acts_before snapshot.stamps acts)

-- a file is settled with some history, and each of these snapshots with the acts that came before it, whose history is
-- the first part of that
abbrev pub IsSettledWith : Lists → ClosedFile → List ActLine → List ClosedFile → Type 0
IsSettledWith opening closed acts taken =
    (history : List ActLine) × IsSettled opening closed acts history
    × All (λ snapshot. IsSettledFirst opening snapshot acts history) taken

-- The totals are those of a legal history, and there are as many snapshots of a file of the settings. Each is settled
-- with the acts that came before it, and their history is the first part of that one.
pub record IsDrivenWith (settings : Settings) (calls : List CallOf) (snapshots : ℕ) (d : Driven) : Type 0 where
  pub driven : IsDriven settings calls d
  pub taken : List ClosedFile
  pub count : length taken ≡ snapshots
  pub configs : All (λ snapshot. snapshot.config ≡ settings) taken
  pub each : All (λ snapshot. IsSettledFirst (empty_file settings) snapshot driven.acts driven.history) taken

-- the bucket of a call isn't what it has to be
abbrev pub IsDefect : FileFault → Type 0
IsDefect (file.Spent left) = ⊥
IsDefect file.Memory = ⊥
IsDefect (file.Defect wanted_bucket wanted_level found_bucket found_level) = Unit {0}

-- the threads' work failed: a call was not answered, since its bucket isn't what it has to be; a thread could not be
-- started; or memory ran out
abbrev pub IsWorkersFault : DriveFault → Type 0
IsWorkersFault (Settle fault) = ⊥
IsWorkersFault (Call fault) = IsDefect fault
IsWorkersFault Thread = Unit {0}
IsWorkersFault Memory = Unit {0}

-- why there are no totals: a fault of settling, other than out of memory, that is due for a closed file of the settings
-- and some acts, from an empty file on, where a bucket was not gathered or a split was under way; or the threads' work
-- failed
abbrev pub IsDriveFault : Settings → DriveFault → Type 0
IsDriveFault settings (Settle fault) =
    (closed : ClosedFile) × (acts : List ActLine) × (closed.config ≡ settings)
    × IsDue (empty_file settings) closed acts fault × (fault ≢ settle.Memory)
    × (closed.gathered ≡ true → closed.root % 2 ≡ 0 → ⊥)
IsDriveFault settings fault = IsWorkersFault fault

-- a fault of settling, other than out of memory, is due for one of these snapshots, which is not settled, and those
-- acts that have lesser stamps than it says, from an empty file on; or memory ran out
abbrev pub IsFaultOfOne : Settings → List ActLine → List ClosedFile → DriveFault → Type 0
IsFaultOfOne settings acts taken (Settle fault) =
    (snapshot : ClosedFile) × Contains taken snapshot
    × IsDue (empty_file settings) snapshot (acts_before snapshot.stamps acts) fault × (fault ≢ settle.Memory)
    × (Settled (empty_file settings) snapshot (acts_before snapshot.stamps acts) → ⊥)
IsFaultOfOne settings acts taken Memory = Unit {0}
IsFaultOfOne settings acts taken fault = ⊥

-- a fault of settling, other than out of memory, is due for a snapshot of a file of the settings and those acts that
-- have lesser stamps than it says, from an empty file on, where a bucket was not gathered of the closed file, which is
-- settled
abbrev pub IsSnapshotFault : Settings → DriveFault → Type 0
IsSnapshotFault settings (Settle fault) =
    (closed snapshot : ClosedFile) × (acts : List ActLine) × (closed.config ≡ settings) × (snapshot.config ≡ settings)
    × Settled (empty_file settings) closed acts
    × IsDue (empty_file settings) snapshot (acts_before snapshot.stamps acts) fault × (fault ≢ settle.Memory)
    × (closed.gathered ≡ true → ⊥)
IsSnapshotFault settings fault = ⊥

-- why there are no totals of a run with so many snapshots: for a reason that one without has, or for one of them
abbrev pub IsDriveFaultWith : Settings → ℕ → DriveFault → Type 0
IsDriveFaultWith settings snapshots fault =
    IsDriveFault settings fault ⊎ ((1 ≤ snapshots) × IsSnapshotFault settings fault)

-- the fault of a call that was not answered
abbrev pub drive_fault_of : FileFault → DriveFault
drive_fault_of file.Memory = Memory
drive_fault_of fault = Call fault

-- the fault of a file that is not settled
abbrev pub settle_fault_of : SettleFault → DriveFault
settle_fault_of settle.Memory = Memory
settle_fault_of fault = Settle fault

-- how a run ends whose file is not settled
abbrev pub unsettled_as : SettleFault → Status
unsettled_as settle.SplitUnderWay = NotSettled unsettled.SplitUnderWay
unsettled_as (settle.MissingStamp stamp) = NotSettled (unsettled.MissingStamp stamp)
unsettled_as (settle.Reply stamp given due) = NotSettled (unsettled.Reply stamp)
unsettled_as (settle.Content key) = NotSettled (unsettled.Content key)
unsettled_as (settle.Placed bucket key) = NotSettled (unsettled.Placed bucket key)
unsettled_as settle.Memory = NoMemory

-- how a run ends that has no totals
abbrev pub ended_by : DriveFault → Status
ended_by (Settle fault) = unsettled_as fault
ended_by (Call fault) = NotSettled unsettled.Call
ended_by Thread = NoMemory
ended_by Memory = NoMemory

-- what `drive` may write for the calls of a script and so many snapshots: the totals of a legal history
abbrev pub IsTotals : Settings → ℕ → List CallOf → List ℕ → Type 0
IsTotals settings snapshots calls output =
    (d : Driven) × IsDrivenWith settings calls snapshots d × (output ≡ driven_text d ++ snapshots_text snapshots)

-- how a run in threads ends on an input, with such totals, or for such a fault: not settled, and the writer took
-- nothing; otherwise with the totals, or with the script's first fault
unfoldable pub EndsThreaded : Notation → (List CallOf → List ℕ → Type 0) → (DriveFault → Type 0) → List ℕ → Status →
    Option (List ℕ) → Option (List ℕ) → Type 0
EndsThreaded notation Totals Fault input (NotSettled reason) before now =
    (calls : List CallOf) × (script (command notation) input ≡ Ok calls)
    × ((fault : DriveFault) × Fault fault × (ended_by fault ≡ NotSettled reason)) × Keeps before now
EndsThreaded notation Totals Fault input status before now =
    EndsTelling Totals status (script (command notation) input) before now

-- how `drive` ends on an input with so many snapshots
abbrev pub EndsDriving : Notation → Settings → ℕ → List ℕ → Status → Option (List ℕ) → Option (List ℕ) → Type 0
EndsDriving notation settings snapshots =
    EndsThreaded notation (IsTotals settings snapshots) (IsDriveFaultWith settings snapshots)
