-- Laws of the definitions
use Rattle.std.specs.Prelude.{◌≡◌, ℕ, ◌≤◌, Some}
use Rattle.lh_addr.specs.Growth.{RootLaw, AddressLaw, SplitLevels, SplitAddresses, AimBegins, AimStays, AimRises}
use Rattle.lh_addr.specs.Growth.{HashRises}
use Rattle.lh_addr.specs.Settings.{Settings}
use Rattle.lh_bucket.specs.declared.call.Call.{Call}
use Rattle.lh_core.specs.State.{State}
use Rattle.lh_core.specs.Log.{Log, open_call}
use Rattle.lh_core.specs.History.{IsHistory}
use Rattle.lh_core.specs.Aims.{AimsLead}
use Rattle.lh_core.specs.Spans.{IsInSpan, ActsLieInSpans}
use Rattle.lh_core.specs.Rises.{ActsHaveRisen}

-- the laws of linear hashing that the proofs here go by
pub record LinearHashing : Type 0 where
  pub root : RootLaw
  pub address : AddressLaw
  pub levels : SplitLevels
  pub addresses : SplitAddresses
  pub begins : AimBegins
  pub stays : AimStays
  pub rises : AimRises
  pub hash : HashRises

-- In every state that a list of steps leads to, each aim leads to a filled bucket of no lower level.
abbrev pub AimsLaw : Type 0
AimsLaw =
    (config : Settings) (log : Log) (state : State) → 1 ≤ config.initial → config.initial ≤ config.max →
    IsHistory config log state → AimsLead config state

-- The open call of a worker is the one in whose span the worker is.
abbrev pub OpenCallLaw : Type 0
OpenCallLaw = (worker : ℕ) (log : Log) (call : Call) → open_call worker log ≡ Some call → IsInSpan worker log call

-- In every list of steps that the rules allow, each accepted act lies in the span of its call.
abbrev pub SpansLaw : Type 0
SpansLaw =
    (config : Settings) (log : Log) (state : State) → 1 ≤ config.initial → config.initial ≤ config.max →
    IsHistory config log state → ActsLieInSpans log

-- In every list of steps, each accepted act took place as many levels above the one read as there were rehashes since.
abbrev pub RisesLaw : Type 0
RisesLaw =
    (config : Settings) (log : Log) → 1 ≤ config.initial → config.initial ≤ config.max →
    ActsHaveRisen config log
