-- What snapshots and scans of a shard leave of its hand
use Rattle.std.proofs.Common.{◌≡◌, ℕ, ◌≤◌, Bool, true, List, Result, Ok, Err, refl, ap, ◌∙◌, ⊎_elim}
use Rattle.std.specs.Prelude.{Option, Some, None, IfOk, IfSome, OnErr}
use Rattle.lh_addr.specs.RootWord.{buckets_of}
use Rattle.lh_settling.specs.ClosedFile.{ClosedFile, IsWhole}
use Rattle.lh_file.specs.FileState.{FileState}
use Rattle.lh_file.specs.Snapshots.Hands.{HasSurveyed}
use Rattle.lh_file.specs.Snapshots.Moments.{IsSnapshot}
use Rattle.lh_file.specs.Snapshots.Scans.{Scanning, HasVisited}
use Rattle.lh_file.specs.Words.HandState.{HandState, knowing, told_of}
use Rattle.lh_file.specs.declared.fault.FileFault.{FileFault}
use Rattle.lh_file.specs.declared.snapshots.bucket_copy.BucketCopy.{BucketCopy}
use Rattle.lh_words.specs.declared.seat_view.Entry.{Entry}
use Rattle.lh_shards.specs.Snapshots.{IsTaken}

-- what a file promises of a snapshot, as one
pub taken : (traced : Bool) (file : FileState) (before after : HandState) (result : Result ClosedFile FileFault) →
    IfOk result (λ s. s.config ≡ file.config) → IfOk result IsWhole →
    IfOk result (λ s. after.view.known ≤ buckets_of s.root) → IfOk result (λ s. before.view.floor ≤ s.stamps) →
    IfOk result (λ s. (known : ℕ) × (log : List Entry) × (after ≡ told_of (knowing before known) s.stamps log)
    × (traced ≡ true → IsSnapshot file.listing s before.entries before.logs log)) →
    IfOk result (λ s. IsTaken traced file before s after)
taken traced file before after (Ok s) config whole size later told = record {
  config = config;
  whole = whole;
  size = size;
  later = later;
  known = told.0;
  log = told.1;
  told = told.2;
  holds = told.3;
}
taken traced file before after (Err e) config whole size later told = tt

-- what neither the number of buckets nor a log that a hand is told of changes, a look at the whole file leaves
pub surveyed_keeps : {X : Type 0} (f : HandState → X) {old new : HandState} →
    ((known : ℕ) → f (knowing old known) ≡ f old) →
    ((known floor : ℕ) (log : List Entry) → f (told_of (knowing old known) floor log) ≡ f old) →
    HasSurveyed old new → f new ≡ f old
surveyed_keeps f known told s =
    ⊎_elim (λ e. ap f e ∙ known s.known) (λ t. ap f t.3 ∙ told s.known t.0 t.1) s.told

-- what no log that a hand is told of changes, a step of a scan leaves
pub next_keeps : {X : Type 0} (f : HandState → X) (traced : Bool) (file : FileState) (old new : HandState)
    (scan next : Scanning) → ((floor : ℕ) (log : List Entry) → f (told_of old floor log) ≡ f old) →
    (result : Result (Option BucketCopy) FileFault) →
    IfOk result (λ n. IfSome n (λ copy. HasVisited traced file old copy new)) →
    IfOk result (λ n. n ≡ None → (next ≡ scan) × (new ≡ old)) → OnErr result ((next ≡ scan) × (new ≡ old)) →
    f new ≡ f old
next_keeps f traced file old new scan next told (Ok (Some copy)) visited same err =
    ap f visited.told ∙ told copy.stamps visited.log
next_keeps f traced file old new scan next told (Ok None) visited same err = ap f (same refl).1
next_keeps f traced file old new scan next told (Err e) visited same err = ap f err.1
