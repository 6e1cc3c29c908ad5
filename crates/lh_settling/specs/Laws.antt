-- Laws of settling
use Rattle.std.specs.Prelude.{◌≡◌, ◌≢◌, ◌⊎◌, ℕ, ◌<◌, ◌≤◌, List, [], ◌==◌}
use Rattle.std.specs.FinMap.{retain_keys}
use Rattle.std.specs.List.{IsDistinct}
use Rattle.std.specs.Str.{bytes_eq}
use Rattle.lh_addr.specs.Fnv.{code_of}
use Rattle.lh_addr.specs.Growth.{address}
use Rattle.lh_page.specs.declared.pair.Pair.{Pair}
use Rattle.lh_page.specs.Records.{keys_of}
use Rattle.lh_bucket.specs.Listing.{Lists, list_at}
use Rattle.lh_bucket.specs.PlainMap.{Records}
use Rattle.lh_bucket.specs.Records.{map_of}
use Rattle.lh_settling.specs.declared.act.ActLine.{ActLine}
use Rattle.lh_settling.specs.declared.settle_fault.SettleFault.{SettleFault}
use Rattle.lh_settling.specs.declared.settle_fault.SettleFault.TheVariants.{Memory}
use Rattle.lh_settling.specs.Acts.{IsInOrder}
use Rattle.lh_settling.specs.ClosedFile.{ClosedFile, IsClosed}
use Rattle.lh_settling.specs.Contents.{ArePlaced}
use Rattle.lh_settling.specs.SettleFault.{IsDue}
use Rattle.lh_settling.specs.Settled.{IsStamped, Settled}

-- Acts have one history at most.
abbrev pub HistoryLaw : Type 0
HistoryLaw =
    (closed : ClosedFile) (acts history other : List ActLine) →
    IsStamped closed acts history → IsStamped closed acts other → history ≡ other

-- Where a file is settled no fault is due besides out of memory.
abbrev pub SettledLaw : Type 0
SettledLaw =
    (opening : Lists) (closed : ClosedFile) (acts : List ActLine) (fault : SettleFault) → IsClosed closed →
    Settled opening closed acts → IsDue opening closed acts fault → fault ≡ Memory

-- One fault at most is due besides out of memory.
abbrev pub OneFaultLaw : Type 0
OneFaultLaw =
    (opening : Lists) (closed : ClosedFile) (acts : List ActLine) (fault other : SettleFault) →
    fault ≢ Memory → other ≢ Memory →
    IsDue opening closed acts fault → IsDue opening closed acts other → fault ≡ other

-- Something can always be said: a file is settled, or a fault is due that isn't out of memory.
abbrev pub AnswerLaw : Type 0
AnswerLaw =
    (opening : Lists) (closed : ClosedFile) (acts : List ActLine) → IsClosed closed →
    (Settled opening closed acts) ⊎ ((fault : SettleFault) × (fault ≢ Memory) × IsDue opening closed acts fault)

-- Some acts can be put in the order of their stamps.
abbrev pub OrderLaw : Type 0
OrderLaw = (acts : List ActLine) → (history : List ActLine) × IsInOrder acts history

-- Where each bucket holds just the pairs of a map whose address it is, none of them a key twice, and no bucket past the
-- size holds any, the records of the map are placed: no key stands in two buckets.
abbrev pub FilledLaw : Type 0
FilledLaw =
    (initial size : ℕ) (records : Records) (lists : List (List Pair)) →
    ((code : ℕ) → address initial size code < size) →
    ((bucket : ℕ) → bucket < size →
    map_of (list_at lists bucket) ≡ retain_keys records (λ key. address initial size (code_of key) == bucket)) →
    ((bucket : ℕ) → size ≤ bucket → list_at lists bucket ≡ []) →
    ((bucket : ℕ) → IsDistinct bytes_eq (keys_of (list_at lists bucket))) → ArePlaced initial size records lists
