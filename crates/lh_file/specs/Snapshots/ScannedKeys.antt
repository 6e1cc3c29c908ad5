-- What a scan that went on to its end has met of each key
use Rattle.std.specs.Prelude.{◌≡◌, ℕ, ◌++◌, Bool, true, List, [], ◌∷◌}
use Rattle.std.specs.FinMap.{get, contains_key}
use Rattle.std.specs.List.{IsDistinct}
use Rattle.std.specs.Str.{bytes_eq}
use mathlib.Core.Option.{some}
use lib.ListN.{get_elem?}
use Rattle.lh_bucket.specs.Records.{map_of}
use Rattle.lh_page.specs.Records.{keys_of}
use Rattle.lh_settling.specs.Settled.{map_in}
use Rattle.lh_words.specs.History.Log.{left_after}
use Rattle.lh_words.specs.History.Told.{IsTold}
use Rattle.lh_words.specs.declared.seat_view.Entry.{Entry}
use Rattle.lh_file.specs.FileState.{FileState}
use Rattle.lh_file.specs.Snapshots.Scans.{Scanning, HasMet, HasScanned, HasVisited, times_aimed}
use Rattle.lh_file.specs.Words.HandState.{HandState}
use Rattle.lh_file.specs.declared.snapshots.bucket_copy.BucketCopy.{BucketCopy}

-- some hand took this copy
abbrev pub WasVisited : Bool → FileState → BucketCopy → Type 0
WasVisited traced file copy = (old : HandState) × (new : HandState) × HasVisited traced file old copy new

-- A scan went on by these copies, each taken in its turn by whatever hand, and met their codes.
abbrev pub HasGoneOn : Bool → FileState → Scanning → List BucketCopy → Scanning → Type 0
HasGoneOn traced file scan [] after = after ≡ scan
HasGoneOn traced file scan (copy ∷ copies) after =
    (next : Scanning) × HasMet scan copy.aim next × WasVisited traced file copy
    × HasGoneOn traced file next copies after

-- whether a key stands in a copy
abbrev pub is_copied : List ℕ → BucketCopy → Bool
is_copied key copy = contains_key (map_of copy.pairs.items) key

-- A copy has of a key just what a legal log leaves: a log of as many acts as there were when it was taken.
abbrev pub IsLeftIn : FileState → List ℕ → BucketCopy → Type 0
IsLeftIn file key copy =
    (hand : HandState) × (log : List Entry) × IsTold file.listing copy.stamps hand.entries hand.logs log
    × (get (map_of copy.pairs.items) key ≡ get (left_after (map_in file.listing) log) key)

-- Of these copies one alone may have a key, and that one doesn't have it twice. Of a traced file it has just what the
-- log leaves of that key: so if each copy's log leaves a record with it, that record is met.
pub record IsMetOnce (traced : Bool) (file : FileState) (copies : List BucketCopy) (key : List ℕ) : Type 0 where
  pub place : ℕ
  pub copy : BucketCopy
  pub there : get_elem? copies place ≡ some copy
  pub alone : (other : ℕ) (others : BucketCopy) → get_elem? copies other ≡ some others → is_copied key others ≡ true →
      other ≡ place
  pub distinct : IsDistinct bytes_eq (keys_of copy.pairs.items)
  pub leaves : traced ≡ true → IsLeftIn file key copy

-- A scan that has met no code before, and has none left to meet, meets each key once.
abbrev pub KeyScanLaw : Type 0
KeyScanLaw =
    (traced : Bool) (file : FileState) (scan after : Scanning) (copies : List BucketCopy) →
    scan.initial ≡ file.config.initial → ((code : ℕ) → times_aimed scan.initial code scan.aims ≡ 1) →
    HasGoneOn traced file scan copies after → after.aims ≡ [] → (key : List ℕ) → IsMetOnce traced file copies key

-- A scan by one hand is one, however far it came.
abbrev pub OneHandLaw : Type 0
OneHandLaw =
    (traced : Bool) (file : FileState) (scan after : Scanning) (hand left : HandState) (copies : List BucketCopy) →
    HasScanned traced file scan hand copies after left → HasGoneOn traced file scan copies after

-- A scan that went on twice went on by all of both copies.
abbrev pub TwiceLaw : Type 0
TwiceLaw =
    (traced : Bool) (file : FileState) (scan next after : Scanning) (copies more : List BucketCopy) →
    HasGoneOn traced file scan copies next → HasGoneOn traced file next more after →
    HasGoneOn traced file scan (copies ++ more) after
