-- What of a file a scan has still to visit
use Rattle.std.specs.Prelude.{◌≡◌, ℕ, ◌+◌, ◌-◌, ◌*◌, ◌^◌, ◌<◌, ◌≤◌, ◌==◌, Bool, true, List, [], ◌∷◌, Some}
use Rattle.lh_addr.specs.Growth.{hash_at}
use Rattle.lh_addr.specs.Limits.{IsInitial, most_level}
use Rattle.lh_addr.specs.Settings.{Settings}
use Rattle.lh_addr.specs.declared.aim.Aim.{Aim}
use Rattle.lh_bucket.specs.Bucket.{Seen, IsKept}
use Rattle.lh_file.specs.FileState.{FileState}
use Rattle.lh_words.specs.History.Buckets.{bit}
use Rattle.lh_words.specs.History.Told.{IsSurveyed}
use Rattle.lh_file.specs.Words.HandState.{HandState, told_of}
use Rattle.lh_words.specs.Rule.{Each}
use Rattle.lh_words.specs.Sums.{total}
use Rattle.lh_file.specs.declared.snapshots.bucket_copy.BucketCopy.{BucketCopy}
use Rattle.lh_words.specs.declared.seat_view.Entry.{Entry}

-- whether a code is one of an aim's: it leads to the aim's bucket at the aim's level
abbrev pub leads : ℕ → ℕ → Aim → Bool
leads initial code aim = hash_at initial aim.level code == aim.bucket

-- of how many of these aims a code is one
abbrev pub times_aimed : ℕ → ℕ → List Aim → ℕ
times_aimed initial code aims = total (λ aim. bit (leads initial code aim)) aims

-- an aim that some code has, at a level that a file may have
pub record IsWithin (initial : ℕ) (aim : Aim) : Type 0 where
  pub low : aim.level ≤ most_level
  pub reached : aim.bucket < initial * 2 ^ aim.level

-- the number of buckets that the file began with, and the aims of the codes that weren't met yet
pub record Scanning : Type 0 where
  pub initial : ℕ
  pub aims : List Aim

-- the numbers are those of a file, and each aim is one that some code has
pub record IsScanning (scan : Scanning) : Type 0 where
  pub initial : IsInitial scan.initial
  pub within : Each scan.aims (IsWithin scan.initial)

-- the bucket that was visited, as it was then
abbrev pub bucket_of : Settings → BucketCopy → Seen
bucket_of config copy = record {
  head = record {
    number = copy.aim.bucket;
    initial = config.initial;
    capacity = config.capacity;
    level = Some copy.aim.level;
  };
  pairs = copy.pairs.items;
}

-- A copy of a bucket was taken: the bucket holds no key twice, and each key leads to it at its level. The hand was told
-- of a log of no fewer acts than before, and in a traced file the bucket is what that log leaves.
pub record HasVisited (traced : Bool) (file : FileState) (old : HandState) (copy : BucketCopy)
    (new : HandState) : Type 0 where
  pub kept : IsKept (bucket_of file.config copy)
  pub later : old.view.floor ≤ copy.stamps
  pub log : List Entry
  pub told : new ≡ told_of old copy.stamps log
  pub leaves : traced ≡ true →
      IsSurveyed file.listing copy.stamps old.entries old.logs (bucket_of file.config copy ∷ []) log

-- A scan met the codes of one aim: all of them were still to be met, and every other one that was is so still.
abbrev pub HasMet : Scanning → Aim → Scanning → Type 0
HasMet old aim new =
    (new.initial ≡ old.initial)
    × ((code : ℕ) →
    times_aimed old.initial code old.aims ≡ bit (leads old.initial code aim) + times_aimed old.initial code new.aims)

-- how many buckets a scan has still to visit at most: those of its aims, were each split up to the highest level
abbrev pub ahead : Scanning → ℕ
ahead scan = total (λ aim. 2 ^ (most_level - aim.level)) scan.aims

-- A scan went on by these copies, each taken in its turn, and met their codes.
abbrev pub HasScanned : Bool → FileState → Scanning → HandState → List BucketCopy → Scanning → HandState → Type 0
HasScanned traced file scan hand [] after left = (after ≡ scan) × (left ≡ hand)
HasScanned traced file scan hand (copy ∷ copies) after left =
    (next : Scanning) × (now : HandState) × HasMet scan copy.aim next × HasVisited traced file hand copy now
    × HasScanned traced file next now copies after left

-- A scan that has met no code before, and has none left to meet, met each in just one of its copies.
abbrev pub ScanLaw : Type 0
ScanLaw =
    (traced : Bool) (file : FileState) (scan after : Scanning) (hand left : HandState) (copies : List BucketCopy) →
    ((code : ℕ) → times_aimed scan.initial code scan.aims ≡ 1) → HasScanned traced file scan hand copies after left →
    after.aims ≡ [] → (code : ℕ) → total (λ copy. bit (leads scan.initial code copy.aim)) copies ≡ 1
