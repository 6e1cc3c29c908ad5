-- Images that are built
use Rattle.std.specs.Prelude.{◌≡◌, ℕ, ◌<◌, List, [], ◌∷◌, length, map, replicate}
use Rattle.lh_bucket.specs.declared.call.Call.{Call}
use Rattle.lh_bucket.specs.declared.call.Call.TheVariants.{Insert}
use Rattle.lh_bucket.specs.Listing.{Lists, size}
use Rattle.lh_bucket.specs.PlainMap.{outcome}
use Rattle.lh_core.specs.Listed.{IsListed}
use Rattle.lh_core.specs.Opened.{records_of}
use Rattle.lh_core.specs.Serial.{size_from}
use Rattle.lh_image.specs.declared.version.Version.TheVariants.{Two}
use Rattle.lh_image.specs.Canonical.{canonical}
use Rattle.lh_image.specs.Image.{IsImage}
use Rattle.lhf.specs.declared.build.NewFile.{NewFile}
use Rattle.lhf.specs.declared.build.NewRecord.{NewRecord}

-- the file of an image, or where there are no bytes an empty one of these settings, with its initial buckets
abbrev pub IsStartingFile : List ℕ → NewFile → Lists → Type 0
IsStartingFile [] file l =
    l ≡ record {
      config = record { initial = file.initial; capacity = file.capacity; load = file.load; max = file.max };
      lists = replicate file.initial [];
    }
IsStartingFile (b ∷ bytes) file l = IsImage (b ∷ bytes) l

-- the inserts of records, one after another
abbrev pub puts_of : List NewRecord → List Call
puts_of records = map (λ (r : NewRecord). Insert r.key.bytes.now r.value.bytes.now) records

-- a listing of the file that calls leave of another one: with the buckets to which the split policy has it grow, and
-- the records of the calls' outcome, each in its bucket
abbrev pub IsGrown : Lists → List Call → Lists → Type 0
IsGrown file calls l =
    IsListed file.config (outcome (records_of file) calls) (size_from file.config (records_of file) (size file) calls) l

-- the bytes are the canonical image of what inserts of the records leave of the file to begin with
pub record IsBuilt (old : List ℕ) (file : NewFile) (records : List NewRecord) (bytes : List ℕ) : Type 0 where
  pub start : Lists
  pub left : Lists
  pub starts : IsStartingFile old file start
  pub grown : IsGrown start (puts_of records) left
  pub image : bytes ≡ canonical Two left

-- an image is built of so many bytes, for which there is too little room
pub record IsWanted (old : List ℕ) (file : NewFile) (records : List NewRecord) (wanted room : ℕ) : Type 0 where
  pub bytes : List ℕ
  pub built : IsBuilt old file records bytes
  pub size : wanted ≡ length bytes
  pub more : room < wanted
