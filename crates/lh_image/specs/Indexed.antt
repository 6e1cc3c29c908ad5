-- An image that was checked, whose index its caller keeps
use Rattle.std.specs.Prelude.{◌≡◌, ℕ, ◌+◌, ◌/◌, ◌%◌, ◌<◌, ◌≤◌, false, List, Option, Some, None, Result, Ok, Err, ◌↔◌}
use Rattle.std.specs.Prelude.{[], ◌∷◌, map}
use Rattle.std.specs.Borrow.{Bor}
use Rattle.std.specs.FinMap.{get}
use Rattle.std.specs.List.{Contains, IsDistinct}
use Rattle.std.specs.Str.{bytes_eq}
use Rattle.lh_addr.specs.Extent.{Extent}
use Rattle.lh_addr.specs.Fnv.{code_of}
use Rattle.lh_addr.specs.Growth.{address}
use Rattle.lh_bucket.specs.Listing.{Lists, all_of}
use Rattle.lh_bucket.specs.Records.{map_of}
use Rattle.lh_page.specs.declared.format.Format.{Format}
use Rattle.lh_page.specs.declared.pair.Pair.{Pair}
use Rattle.lh_page.specs.PageFields.{is_bad_record, pair_of, used_of}
use Rattle.lh_page.specs.PageTable.{slot}
use Rattle.lh_page.specs.Records.{keys_of}
use Rattle.lh_image.specs.declared.checked.index.PageIndex.{PageIndex}
use Rattle.lh_image.specs.declared.indexed.Changed.{Changed}
use Rattle.lh_image.specs.declared.indexed.Start.{Start}
use Rattle.lh_image.specs.Checked.{IsIndexed, code_mark}
use Rattle.lh_image.specs.Image.{IsImage}
use Rattle.lh_image.specs.Layout.{header_of, page, view_of}
use Rattle.lh_image.specs.LookUp.{look_up, slot_of}
use Rattle.lh_image.specs.Version.{format_of, version_of}

-- the number of buckets at first and now, by the header
abbrev pub extent_of : List ℕ → Extent
extent_of bytes = record { initial = (header_of bytes).config.initial; buckets = (header_of bytes).buckets }

-- a page whose used slots have records, and what is kept of it
pub record IsGoodPage (f : Format) (bytes : List ℕ) (entry : PageIndex) : Type 0 where
  pub few : used_of bytes ≤ f.slots
  pub good : (i : ℕ) → i < used_of bytes → is_bad_record f (slot f bytes i) ≡ false
  pub kept : IsIndexed f bytes entry

-- a look-up begins at the primary page of the key's bucket, with the key's mark
pub record IsStart (root : Extent) (key : List ℕ) (start : Start) : Type 0 where
  pub page : start.page ≡ 1 + address root.initial root.buckets (code_of key)
  pub within : address root.initial root.buckets (code_of key) < root.buckets
  pub mark : start.mark ≡ code_mark (code_of key)

-- a look-up answers, and as it is due
abbrev pub AnswersLookUp : List ℕ → List ℕ → Result (Option (Bor (List ℕ))) Changed → Type 0
AnswersLookUp bytes key (Ok None) = look_up (view_of bytes) key ≡ Ok None
AnswersLookUp bytes key (Ok (Some value)) = look_up (view_of bytes) key ≡ Ok (Some value.now)
AnswersLookUp bytes key (Err changed) = ⊥

-- ---- one record after another

-- a record stands at a place: place 24 p + k is slot k of page p
pub record HasRecordAt (bytes : List ℕ) (at : ℕ) : Type 0 where
  pub from : 1 ≤ at / 24
  pub below : at / 24 < (header_of bytes).pages
  pub used : at % 24 < used_of (page bytes (at / 24))

-- the record at a place, in the View of the bytes
abbrev pub placed_at : List ℕ → ℕ → Pair
placed_at bytes at = pair_of (format_of (version_of bytes)) (slot_of bytes (at / 24) (at % 24))

-- the record is the one at the place
pub record StandsAt (bytes : List ℕ) (from at : ℕ) (key value : List ℕ) : Type 0 where
  pub placed : HasRecordAt bytes at
  pub behind : from ≤ at
  pub key_is : key ≡ (placed_at bytes at).key
  pub value_is : value ≡ (placed_at bytes at).value
  pub first : (i : ℕ) → from ≤ i → i < at → HasRecordAt bytes i → ⊥

-- the first record from a place on, or none where none stands there
abbrev pub IsNext : List ℕ → ℕ → Result (Option (ℕ × Bor (List ℕ) × Bor (List ℕ))) Changed → Type 0
IsNext bytes from (Ok None) = (i : ℕ) → from ≤ i → HasRecordAt bytes i → ⊥
IsNext bytes from (Ok (Some found)) = StandsAt bytes from found.0 found.1.now found.2.now
IsNext bytes from (Err changed) = ⊥

-- Each record of the map has one place, and no other record has one.
pub record HasEachOnce (bytes : List ℕ) (l : Lists) : Type 0 where
  pub there : (key value : List ℕ) → get (map_of (all_of l.lists)) key ≡ Some value →
      (at : ℕ) × HasRecordAt bytes at × (placed_at bytes at ≡ record { key = key; value = value })
  pub own : (at : ℕ) → HasRecordAt bytes at →
      get (map_of (all_of l.lists)) (placed_at bytes at).key ≡ Some (placed_at bytes at).value
  pub once : (a b : ℕ) → HasRecordAt bytes a → HasRecordAt bytes b →
      (placed_at bytes a).key ≡ (placed_at bytes b).key → a ≡ b

-- In an image of a listing each record of its map has one place.
abbrev pub PlacesLaw : Type 0
PlacesLaw = (bytes : List ℕ) (l : Lists) → IsImage bytes l → HasEachOnce bytes l

-- the places of records that one comes to from a place on, each time the first from behind the one before, to the end
abbrev pub IsWalk : List ℕ → ℕ → List ℕ → Type 0
IsWalk bytes from [] = (i : ℕ) → from ≤ i → HasRecordAt bytes i → ⊥
IsWalk bytes from (at ∷ rest) =
    (from ≤ at) × HasRecordAt bytes at × ((i : ℕ) → from ≤ i → i < at → HasRecordAt bytes i → ⊥)
    × IsWalk bytes (at + 1) rest

-- some records are those of the map, each once
pub record AreAllOnce (l : Lists) (records : List Pair) : Type 0 where
  pub same : (key value : List ℕ) →
      (get (map_of (all_of l.lists)) key ≡ Some value) ↔ Contains records (record { key = key; value = value })
  pub once : IsDistinct bytes_eq (keys_of records)

-- In an image of a listing a walk from 0 on comes to each record of its map once, and to no other.
abbrev pub WalkLaw : Type 0
WalkLaw =
    (bytes : List ℕ) (l : Lists) (ats : List ℕ) → IsImage bytes l → IsWalk bytes 0 ats →
    AreAllOnce l (map (placed_at bytes) ats)
