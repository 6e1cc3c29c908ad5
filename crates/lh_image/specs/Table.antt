-- What a reader keeps of the pages that came: an entry for each page, and the records of all
use Rattle.std.specs.Prelude.{◌≡◌, ℕ, ◌+◌, ◌<◌, ◌≤◌, Bool, true, false, not, ◌&&◌, ◌||◌, List, [], ◌∷◌, ◌++◌, length}
use Rattle.std.specs.Prelude.{take, drop, slice_index_or, Option, Some, None, nat_lt, ◌==◌}
use Rattle.lh_page.specs.declared.pair.Pair.{Pair}
use Rattle.lh_page.specs.declared.fault.PageFault.{PageFault}
use Rattle.lh_page.specs.declared.fault.PageFault.TheVariants.{Kind, Used, Slot}
use Rattle.lh_page.specs.PageFields.{fault_of, pairs_of}
use Rattle.lh_image.specs.declared.table.PageEntry.{PageEntry}
use Rattle.lh_image.specs.Chains.{Links}
use Rattle.lh_image.specs.declared.version.Version.{Version}
use Rattle.lh_image.specs.Version.{format_of}
use Rattle.lh_image.specs.View.{View, bucket, next}

-- the header's place, and what stands past the end
abbrev pub no_entry : PageEntry
no_entry = record { bucket = 0; next = 0; start = 0; used = 0 }

abbrev pub entry_at : List PageEntry → ℕ → PageEntry
entry_at entries p = slice_index_or entries p no_entry

unfoldable pub next_in : List PageEntry → ℕ → ℕ
next_in entries p = (entry_at entries p).next

unfoldable pub bucket_in : List PageEntry → ℕ → ℕ
bucket_in entries p = (entry_at entries p).bucket

-- the records of a page among those of all
unfoldable pub page_records : List PageEntry → List Pair → ℕ → List Pair
page_records entries pairs p = take (entry_at entries p).used (drop (entry_at entries p).start pairs)

-- each page's records lie among those of all
abbrev pub AreWithin : List PageEntry → List Pair → Type 0
AreWithin entries pairs = (p : ℕ) → (entry_at entries p).start + (entry_at entries p).used ≤ length pairs

-- where the pages lead
abbrev pub links_in : List PageEntry → ℕ → Links
links_in entries heads = record {
  next = next_in entries;
  bucket = bucket_in entries;
  heads = heads;
  pages = length entries;
}

-- ---- the pages that came

-- the fault is one of a slot
abbrev pub is_of_slot : Option PageFault → Bool
is_of_slot None = false
is_of_slot (Some Kind) = false
is_of_slot (Some Used) = false
is_of_slot (Some (Slot i)) = true

-- one page more: its records behind the others, unless the page has a fault
pub record IsPushed (entries : List PageEntry) (pairs : List Pair) (new_entries : List PageEntry)
    (new_pairs : List Pair) (own_bucket following : ℕ) (version : Version) (bytes : List ℕ) (room : ℕ) : Type 0 where
  pub added : List Pair
  pub appended : new_pairs ≡ pairs ++ added
  pub entered : new_entries
      ≡ entries ++ record { bucket = own_bucket; next = following; start = length pairs; used = length added } ∷ []
  pub records : fault_of (format_of version) bytes room ≡ None → added ≡ pairs_of (format_of version) bytes

-- a page's kind is known, its reserved bytes are zeros, and its records have room
abbrev pub has_plain_head : View → ℕ → Bool
has_plain_head v p =
    ((v.head p).kind == 1 || (v.head p).kind == 2) && (v.head p).clear
    && not (nat_lt v.header.config.capacity (v.head p).used)

-- the first n pages came, the header's page among them
pub record IsTable (v : View) (n : ℕ) (entries : List PageEntry) (pairs : List Pair) : Type 0 where
  pub size : length entries ≡ n
  pub next : (p : ℕ) → p < n → next_in entries p ≡ next v p
  pub bucket : (p : ℕ) → p < n → bucket_in entries p ≡ bucket v p
  pub records : (p : ℕ) → 1 ≤ p → p < n → has_plain_head v p ≡ true → v.bad_slot p ≡ None →
      page_records entries pairs p ≡ v.records p
