-- A look-up in the bytes of an image: what it answers, whatever the bytes are
use Rattle.std.specs.Prelude.{◌≡◌, ℕ, zero, suc, ◌+◌, ◌*◌, ◌<◌, ◌≤◌, ◌⊎◌, Bool, true, false, not, List, [], ◌∷◌, ◌++◌}
use Rattle.std.specs.Prelude.{length, map, Option, Some, None, Result, Ok, Err, option_map, ◌==◌, if◌then◌else◌}
use Rattle.std.specs.FinMap.{get}
use Rattle.std.specs.List.{Contains, find, list_any, range_with_len}
use Rattle.std.specs.Str.{bytes_eq}
use Rattle.lh_addr.specs.Extent.{Extent}
use Rattle.lh_addr.specs.Fnv.{code_of}
use Rattle.lh_addr.specs.Growth.{address}
use Rattle.lh_page.specs.declared.format.Format.{Format}
use Rattle.lh_page.specs.declared.pair.Pair.{Pair}
use Rattle.lh_page.specs.PageFields.{is_bad_record, pair_of, value_length}
use Rattle.lh_page.specs.PageTable.{slot}
use Rattle.lh_bucket.specs.Listing.{Lists, all_of}
use Rattle.lh_bucket.specs.Records.{map_of}
use Rattle.lh_image.specs.declared.fault.ImageFault.{ImageFault}
use Rattle.lh_image.specs.declared.fault.ImageFault.TheVariants.{Kind, BucketNumber, Level, Used, Next, Twice, Slot}
use Rattle.lh_image.specs.declared.fault.ImageFault.TheVariants.{Misfit}
use Rattle.lh_image.specs.declared.header.Header.{Header}
use Rattle.lh_image.specs.Chains.{pages_from, stands_in}
use Rattle.lh_image.specs.Faults.{at_head, bad_bucket, bad_kind, bad_level, bad_next, bad_used, first_fault_of}
use Rattle.lh_image.specs.Faults.{has_bad_slot, header_rows, is_at_home, size_rows, where_so}
use Rattle.lh_image.specs.Header.{AreInRange}
use Rattle.lh_image.specs.Image.{IsImage}
use Rattle.lh_image.specs.Layout.{header_of, page, view_of}
use Rattle.lh_image.specs.Version.{format_of, page_bytes, version_of}
use Rattle.lh_image.specs.View.{View, initial, buckets, page_count, bucket, next, links, chain_of}

-- ---- what is opened

-- the fault that the first page and the number of bytes show: the first of I1 to I5
unfoldable pub opening_fault : List ℕ → Option ImageFault
opening_fault bytes = first_fault_of (header_rows bytes ++ size_rows bytes)

-- the bytes have a header without a fault, whose numbers are in their ranges, and are as many pages as it says
pub record IsOpenedImage (bytes : List ℕ) (header : Header) (root : Extent) : Type 0 where
  pub fields : header ≡ header_of bytes
  pub faultless : first_fault_of (header_rows bytes) ≡ None
  pub in_range : AreInRange header
  pub size : length bytes ≡ page_bytes (version_of bytes) * header.pages
  pub extent : root ≡ record { initial = header.config.initial; buckets = header.buckets }

-- ---- what a page shows by itself

-- a record of the page whose address is another bucket than bucket i
unfoldable pub has_stranger : View → ℕ → ℕ → Bool
has_stranger v i p = list_any (λ (r : Pair). not (is_at_home v i r.key)) (v.records p)

-- the faults of a page by its head: I6 to I9
abbrev pub head_rows_at : View → ℕ → List (Option ImageFault)
head_rows_at v p =
    where_so (at_head bad_kind v p) (Kind p)
    ∷ where_so (at_head bad_bucket v p) (BucketNumber p)
    ∷ where_so (at_head bad_level v p) (Level p)
    ∷ where_so (at_head bad_used v p) (Used p)
    ∷ []

-- the faults of a page by the page that it names, by its slots and by its records: I10, I13 and I14
abbrev pub rest_rows_at : View → ℕ → ℕ → List (Option ImageFault)
rest_rows_at v i p =
    where_so (bad_next (links v) p) (Next p)
    ∷ where_so (has_bad_slot v p) (Slot p)
    ∷ where_so (has_stranger v i p) (Misfit p)
    ∷ []

-- the first fault that a page of bucket i has by itself
unfoldable pub own_fault : View → ℕ → ℕ → Option ImageFault
own_fault v i p = first_fault_of (head_rows_at v p ++ rest_rows_at v i p)

-- the value of the first of some records that has the key
unfoldable pub value_in : List ℕ → List Pair → Option (List ℕ)
value_in key pairs = option_map (λ (r : Pair). r.value) (find (λ (r : Pair). bytes_eq r.key key) pairs)

-- ---- what is answered

-- the fault of a page, or else the value in it, or else what is found further on
abbrev pub found_first : Option ImageFault → Option (List ℕ) → Result (Option (List ℕ)) ImageFault →
    Result (Option (List ℕ)) ImageFault
found_first (Some fault) value further = Err fault
found_first None (Some value) further = Ok (Some value)
found_first None None further = further

-- the bucket of a key
unfoldable pub home_of : View → List ℕ → ℕ
home_of v key = address (initial v) (buckets v) (code_of key)

-- what is found from page p on, in at most this many pages; a page more leads back to itself
unfoldable pub found_from : View → List ℕ → ℕ → ℕ → Result (Option (List ℕ)) ImageFault
found_from v key zero p = if p == 0 then Ok None else Err (Twice p)
found_from v key (suc n) p =
    if p == 0 then Ok None
    else found_first (own_fault v (home_of v key) p) (value_in key (v.records p)) (found_from v key n (next v p))

-- what is found in the chain of the key's bucket
unfoldable pub look_up : View → List ℕ → Result (Option (List ℕ)) ImageFault
look_up v key = found_from v key (page_count v) (1 + home_of v key)

-- In an image of a listing, what is found is what the plain map of all records has, and no fault.
abbrev pub MapLaw : Type 0
MapLaw =
    (bytes : List ℕ) (l : Lists) (key : List ℕ) → IsImage bytes l →
    look_up (view_of bytes) key ≡ Ok (get (map_of (all_of l.lists)) key)

-- The value stands with the key in a page of the key's bucket, on its chain, that has no fault by itself.
pub record StandsThere (v : View) (key value : List ℕ) (p : ℕ) : Type 0 where
  pub on_chain : stands_in (chain_of v (home_of v key)) p ≡ true
  pub own : bucket v p ≡ home_of v key
  pub faultless : own_fault v (home_of v key) p ≡ None
  pub there : Contains (v.records p) (record { key = key; value = value })

-- the value stands with the key in some page of the key's bucket
abbrev pub Stands : View → List ℕ → List ℕ → Type 0
Stands v key value = (p : ℕ) × StandsThere v key value p

-- Whatever the pages show, a value that is found stands with the key in a page of the key's bucket.
abbrev pub StandsLaw : Type 0
StandsLaw =
    (v : View) (key value : List ℕ) → 1 ≤ initial v → initial v ≤ buckets v →
    look_up v key ≡ Ok (Some value) → Stands v key value

-- a page of the key's chain has the fault as the first that it has by itself
abbrev pub HasOwnFault : View → List ℕ → ImageFault → Type 0
HasOwnFault v key f =
    (p : ℕ) × (stands_in (chain_of v (home_of v key)) p ≡ true) × (own_fault v (home_of v key) p ≡ Some f)

-- a page that comes again, by `next`, from itself
abbrev pub ComesAgain : View → ImageFault → Type 0
ComesAgain v f = (p : ℕ) × (f ≡ Twice p) × (stands_in (pages_from (next v) (page_count v) (next v p)) p ≡ true)

-- Whatever the pages show, a fault is that of a page of the key's chain, or names a page that leads back to itself.
abbrev pub FaultLaw : Type 0
FaultLaw =
    (v : View) (key : List ℕ) (f : ImageFault) → 1 ≤ initial v → initial v ≤ buckets v → buckets v < page_count v →
    look_up v key ≡ Err f → HasOwnFault v key f ⊎ ComesAgain v f

-- ---- where it is found

-- the records of the first n slots of a page
abbrev pub first_pairs : Format → List ℕ → ℕ → List Pair
first_pairs f bytes n = map (λ i. pair_of f (slot f bytes i)) (range_with_len 0 n)

-- the slot of the first of some records that has the key, if one has it; the slot has room for its value
abbrev pub IsSlotOf : Format → List ℕ → List ℕ → List Pair → Option ℕ → Type 0
IsSlotOf f bytes key pairs None = value_in key pairs ≡ None
IsSlotOf f bytes key pairs (Some k) =
    (k < f.slots) × (value_length (slot f bytes k) ≤ f.value)
    × (value_in key pairs ≡ Some (pair_of f (slot f bytes k)).value)

-- the first place of the key, where this one is or isn't one of the key
abbrev pub met_first : Option ℕ → ℕ → Bool → Option ℕ
met_first (Some before) place sought = Some before
met_first None place sought = if sought then Some place else None

-- the first n slots were looked at: each has a record, and some are away from their bucket or not
pub record IsScannedTo (f : Format) (bytes key : List ℕ) (home : List ℕ → Bool) (n : ℕ) (found : Option ℕ)
    (strange : Bool) : Type 0 where
  pub good : (i : ℕ) → i < n → is_bad_record f (slot f bytes i) ≡ false
  pub strangers : strange ≡ list_any (λ (r : Pair). not (home r.key)) (first_pairs f bytes n)
  pub place : IsSlotOf f bytes key (first_pairs f bytes n) found

-- a page's fault, or the slot of the key and the page that follows
abbrev pub IsLookedAt : List ℕ → List ℕ → ℕ → Result (Option ℕ × ℕ) ImageFault → Type 0
IsLookedAt bytes key p (Ok r) =
    (own_fault (view_of bytes) (home_of (view_of bytes) key) p ≡ None) × (r.1 ≡ next (view_of bytes) p)
    × IsSlotOf (format_of (version_of bytes)) (page bytes p) key ((view_of bytes).records p) r.0
IsLookedAt bytes key p (Err f) = own_fault (view_of bytes) (home_of (view_of bytes) key) p ≡ Some f

-- the bytes of slot k of page p
abbrev pub slot_of : List ℕ → ℕ → ℕ → List ℕ
slot_of bytes p k = slot (format_of (version_of bytes)) (page bytes p) k

-- the value in slot k of page p
abbrev pub slot_value : List ℕ → ℕ → ℕ → List ℕ
slot_value bytes p k = (pair_of (format_of (version_of bytes)) (slot_of bytes p k)).value

-- the page and the slot of the value that is found
pub record IsPlaceOf (bytes key : List ℕ) (p k : ℕ) : Type 0 where
  pub from : 1 ≤ p
  pub below : p < (header_of bytes).pages
  pub slot : k < (format_of (version_of bytes)).slots
  pub short : value_length (slot_of bytes p k) ≤ (format_of (version_of bytes)).value
  pub found : look_up (view_of bytes) key ≡ Ok (Some (slot_value bytes p k))

-- where the value stands that is found, if one is, or the fault
abbrev pub IsPlace : List ℕ → List ℕ → Result (Option (ℕ × ℕ)) ImageFault → Type 0
IsPlace bytes key (Ok None) = look_up (view_of bytes) key ≡ Ok None
IsPlace bytes key (Ok (Some at)) = IsPlaceOf bytes key at.0 at.1
IsPlace bytes key (Err f) = look_up (view_of bytes) key ≡ Err f

-- the header, or the fault of what is to be opened
abbrev pub OpensHeader : List ℕ → Result Header ImageFault → Type 0
OpensHeader bytes (Ok header) =
    (header ≡ header_of bytes) × (first_fault_of (header_rows bytes) ≡ None)
    × (page_bytes (version_of bytes) ≤ length bytes)
OpensHeader bytes (Err f) = opening_fault bytes ≡ Some f
