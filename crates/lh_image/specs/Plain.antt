-- Pages that are looked at where they stand
use Rattle.std.specs.Prelude.{◌≡◌, ℕ, ◌+◌, ◌-◌, ◌<◌, ◌≤◌, Bool, true, false, List, [], length, slice_index}
use Rattle.std.specs.Prelude.{slice_set, None}
use Rattle.std.specs.List.{flat_map, list_any, range_with_len, sum_by}
use Rattle.std.specs.Str.{bytes_eq}
use Rattle.lh_addr.specs.Fnv.{code_of}
use Rattle.lh_page.specs.declared.format.Format.{Format}
use Rattle.lh_page.specs.declared.pair.Pair.{Pair}
use Rattle.lh_page.specs.PageFields.{is_bad_record, pair_of}
use Rattle.lh_page.specs.PageTable.{slot}
use Rattle.lh_page.specs.Records.{keys_of}
use Rattle.lh_image.specs.declared.checked.index.PageIndex.{PageIndex}
use Rattle.lh_image.specs.declared.version.Version.{Version}
use Rattle.lh_image.specs.Checked.{code_mark, index_at}
use Rattle.lh_image.specs.Chains.{IsPath}
use Rattle.lh_image.specs.Faults.{misfits}
use Rattle.lh_image.specs.Indexed.{IsGoodPage}
use Rattle.lh_image.specs.Layout.{page, view_of}
use Rattle.lh_image.specs.LookUp.{own_fault}
use Rattle.lh_image.specs.Version.{format_of, version_of}
use Rattle.lh_image.specs.View.{bucket, chain_of, next, used}

-- the first n slots of a page have records that are at home, and the mark of each key is told
pub record HasMarks (f : Format) (pg : List ℕ) (home : List ℕ → Bool) (n : ℕ) (marks : List ℕ) : Type 0 where
  pub size : length marks ≡ 24
  pub good : (i : ℕ) → i < n → is_bad_record f (slot f pg i) ≡ false
  pub at_home : (i : ℕ) → i < n → home (pair_of f (slot f pg i)).key ≡ true
  pub told : (i : ℕ) → i < n → slice_index marks i ≡ code_mark (code_of (pair_of f (slot f pg i)).key)

-- a page has no fault by itself, and its entry is what look-ups want of it
pub record IsFaultlessPage (bytes : List ℕ) (p : ℕ) (entry : PageIndex) : Type 0 where
  pub faultless : own_fault (view_of bytes) (bucket (view_of bytes) p) p ≡ None
  pub good : IsGoodPage (format_of (version_of bytes)) (page bytes p) entry

-- the entry of a page that has no fault by itself was put into its place; the page has this many records
pub record IsPut (bytes : List ℕ) (p : ℕ) (index new_index : List PageIndex) (own_used : ℕ) : Type 0 where
  pub entry : PageIndex
  pub plain : IsFaultlessPage bytes p entry
  pub put : new_index ≡ slice_set index p entry
  pub used_is : own_used ≡ used (view_of bytes) p
  pub few : own_used ≤ 255

-- the first n pages have no fault by themselves, and each has its entry; and they have this many records
pub record ArePlain (bytes : List ℕ) (n : ℕ) (index : List PageIndex) (sum : ℕ) : Type 0 where
  pub plain : (p : ℕ) → 1 ≤ p → p < n → IsFaultlessPage bytes p (index_at index p)
  pub counted : sum ≡ sum_by (used (view_of bytes)) (range_with_len 1 (n - 1))

-- ---- keys of one chain

-- an index has the entries of pages whose used slots have records
pub record IsIndexOf (bytes : List ℕ) (version : Version) (index : List PageIndex) : Type 0 where
  pub own : version ≡ version_of bytes
  pub good : (p : ℕ) → 1 ≤ p → p < length index →
      IsGoodPage (format_of (version_of bytes)) (page bytes p) (index_at index p)

-- whether a key isn't among some keys
abbrev pub IsNoneOf : List ℕ → List (List ℕ) → Type 0
IsNoneOf key keys = list_any (bytes_eq key) keys ≡ false

-- the keys of some pages
abbrev pub keys_on : List ℕ → List ℕ → List (List ℕ)
keys_on bytes pages = keys_of (flat_map (view_of bytes).records pages)

-- of some records, behind some keys, none has a key that stands before it
abbrev pub AreNew : List (List ℕ) → List Pair → Type 0
AreNew before pairs = misfits (λ _. true) before pairs ≡ false

-- the pages behind the header lead where their entries say
abbrev pub IsNextOf : List PageIndex → (ℕ → ℕ) → Type 0
IsNextOf index leads = (p : ℕ) → 1 ≤ p → p < length index → (index_at index p).next ≡ leads p

-- The chains of the first n buckets end, and no key stands twice in one; they have this many pages.
pub record AreDistinctChains (bytes : List ℕ) (n : ℕ) (count : ℕ) : Type 0 where
  pub follows : (i : ℕ) → i < n → IsPath (next (view_of bytes)) (1 + i) (chain_of (view_of bytes) i)
  pub new : (i : ℕ) → i < n → AreNew [] (flat_map (view_of bytes).records (chain_of (view_of bytes) i))
  pub counted : count ≡ sum_by (λ i. length (chain_of (view_of bytes) i)) (range_with_len 0 n)
