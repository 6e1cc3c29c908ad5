-- What stands after some pages were read
use Rattle.std.specs.Prelude.{◌≡◌, ℕ, ◌-◌, ◌*◌, ◌<◌, ◌≤◌, List, [], length, drop, slice_index, Option, Some, Result, Ok}
use Rattle.std.specs.Prelude.{Err}
use Rattle.lh_page.specs.declared.pair.Pair.{Pair}
use Rattle.lh_image.specs.declared.fault.ImageFault.{ImageFault}
use Rattle.lh_image.specs.declared.fault.ImageFault.TheVariants.{Trailing, ReadFault}
use Rattle.lh_image.specs.declared.header.Header.{Header}
use Rattle.lh_image.specs.declared.judge.page_checks.PageFaults.{PageFaults}
use Rattle.lh_image.specs.declared.table.PageEntry.{PageEntry}
use Rattle.lh_image.specs.declared.table.Table.{Table}
use Rattle.lh_image.specs.Filling.{IsCut}
use Rattle.lh_image.specs.Layout.{header_of, view_of}
use Rattle.lh_image.specs.PageChecks.{AreNoted}
use Rattle.lh_image.specs.Table.{IsTable}
use Rattle.lh_image.specs.Version.{page_bytes, version_of}

-- the first n pages of these bytes came, the header's page among them
pub record HaveCome (bytes : List ℕ) (header : Header) (n : ℕ) (entries : List PageEntry) (pairs : List Pair)
    (faults : PageFaults) : Type 0 where
  pub fields : header ≡ header_of bytes
  pub kept : IsTable (view_of bytes) n entries pairs
  pub noted : AreNoted (view_of bytes) (n - 1) faults
  pub enough : page_bytes (version_of bytes) * n ≤ length bytes
  pub each_byte : (i : ℕ) → i < page_bytes (version_of bytes) * n → slice_index bytes i < 256

-- the first n pages came, and nothing behind them was read, or why they didn't come
abbrev pub ReadsTo : {X : Type 0} → List ℕ → Header → ℕ → Result X ImageFault → List PageEntry → List Pair →
    PageFaults → Option (List ℕ) → Type 0
ReadsTo bytes header n (Ok x) entries pairs faults now =
    HaveCome bytes header n entries pairs faults × (now ≡ Some (drop (page_bytes (version_of bytes) * n) bytes))
ReadsTo bytes header n (Err f) entries pairs faults now = IsCut bytes (page_bytes (version_of bytes) * n) f

-- all pages came, or why they didn't
abbrev pub ReadsAll : List ℕ → Header → Result (Table × PageFaults) ImageFault → Option (List ℕ) → Type 0
ReadsAll bytes header (Ok r) now =
    HaveCome bytes header header.pages r.0.entries.items r.0.pairs.items r.1
    × (now ≡ Some (drop (page_bytes (version_of bytes) * header.pages) bytes))
ReadsAll bytes header (Err f) now = IsCut bytes (page_bytes (version_of bytes) * header.pages) f

-- why the last page isn't the end of the bytes
abbrev pub IsNoEnd : List ℕ → ImageFault → Option (List ℕ) → Type 0
IsNoEnd rest Trailing now = (1 ≤ length rest) × (now ≡ Some (drop 1 rest))
IsNoEnd rest ReadFault now = Unit {0}
IsNoEnd rest f now = ⊥

-- nothing was left, or one byte more was read
abbrev pub ReadsEnd : {X : Type 0} → List ℕ → Result X ImageFault → Option (List ℕ) → Type 0
ReadsEnd rest (Ok x) now = (rest ≡ []) × (now ≡ Some [])
ReadsEnd rest (Err f) now = IsNoEnd rest f now
