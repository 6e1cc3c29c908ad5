-- From all pages to the answer
use Rattle.std.specs.Prelude.{◌≡◌, ℕ, ◌-◌, ◌*◌, ◌<◌, ◌≤◌, true, List, length, Option, Some, None}
use Rattle.lh_page.specs.declared.pair.Pair.{Pair}
use Rattle.lh_image.specs.declared.fault.ImageFault.{ImageFault}
use Rattle.lh_image.specs.declared.fault.ImageFault.TheVariants.{Magic, HeaderField, Counts, Trailing, ReadFault}
use Rattle.lh_image.specs.declared.fault.ImageFault.TheVariants.{Memory}
use Rattle.lh_image.specs.declared.header.Header.{Header}
use Rattle.lh_image.specs.declared.judge.page_checks.PageFaults.{PageFaults}
use Rattle.lh_image.specs.declared.table.PageEntry.{PageEntry}
use Rattle.lh_image.specs.Faults.{header_rows, first_fault_of}
use Rattle.lh_image.specs.PageChecks.{AreNoted}
use Rattle.lh_image.specs.Pages.{HaveCome}
use Rattle.lh_image.specs.Table.{page_records, links_in, has_plain_head}
use Rattle.lh_image.specs.Version.{page_bytes, version_of}
use Rattle.lh_image.specs.View.{View, IsView, buckets, page_count, links}

-- the bytes were read to their end, and are as many pages as their header says
pub record IsRead (bytes : List ℕ) (header : Header) (entries : List PageEntry) (pairs : List Pair)
    (faults : PageFaults) : Type 0 where
  pub come : HaveCome bytes header header.pages entries pairs faults
  pub faultless : first_fault_of (header_rows bytes) ≡ None
  pub size : length bytes ≡ page_bytes (version_of bytes) * header.pages

-- all pages of a View were kept and looked at
pub record IsViewKept (v : View) (entries : List PageEntry) (pairs : List Pair) (faults : PageFaults) : Type 0 where
  pub view : IsView v
  pub links : links_in entries (buckets v) ≡ links v
  pub records : (p : ℕ) → 1 ≤ p → p < page_count v → has_plain_head v p ≡ true → v.bad_slot p ≡ None →
      page_records entries pairs p ≡ v.records p
  pub noted : AreNoted v (page_count v - 1) faults

-- a fault that is decided after all pages were read
abbrev pub IsLate : ImageFault → Type 0
IsLate Magic = ⊥
IsLate (HeaderField offset) = ⊥
IsLate Counts = ⊥
IsLate Trailing = ⊥
IsLate ReadFault = ⊥
IsLate f = Unit {0}

-- out of memory, or the fault that is due
abbrev pub IsMemoryOr : ImageFault → Option ImageFault → Type 0
IsMemoryOr Memory due = Unit {0}
IsMemoryOr ReadFault due = ⊥
IsMemoryOr f due = due ≡ Some f
