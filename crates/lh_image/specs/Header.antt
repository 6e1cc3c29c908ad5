-- The header as it is read
use Rattle.std.specs.Prelude.{◌≡◌, ℕ, ◌+◌, ◌<◌, ◌≤◌, false, List, length, drop, Option, Some, None, Result, Ok, Err}
use Rattle.std.specs.Prelude.{slice_index}
use Rattle.lh_addr.specs.declared.config.Range.{Range}
use Rattle.lh_addr.specs.declared.config.Range.TheVariants.{Initial, Capacity, Load, Max}
use Rattle.lh_addr.specs.Limits.{IsInitial, IsLoad, IsSize}
use Rattle.lh_addr.specs.Settings.{IsInRange}
use Rattle.lh_bucket.specs.Listing.{Lists}
use Rattle.lh_image.specs.declared.fault.ImageFault.{ImageFault}
use Rattle.lh_image.specs.declared.fault.ImageFault.TheVariants.{Trailing}
use Rattle.lh_image.specs.declared.reading.first_page.Fields.{Fields}
use Rattle.lh_image.specs.declared.header.Header.{Header}
use Rattle.lh_image.specs.declared.version.Version.{Version}
use Rattle.lh_image.specs.Faults.{header_rows, first_fault_of, no_magic}
use Rattle.lh_image.specs.Filling.{FillsWhole}
use Rattle.lh_image.specs.Layout.{most_pages, header_of}
use Rattle.lh_image.specs.Reading.{IsDueFault, Leaves, reading_of}
use Rattle.lh_image.specs.Version.{page_bytes, slots, version_of}

-- the header that some fields are
abbrev pub header_with : Version → Fields → Header
header_with version f = record {
  version = version;
  config = record { initial = f.initial; capacity = f.capacity; load = f.load; max = f.max };
  buckets = f.buckets;
  pages = f.pages;
  records = f.records;
}

-- a page has room for at least one record, and for at most as many as a page of the version has slots
abbrev pub HasRoom : Header → Type 0
HasRoom header = (1 ≤ header.config.capacity) × (header.config.capacity ≤ slots header.version)

-- the first setting of a header's configuration that is out of its range, capacity by the slots of its version's pages
abbrev pub IsFirstBadSetting : Header → Range → Type 0
IsFirstBadSetting h Initial = ¬ IsInitial h.config.initial
IsFirstBadSetting h Capacity = IsInitial h.config.initial × ¬ HasRoom h
IsFirstBadSetting h Load = IsInitial h.config.initial × HasRoom h × ¬ IsLoad h.config.load
IsFirstBadSetting h Max =
    IsInitial h.config.initial × HasRoom h × IsLoad h.config.load × ¬ IsSize h.config.initial h.config.max

-- the numbers of a header are in their ranges
pub record AreInRange (header : Header) : Type 0 where
  pub settings : IsInRange header.config
  pub room : header.config.capacity ≤ slots header.version
  pub from_initial : header.config.initial ≤ header.buckets
  pub to_max : header.buckets ≤ header.config.max
  pub enough : 1 + header.buckets ≤ header.pages
  pub few : header.pages ≤ most_pages

-- the first page was read, and has a header without a fault
pub record HasHeader (header : Header) (bytes : List ℕ) (now : Option (List ℕ)) : Type 0 where
  pub fields : header ≡ header_of bytes
  pub faultless : first_fault_of (header_rows bytes) ≡ None
  pub size : page_bytes (version_of bytes) ≤ length bytes
  pub rest : now ≡ Some (drop (page_bytes (version_of bytes)) bytes)
  pub each_byte : (i : ℕ) → i < page_bytes (version_of bytes) → slice_index bytes i < 256

-- the bytes begin as an image of the version, and their front came
pub record HasBegun (version : Version) (bytes buffer : List ℕ) (now : Option (List ℕ)) : Type 0 where
  pub told : version ≡ version_of bytes
  pub magic : no_magic bytes ≡ false
  pub filled : FillsWhole bytes buffer now

-- what is left after a fault that the first page decides, which the end of the bytes doesn't
abbrev pub LeavesFirst : ImageFault → List ℕ → Option (List ℕ) → Type 0
LeavesFirst Trailing bytes now = ⊥
LeavesFirst f bytes now = Leaves {X = Lists} (Err f) bytes now

-- the front of the bytes, by the version that it tells, or the answer that is due
abbrev pub ReadsFront : List ℕ → Result Version ImageFault → (Version → List ℕ) → Option (List ℕ) → Type 0
ReadsFront bytes (Ok version) buffer now = HasBegun version bytes (buffer version) now
ReadsFront bytes (Err f) buffer now = IsDueFault f (reading_of bytes) × LeavesFirst f bytes now

-- the header, or the answer that is due
abbrev pub ReadsHeader : List ℕ → Result Header ImageFault → Option (List ℕ) → Type 0
ReadsHeader bytes (Ok header) now = HasHeader header bytes now
ReadsHeader bytes (Err f) now = IsDueFault f (reading_of bytes) × LeavesFirst f bytes now
