-- What a handle has
use Rattle.std.specs.Prelude.{◌≡◌, ℕ, List}
use Rattle.lh_image.specs.declared.version.Version.{Version}
use Rattle.lh_image.specs.declared.version.Version.TheVariants.{One, Two}
use Rattle.lh_image.specs.Checked.{IsChecked}
use Rattle.lh_image.specs.Indexed.{extent_of}
use Rattle.lh_image.specs.Layout.{header_of}
use Rattle.lh_image.specs.Version.{version_of}
use Rattle.lhf.specs.declared.handle.Handle.{Handle}

-- the number of a version
abbrev pub number_of_version : Version → ℕ
number_of_version One = 1
number_of_version Two = 2

-- the handle has the numbers of the header of some bytes
pub record HasNumbers (bytes : List ℕ) (h : Handle) : Type 0 where
  pub version : h.version ≡ number_of_version (version_of bytes)
  pub initial : h.initial ≡ (header_of bytes).config.initial
  pub capacity : h.capacity ≡ (header_of bytes).config.capacity
  pub load : h.load ≡ (header_of bytes).config.load
  pub max : h.max ≡ (header_of bytes).config.max
  pub buckets : h.buckets ≡ (header_of bytes).buckets
  pub pages : h.pages ≡ (header_of bytes).pages
  pub records : h.records ≡ (header_of bytes).records

-- the handle is of these bytes
abbrev pub IsOpenHandle : List ℕ → Handle → Type 0
IsOpenHandle bytes h = (h.bytes.now ≡ bytes) × HasNumbers bytes h

-- the bytes of a handle were checked, its index is theirs, and so are its numbers
pub record IsCheckedHandle (h : Handle) : Type 0 where
  pub numbers : HasNumbers h.bytes.now h
  pub checked : IsChecked h.bytes.now (header_of h.bytes.now) (extent_of h.bytes.now) h.index.now
