-- What holds of either version: its numbers, and how its first four bytes tell it
use Rattle.std.proofs.Common.{◌≡◌, ℕ, ◌+◌, ◌≤◌, Bool, true, false, cond, not, ◌||◌, List, length, take, refl, arith}
use Rattle.std.proofs.lemmas.List.{take-take}
use Rattle.std.proofs.lemmas.Slice.Eq.{bytes_eq-Decides}
use Rattle.lh_image.specs.declared.version.Version.{Version}
use Rattle.lh_image.specs.declared.version.Version.TheVariants.{One, Two}
use Rattle.lh_image.specs.Faults.{no_magic}
use Rattle.lh_image.specs.Layout.{fields_end, padding}
use Rattle.lh_image.specs.Version.{begins, magic, page_bytes, slots, version_of}

-- a page of version 1 is the shorter one
pub page_bytes-one : page_bytes One ≡ 1024
unfolding page_bytes
page_bytes-one = refl

-- no page is shorter than one of version 1
pub least_page : (v : Version) → 1024 ≤ page_bytes v
unfolding page_bytes
least_page One = omega arith
least_page Two = omega arith

-- no page is longer than one of version 2
pub most_page : (v : Version) → page_bytes v ≤ 4096
unfolding page_bytes
most_page One = omega arith
most_page Two = omega arith

-- a page is the bytes of the header's fields and those behind them
pub page_cut : (v : Version) → page_bytes v ≡ fields_end + padding v
unfolding page_bytes
page_cut One = refl
page_cut Two = refl

-- the bytes that tell a version are four
pub length-magic : (v : Version) → length (magic v) ≡ 4
length-magic One = refl
length-magic Two = refl

-- no page has more than 24 slots
pub few_slots : (v : Version) → slots v ≤ 24
few_slots One = omega arith
few_slots Two = omega arith

-- ---- the first four bytes

-- the first bytes, four or more, tell the same version as all of them
pub version-front : (n : ℕ) (bytes : List ℕ) → 4 ≤ n → version_of (take n bytes) ≡ version_of bytes
unfolding version_of begins
version-front n bytes enough = rw (take-take 4 n bytes enough) refl

-- the first bytes, four or more, begin as an image exactly where all of them do
pub no_magic-front : (n : ℕ) (bytes : List ℕ) → 4 ≤ n → no_magic (take n bytes) ≡ no_magic bytes
unfolding no_magic begins
no_magic-front n bytes enough = rw (take-take 4 n bytes enough) refl

-- bytes that begin as a version does are of that version
pub version_from_magic : (v : Version) (bytes : List ℕ) → take 4 bytes ≡ magic v → version_of bytes ≡ v
unfolding version_of begins
version_from_magic One bytes e = rw e refl
version_from_magic Two bytes e = rw e refl

-- bytes that begin as a version does begin as an image
pub no_magic_from_magic : (v : Version) (bytes : List ℕ) → take 4 bytes ≡ magic v → no_magic bytes ≡ false
unfolding no_magic begins
no_magic_from_magic One bytes e = rw e refl
no_magic_from_magic Two bytes e = rw e refl

magic_by : (front : List ℕ) (one two : Bool) → (one ≡ true → front ≡ magic One) → (two ≡ true → front ≡ magic Two) →
    not (one || two) ≡ false → front ≡ magic (cond two Two One)
magic_by front one true as_one as_two some = as_two refl
magic_by front true false as_one as_two some = as_one refl
magic_by front false false as_one as_two some = absurd cc

-- bytes that begin as an image begin as their version does
pub magic_of : (bytes : List ℕ) → no_magic bytes ≡ false → take 4 bytes ≡ magic (version_of bytes)
unfolding no_magic version_of begins
magic_of bytes some =
    magic_by (take 4 bytes) _ _ (bytes_eq-Decides (take 4 bytes) (magic One)).0
    (bytes_eq-Decides (take 4 bytes) (magic Two)).0 some

version_by : (one two : Bool) → not (one || two) ≡ true → cond two Two One ≡ One
version_by one true none = absurd (none_of one none)
  where
    none_of : (b : Bool) → not (b || true) ≡ true → ⊥
    none_of true e = cc
    none_of false e = cc
version_by one false none = refl

-- bytes that begin as no image are read as of version 1
pub version_of-none : (bytes : List ℕ) → no_magic bytes ≡ true → version_of bytes ≡ One
unfolding no_magic version_of begins
version_of-none bytes none = version_by _ _ none
