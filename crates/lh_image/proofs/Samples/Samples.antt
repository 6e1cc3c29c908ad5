-- Small images of either version, byte by byte
use Rattle.std.proofs.Common.{ℕ, ◌-◌, ◌*◌, List, [], ◌∷◌, ◌++◌, replicate}
use Rattle.lh_page.specs.declared.pair.Pair.{Pair}
use Rattle.lh_bucket.specs.Listing.{Lists}
use Rattle.lh_image.specs.declared.version.Version.{Version}
use Rattle.lh_image.specs.declared.version.Version.TheVariants.{One, Two}

-- a record with a key and a value of one byte each
abbrev pub pair : ℕ → ℕ → Pair
pair key value = record { key = key ∷ []; value = value ∷ [] }

-- its slot
abbrev pub slot_bytes : Version → ℕ → ℕ → List ℕ
slot_bytes One key value = 1 ∷ 1 ∷ key ∷ replicate 29 0 ++ value ∷ replicate 39 0
slot_bytes Two key value = 1 ∷ 1 ∷ key ∷ replicate 55 0 ++ value ∷ replicate 111 0

-- the slots of a page that has this many in use, and zeros in the others
abbrev pub all_slots : Version → ℕ → List ℕ → List ℕ
all_slots One used slots = slots ++ replicate (72 * (14 - used)) 0
all_slots Two used slots = slots ++ replicate (170 * (24 - used)) 0

-- the last of the first four bytes, and the zeros that end the header
abbrev pub mark : Version → ℕ
mark One = 49
mark Two = 50

abbrev pub last_zeros : Version → List ℕ
last_zeros One = replicate 992 0
last_zeros Two = replicate 4064 0

-- a small number in four bytes
abbrev pub four_bytes : ℕ → List ℕ
four_bytes n = n ∷ 0 ∷ 0 ∷ 0 ∷ []

-- the header: `high` is the third byte of the greatest number of buckets
abbrev pub header_bytes : Version → ℕ → ℕ → ℕ → ℕ → ℕ → ℕ → ℕ → List ℕ
header_bytes version initial capacity buckets max high pages records =
    76 ∷ 72 ∷ 70 ∷ mark version ∷ four_bytes initial ++ four_bytes capacity ++ four_bytes 100 ++ four_bytes buckets
    ++ (max ∷ 0 ∷ high ∷ 0 ∷ []) ++ four_bytes pages ++ four_bytes records ++ last_zeros version

-- a page whose slots from `used` on are zeros
abbrev pub page_bytes : Version → ℕ → ℕ → ℕ → ℕ → ℕ → List ℕ → List ℕ
page_bytes version kind used level bucket next slots =
    kind ∷ used ∷ level ∷ 0 ∷ four_bytes bucket ++ four_bytes next ++ replicate 4 0 ++ all_slots version used slots

-- ---- an empty file

abbrev pub empty_listing : Lists
empty_listing = record { config = record { initial = 1; capacity = 2; load = 100; max = 65536 }; lists = [] ∷ [] }

unfoldable pub empty : Version → List ℕ
empty version = header_bytes version 1 2 1 0 1 2 0 ++ page_bytes version 1 0 0 0 0 []

-- ---- five records in three buckets: a and e, b and d, c

abbrev pub five_listing : Lists
five_listing = record {
  config = record { initial = 1; capacity = 2; load = 100; max = 65536 };
  lists = (pair 97 49 ∷ pair 101 53 ∷ []) ∷ (pair 98 50 ∷ pair 100 52 ∷ []) ∷ (pair 99 51 ∷ []) ∷ [];
}

unfoldable pub five : Version → List ℕ
five version =
    header_bytes version 1 2 3 0 1 4 5
    ++ page_bytes version 1 2 2 0 0 (slot_bytes version 97 49 ++ slot_bytes version 101 53)
    ++ page_bytes version 1 2 1 1 0 (slot_bytes version 98 50 ++ slot_bytes version 100 52)
    ++ page_bytes version 1 1 2 2 0 (slot_bytes version 99 51)

-- ---- one bucket with a, c, e and g, in two pages and in four

abbrev pub two_pages_listing : Lists
two_pages_listing = record {
  config = record { initial = 1; capacity = 2; load = 100; max = 1 };
  lists = (pair 97 49 ∷ pair 99 50 ∷ pair 101 51 ∷ pair 103 52 ∷ []) ∷ [];
}

unfoldable pub two_pages : Version → List ℕ
two_pages version =
    header_bytes version 1 2 1 1 0 3 4
    ++ page_bytes version 1 2 0 0 2 (slot_bytes version 97 49 ++ slot_bytes version 99 50)
    ++ page_bytes version 2 2 0 0 0 (slot_bytes version 101 51 ++ slot_bytes version 103 52)

abbrev pub four_pages_listing : Lists
four_pages_listing = record {
  config = record { initial = 1; capacity = 1; load = 100; max = 1 };
  lists = (pair 97 49 ∷ pair 99 51 ∷ pair 101 53 ∷ pair 103 55 ∷ []) ∷ [];
}

unfoldable pub four_pages : Version → List ℕ
four_pages version =
    header_bytes version 1 1 1 1 0 5 4 ++ page_bytes version 1 1 0 0 2 (slot_bytes version 97 49)
    ++ page_bytes version 2 1 0 0 3 (slot_bytes version 99 51)
    ++ page_bytes version 2 1 0 0 4 (slot_bytes version 101 53)
    ++ page_bytes version 2 1 0 0 0 (slot_bytes version 103 55)

-- ---- two buckets with two pages each: a and c in pages 1 and 3, b and d in pages 2 and 4

abbrev pub two_chains_listing : Lists
two_chains_listing = record {
  config = record { initial = 2; capacity = 1; load = 100; max = 2 };
  lists = (pair 97 49 ∷ pair 99 51 ∷ []) ∷ (pair 98 50 ∷ pair 100 52 ∷ []) ∷ [];
}

unfoldable pub two_chains : Version → List ℕ
two_chains version =
    header_bytes version 2 1 2 2 0 5 4 ++ page_bytes version 1 1 0 0 3 (slot_bytes version 97 49)
    ++ page_bytes version 1 1 0 1 4 (slot_bytes version 98 50)
    ++ page_bytes version 2 1 0 0 0 (slot_bytes version 99 51)
    ++ page_bytes version 2 1 0 1 0 (slot_bytes version 100 52)

-- the same with pages 3 and 4 exchanged
unfoldable pub exchanged : Version → List ℕ
exchanged version =
    header_bytes version 2 1 2 2 0 5 4 ++ page_bytes version 1 1 0 0 4 (slot_bytes version 97 49)
    ++ page_bytes version 1 1 0 1 3 (slot_bytes version 98 50)
    ++ page_bytes version 2 1 0 1 0 (slot_bytes version 100 52)
    ++ page_bytes version 2 1 0 0 0 (slot_bytes version 99 51)
