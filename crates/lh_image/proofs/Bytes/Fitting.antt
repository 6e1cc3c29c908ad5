-- The records for which a slot has room are records, and those of a listing have room where no one is too long.
use Rattle.std.proofs.Common.{ℕ, ◌≤◌, arith}
use Rattle.std.specs.List.{All}
use Rattle.std.proofs.lemmas.List.Elements.{All-from_get_or}
use Rattle.lh_page.specs.declared.pair.Pair.{Pair}
use Rattle.lh_page.specs.Format.{FitsSlot}
use Rattle.lh_page.specs.Limits.{longest_key, longest_value}
use Rattle.lh_page.specs.Records.{IsRecord, no_pair}
use Rattle.lh_bucket.specs.Listing.{IsListing, Lists, list_at}
use Rattle.lh_image.specs.declared.version.Version.{Version}
use Rattle.lh_image.specs.declared.version.Version.TheVariants.{One, Two}
use Rattle.lh_image.specs.Fitting.{FitsVersion}
use Rattle.lh_image.specs.Version.{format_of}

few_bytes : (v : Version) → ((format_of v).key ≤ longest_key) × ((format_of v).value ≤ longest_value)
few_bytes One = (omega arith, omega arith)
few_bytes Two = (omega arith, omega arith)

-- a record for which a slot has room has a key and a value of lengths that keys and values have
pub record_from_fits : (v : Version) (pair : Pair) → FitsSlot (format_of v) pair → IsRecord pair
record_from_fits v pair h =
    record { key = (h.some, omega (arith, h.key, (few_bytes v).0)); value = omega (arith, h.value, (few_bytes v).1) }

-- a slot has room for each record of a listing that fits
pub fitting_slots : (v : Version) (l : Lists) → IsListing l → FitsVersion v l → (i : ℕ) →
    All (FitsSlot (format_of v)) (list_at l.lists i)
fitting_slots v l listing fits i =
    All-from_get_or (FitsSlot (format_of v)) (list_at l.lists i) no_pair
    (λ j below.
    record {
      some = (listing.records i j no_pair below).key.0;
      key = (fits.records i j below).0;
      value = (fits.records i j below).1;
    })

-- every listing fits version 2
pub fits_two : (l : Lists) → IsListing l → FitsVersion Two l
fits_two l listing = record {
  capacity = listing.config.capacity.1;
  records = λ i j below. let r = listing.records i j no_pair below in (r.key.1, r.value);
}
