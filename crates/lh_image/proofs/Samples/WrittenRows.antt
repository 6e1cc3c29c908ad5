-- The images that are written of small listings, and their censuses
use Rattle.std.proofs.Common.{◌≡◌, ℕ, length, refl}
use Rattle.lh_addr.specs.Growth.{greatest, level_of, level, pointer}
use Rattle.lh_page.specs.PackedList.{pieces}
use Rattle.lh_page.specs.PageTable.{page_text}
use Rattle.lh_image.specs.declared.census.Census.{Census}
use Rattle.lh_image.specs.Canonical.{canonical, overflow_before, overflow_text, page_count_in, text_in}
use Rattle.lh_image.specs.declared.version.Version.TheVariants.{One}
use Rattle.lh_image.specs.Version.{page_bytes}
use Rattle.lh_image.specs.Census.{census_of, longest_before}
use Rattle.lh_image.proofs.Samples.Samples.{empty, empty_listing, five, five_listing, two_pages, two_pages_listing}
use Rattle.lh_image.proofs.Samples.Samples.{four_pages, four_pages_listing, two_chains, two_chains_listing}

written :
    (canonical One empty_listing ≡ empty One)
    × (canonical One five_listing ≡ five One)
    × (canonical One two_pages_listing ≡ two_pages One)
    × (canonical One four_pages_listing ≡ four_pages One)
    × (canonical One two_chains_listing ≡ two_chains One)
unfolding canonical overflow_before overflow_text page_count_in text_in page_text pieces greatest level_of level pointer
    empty five two_pages four_pages two_chains page_bytes
written = (refl, refl, refl, refl, refl)

lengths : (length (empty One) ≡ 2048) × (length (five One) ≡ 4096) × (length (two_pages One) ≡ 3072)
    × (length (four_pages One) ≡ 5120) × (length (two_chains One) ≡ 5120)
unfolding empty five two_pages four_pages two_chains
lengths = (refl, refl, refl, refl, refl)

-- buckets, level, pointer, records, pages, overflow pages, longest chain
abbrev census : ℕ → ℕ → ℕ → ℕ → ℕ → ℕ → ℕ → Census
census buckets level pointer records pages overflow longest =
    record {
      buckets = buckets;
      level = level;
      pointer = pointer;
      records = records;
      pages = pages;
      overflow = overflow;
      longest = longest;
    }

censuses :
    (census_of empty_listing ≡ census 1 0 0 0 2 0 1)
    × (census_of five_listing ≡ census 3 1 1 5 4 0 1)
    × (census_of two_pages_listing ≡ census 1 0 0 4 3 1 2)
    × (census_of four_pages_listing ≡ census 1 0 0 4 5 3 4)
    × (census_of two_chains_listing ≡ census 2 0 0 4 5 2 2)
unfolding longest_before overflow_before page_count_in pieces greatest level pointer
censuses = (refl, refl, refl, refl, refl)
