-- The census of an image, as counted in its pages
use Rattle.std.specs.Prelude.{◌≡◌, ℕ, zero, suc, ◌-◌, List, length, max}
use Rattle.lh_addr.specs.Growth.{level, pointer}
use Rattle.lh_bucket.specs.Listing.{Lists}
use Rattle.lh_image.specs.declared.census.Census.{Census}
use Rattle.lh_image.specs.Census.{census_of}
use Rattle.lh_image.specs.Image.{IsImage}
use Rattle.lh_image.specs.Layout.{view_of}
use Rattle.lh_image.specs.View.{View, initial, buckets, page_count, record_count, chain_of}

-- the greatest number of pages in one of the first n chains
unfoldable pub longest_chain : View → ℕ → ℕ
longest_chain v zero = 0
longest_chain v (suc n) = max (longest_chain v n) (length (chain_of v n))

-- the numbers that the header gives, and the chains' pages
abbrev pub counted : View → Census
counted v = record {
  buckets = buckets v;
  level = level (initial v) (buckets v);
  pointer = pointer (initial v) (buckets v);
  records = record_count v;
  pages = page_count v;
  overflow = page_count v - 1 - buckets v;
  longest = longest_chain v (buckets v);
}

-- The census of an image's listing counts the pages that the image has.
abbrev pub CensusLaw : Type 0
CensusLaw = (bytes : List ℕ) (l : Lists) → IsImage bytes l → census_of l ≡ counted (view_of bytes)
