-- What is counted of a file
use Rattle.std.specs.Prelude.{ℕ, zero, suc, ◌-◌, max}
use Rattle.lh_addr.specs.Growth.{level, pointer}
use Rattle.lh_bucket.specs.Listing.{Lists, size, count_of}
use Rattle.lh_image.specs.declared.census.Census.{Census}
use Rattle.lh_image.specs.Canonical.{page_count_in, page_total}

-- the greatest number of pages in one of the chains of the first n buckets
unfoldable pub longest_before : Lists → ℕ → ℕ
longest_before l zero = 0
longest_before l (suc n) = max (longest_before l n) (page_count_in l n)

-- the census of a listing
abbrev pub census_of : Lists → Census
census_of l = record {
  buckets = size l;
  level = level l.config.initial (size l);
  pointer = pointer l.config.initial (size l);
  records = count_of l.lists;
  pages = page_total l;
  overflow = page_total l - 1 - size l;
  longest = longest_before l (size l);
}
