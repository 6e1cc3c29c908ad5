-- How many pages the longest chain has, after one bucket more, and at most
use Rattle.std.proofs.Common.{◌≡◌, ℕ, zero, suc, ◌+◌, ◌-◌, ◌≤◌, sym, ap, ◌∙◌, arith}
use Rattle.std.specs.Prelude.{max}
use Rattle.std.proofs.Math.Numerals.{add-one}
use Rattle.lh_bucket.specs.Listing.{Lists}
use Rattle.lh_image.specs.Canonical.{page_count_in, overflow_before}
use Rattle.lh_image.specs.Census.{longest_before}
use Rattle.lh_image.proofs.Writes.Counting.{overflow-more}

-- the number of pages of the longest of the first chains, after one bucket more
pub longest-more : (l : Lists) (n : ℕ) → longest_before l (n + 1) ≡ max (longest_before l n) (page_count_in l n)
unfolding longest_before
longest-more l n = ap (longest_before l) (add-one n)

-- the longest chain has at most one page that is no overflow page
pub longest_low : (l : Lists) (n : ℕ) → longest_before l n ≤ 1 + overflow_before l n
unfolding longest_before
longest_low l zero = omega arith
longest_low l (suc n) =
    let more : overflow_before l (suc n) ≡ overflow_before l n + (page_count_in l n - 1) =
    ap (overflow_before l) (sym (add-one n)) ∙ overflow-more l n in
    omega (arith, more, longest_low l n)
