-- The records of a listing have no misfit.
use Rattle.std.proofs.Common.{◌≡◌, ℕ, ◌-◌, ◌<◌, false, List, [], length, None, subst, arith}
use Rattle.std.specs.List.{IsDistinct}
use Rattle.std.specs.Str.{bytes_eq}
use Rattle.lh_addr.specs.Fnv.{code_of}
use Rattle.lh_addr.specs.Growth.{address}
use Rattle.lh_page.specs.declared.pair.Pair.{Pair}
use Rattle.lh_page.specs.Records.{keys_of, key_at}
use Rattle.lh_bucket.specs.Listing.{IsListing, list_at}
use Rattle.lh_image.specs.Chains.{IsCovered}
use Rattle.lh_image.specs.Faults.{has_misfit, least, misfits, is_at_home}
use Rattle.lh_image.specs.Image.{listing_of}
use Rattle.lh_image.specs.View.{View, initial, buckets, page_count, numbers, bucket, next, chain_of}
use Rattle.lh_image.proofs.Faults.Keys.{no_misfit, home_tests}
use Rattle.lh_image.proofs.Images.Listings.{chain_records, size-listing_of, list_at-listing_of}
use Rattle.lh_image.proofs.Faults.Ranges.{none_found}
use Rattle.lh_image.proofs.Images.Shown.{bucket_fits}

-- the records of a bucket
chain_at_home : (v : View) → IsListing (listing_of v) → (i : ℕ) → i < buckets v →
    misfits (is_at_home v i) [] (chain_records v i) ≡ false
unfolding listing_of
chain_at_home v is i less =
    let f : List ℕ → ℕ = λ key. address (initial v) (buckets v) (code_of key) in
    let own = list_at-listing_of v i less in
    let distinct : IsDistinct bytes_eq (keys_of (chain_records v i)) = rw own at (is.distinct i) in
    let home : (k : ℕ) → k < length (chain_records v i) → f (key_at (chain_records v i) k) ≡ i =
    subst (λ (rs : List Pair). (k : ℕ) → k < length rs → f (key_at rs k) ≡ i) own
    (subst
    (λ (n : ℕ).
    (k : ℕ) → k < length (list_at (listing_of v).lists i) →
    address (initial v) n (code_of (key_at (list_at (listing_of v).lists i) k)) ≡ i) (size-listing_of v)
    (is.home i)) in
    (no_misfit (is_at_home v i) (chain_records v i)).1 (home_tests f i (chain_records v i) home, distinct)

-- no page has one
pub none_misfit : (v : View) → IsCovered (next v) (bucket v) (buckets v) (page_count v) (chain_of v) →
    IsListing (listing_of v) → least (page_count v) (has_misfit v) ≡ None
unfolding numbers has_misfit
none_misfit v cover is =
    none_found (has_misfit v) 1 (page_count v - 1) (λ p low high.
    let all = cover.all p low (omega arith) in
    (bucket_fits v cover (bucket v p) all.0).1 (chain_at_home v is (bucket v p) all.0) p all.1)
