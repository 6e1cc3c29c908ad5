-- When lists are no listing
use Rattle.std.specs.Prelude.{◌≡◌, ℕ, ◌<◌, List, length}
use Rattle.lh_addr.specs.Settings.{Settings}
use Rattle.lh_page.specs.declared.pair.Pair.{Pair}
use Rattle.lh_bucket.specs.declared.listing.ListingFault.{ListingFault}
use Rattle.lh_bucket.specs.declared.listing.ListingFault.TheVariants.{Shape, Misplaced, Twice, Memory}
use Rattle.lh_bucket.specs.Listing.{IsShape, IsHome, IsAway, IsNew, IsAgain, EachPlace, IsFirst, list_at}

-- the most records of a list in which keys that stand twice are looked for without memory
abbrev pub few : ℕ
few = 32

-- some list has more records than that
abbrev pub HasLongList : List (List Pair) → Type 0
HasLongList lists = (bucket : ℕ) × (few < length (list_at lists bucket))

-- the key at a place of the list of a bucket is the first that stands twice there, or the list is long and there was no
-- memory to look for it
abbrev pub IsTwiceIn : ℕ → List Pair → ListingFault → Type 0
IsTwiceIn own pairs Shape = ⊥
IsTwiceIn own pairs (Misplaced bucket place) = ⊥
IsTwiceIn own pairs (Twice bucket place) =
    (bucket ≡ own) × (place < length pairs) × IsAgain 0 pairs place × ((p : ℕ) → p < place → IsNew 0 pairs p)
IsTwiceIn own pairs Memory = few < length pairs

-- the first key that stands twice in some lists, or one is long and there was no memory to look for it
abbrev pub IsTwiceAmong : List (List Pair) → ListingFault → Type 0
IsTwiceAmong lists Shape = ⊥
IsTwiceAmong lists (Misplaced bucket place) = ⊥
IsTwiceAmong lists (Twice bucket place) = IsFirst IsNew IsAgain lists bucket place
IsTwiceAmong lists Memory = HasLongList lists

-- the first fault of lists of which there are as many as buckets
abbrev pub IsFaultAmong : ℕ → ℕ → List (List Pair) → ListingFault → Type 0
IsFaultAmong initial buckets lists Shape = ⊥
IsFaultAmong initial buckets lists (Misplaced bucket place) =
    IsFirst (IsHome initial buckets) (IsAway initial buckets) lists bucket place
IsFaultAmong initial buckets lists (Twice bucket place) =
    EachPlace (IsHome initial buckets) lists × IsFirst IsNew IsAgain lists bucket place
IsFaultAmong initial buckets lists Memory = EachPlace (IsHome initial buckets) lists × HasLongList lists

-- when each fault is answered: the first that applies, at the least bucket and there at the least place
abbrev pub IsFaultOf : Settings → ℕ → List (List Pair) → ListingFault → Type 0
IsFaultOf config buckets lists Shape = ¬ IsShape config buckets lists
IsFaultOf config buckets lists (Misplaced bucket place) =
    IsShape config buckets lists
    × IsFirst (IsHome config.initial buckets) (IsAway config.initial buckets) lists bucket place
IsFaultOf config buckets lists (Twice bucket place) =
    IsShape config buckets lists
    × EachPlace (IsHome config.initial buckets) lists
    × IsFirst IsNew IsAgain lists bucket place
IsFaultOf config buckets lists Memory =
    IsShape config buckets lists × EachPlace (IsHome config.initial buckets) lists × HasLongList lists
