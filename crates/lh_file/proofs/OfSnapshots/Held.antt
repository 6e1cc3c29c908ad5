-- Rows of buckets, and the seats that are taken and laid back from the first on
use Rattle.std.proofs.Common.{◌≡◌, ℕ, zero, suc, ◌+◌, ◌<◌, ◌≤◌, ⊎_elim, List, [], ◌∷◌, ◌++◌, map, length, take, drop}
use Rattle.std.proofs.Common.{get_or, sym, ap, ◌∙◌, subst, arith}
use Rattle.std.proofs.Math.ListN.{get_or-map}
use Rattle.std.proofs.lemmas.List.{length-map, take_more, drop_more, get_or_default}
use Rattle.std.proofs.lemmas.Bool.{cases_lt}
use mathlib.Core.Option.{some, some-injective, some-ne-none}
use lib.ListN.{get_elem?}
use Rattle.atomic_table.proofs.Lists.{at_longer}
use Rattle.lh_addr.specs.Settings.{Settings}
use Rattle.lh_bucket.specs.Bucket.{Seen, IsKept}
use Rattle.lh_file.specs.Snapshots.Held.{head_in, AreBucketsOf}
use Rattle.lh_words.specs.Rule.{Each}

module _ {V : Type 0} (f : V → Seen) (vs : List V) (n : ℕ) (v : V) (below : n < length vs)
    (is : v ≡ get_or vs n v) where
  -- the bucket that was read at a place
  pub row_at : (d : Seen) → get_or (map f vs) n d ≡ f v
  row_at d =
      let within : n < length (map f vs) = omega (arith, length-map vs f) in
      get_or_default (map f vs) n d (f v) within ∙ get_or-map f vs n v ∙ ap f (sym is)

  -- the next row of a list
  pub row_taken : take n (map f vs) ++ f v ∷ [] ≡ take (n + 1) (map f vs)
  row_taken =
      let within : n < length (map f vs) = omega (arith, length-map vs f) in
      ap (λ (b : Seen). take n (map f vs) ++ b ∷ []) (sym (row_at (f v))) ∙ sym (take_more (map f vs) n (f v) within)

  -- the buckets from a place on are the one that stands there and those behind it
  pub row_left : drop n (map f vs) ≡ f v ∷ drop (n + 1) (map f vs)
  row_left =
      let within : n < length (map f vs) = omega (arith, length-map vs f) in
      drop_more (map f vs) n (f v) within ∙ ap (λ (b : Seen). b ∷ drop (n + 1) (map f vs)) (row_at (f v))

-- a row read by its place
pub read_elem : {A : Type 0} (l : List A) (i : ℕ) (a d : A) → get_elem? l i ≡ some a → get_or l i d ≡ a
read_elem [] i a d e = absurd (some-ne-none a (sym e))
read_elem (x ∷ l) zero a d e = some-injective x a e
read_elem (x ∷ l) (suc i) a d e = read_elem l i a d e

-- what stands in a list stands before its end
pub elem_within : {A : Type 0} (l : List A) (i : ℕ) (a : A) → get_elem? l i ≡ some a → i < length l
elem_within [] i a e = absurd (some-ne-none a (sym e))
elem_within (x ∷ l) zero a e = omega arith
elem_within (x ∷ l) (suc i) a e = let h = elem_within l i a e in omega arith

-- a bucket is what it has to be
abbrev pub IsInPlace : Settings → ℕ → ℕ → Seen → Type 0
IsInPlace config size place bucket = (bucket.head ≡ head_in config size place) × IsKept bucket

-- the buckets before a place are
abbrev pub AreBucketsTo : Settings → ℕ → List Seen → ℕ → Type 0
AreBucketsTo config size buckets n =
    (place : ℕ) (bucket : Seen) → place < n → get_elem? buckets place ≡ some bucket → IsInPlace config size place bucket

-- where the buckets before a place and the one at it are what they have to be, so are those before the next place
pub row_more : (config : Settings) (size : ℕ) (buckets : List Seen) (n : ℕ) (b : Seen) → get_or buckets n b ≡ b →
    IsInPlace config size n b → AreBucketsTo config size buckets n → AreBucketsTo config size buckets (n + 1)
row_more config size buckets n b here is before place bucket below at = ⊎_elim
    (λ (low : place < n). before place bucket low at)
    (λ (high : n ≤ place). let same : n ≡ place = omega arith in
    let met : b ≡ bucket = sym here ∙ ap (λ i. get_or buckets i b) same ∙ read_elem buckets place bucket b at in
    subst (λ (x : Seen). IsInPlace config size place x) met (subst (λ i. IsInPlace config size i b) same is))
    (cases_lt place n)

-- buckets that are what they have to be up to the last are all buckets of the file
pub row_whole : (config : Settings) (size : ℕ) (buckets : List Seen) (n : ℕ) → size ≡ length buckets →
    length buckets ≤ n → AreBucketsTo config size buckets n → AreBucketsOf config buckets
row_whole config size buckets n is all h place bucket at = let w = elem_within buckets place bucket at in
    subst (λ s. IsInPlace config s place bucket) is (h place bucket (omega arith) at)

-- a fact of each element is one of the last, and of those before it
pub each_end : {A : Type 0} (P : A → Type 0) (l : List A) (i : ℕ) (a : A) → i < length l → a ≡ get_or l i a → Each l P →
    P a
each_end P l i a below is all = all i a (there l i a below is)
  where
    there : {A : Type 0} (l : List A) (i : ℕ) (a : A) → i < length l → a ≡ get_or l i a → get_elem? l i ≡ some a
    there [] i a below is = absurd (omega (arith, below))
    there (x ∷ l) zero a below is = ap some (sym is)
    there (x ∷ l) (suc i) a below is = there l i a (omega (arith, below)) is

-- what holds of each row holds of the first ones
pub each_front : {A : Type 0} (P : A → Type 0) (l m : List A) → Each (l ++ m) P → Each l P
each_front P l m all i a at = all i a (at_longer l m i a at)
