-- The first record for which a slot has no room, found list by list
use Rattle.std.proofs.Common.{◌≡◌, ℕ, ◌<◌, ◌≤◌, inl, inr, Bool, true, false, cond, ltb, List, length, get_or, Option}
use Rattle.std.proofs.Common.{Some, None, sym, arith}
use Rattle.std.specs.List.{position, position_or_len}
use Rattle.std.proofs.lemmas.Bool.{cases_lt, ltb-false, ltb-true, or_cases, or_parts}
use Rattle.std.proofs.lemmas.List.Quantifiers.{position-Some}
use Rattle.std.proofs.lemmas.List.Sums.{fails_before_first}
use Rattle.lh_page.specs.declared.format.Format.{Format}
use Rattle.lh_page.specs.declared.pair.Pair.{Pair}
use Rattle.lh_page.specs.Records.{no_pair}
use Rattle.lh_bucket.specs.Listing.{IsFirst, list_at}
use Rattle.lh_image.specs.Fitting.{IsFitting, IsTooLong, is_too_long}

fitting : (f : Format) (i k : ℕ) (pairs : List Pair) → is_too_long f (get_or pairs k no_pair) ≡ false →
    IsFitting f i pairs k
unfolding is_too_long
fitting f i k pairs fits =
    let pair : Pair = get_or pairs k no_pair in
    let both = or_parts (ltb f.key (length pair.key)) (ltb f.value (length pair.value)) fits in
    (ltb-false f.key (length pair.key) both.0, ltb-false f.value (length pair.value) both.1)

too_long : (f : Format) (i k : ℕ) (pairs : List Pair) → is_too_long f (get_or pairs k no_pair) ≡ true →
    IsTooLong f i pairs k
unfolding is_too_long
too_long f i k pairs long =
    let pair : Pair = get_or pairs k no_pair in
    elim (or_cases (ltb f.key (length pair.key)) (ltb f.value (length pair.value)) long) [
      | inl key ↦ inl (ltb-true f.key (length pair.key) key)
      | inr value ↦ inr (ltb-true f.value (length pair.value) value)
    ]

none_passes : (b : Bool) (n : ℕ) → ◌≡◌ {A = Option ℕ} None (cond b (Some n) None) → b ≡ false
none_passes true n e = absurd cc
none_passes false n e = cc

-- where none is found, all fit
pub all_fitting : (f : Format) (i k : ℕ) (pairs : List Pair) → None ≡ position (is_too_long f) pairs →
    k < length pairs → IsFitting f i pairs k
all_fitting f i k pairs none below =
    let first : ℕ = position_or_len (is_too_long f) pairs in
    let past : length pairs ≤ first =
    ltb-false first (length pairs) (none_passes (ltb first (length pairs)) first none) in
    fitting f i k pairs (fails_before_first (is_too_long f) pairs k no_pair (omega arith))

-- what is found in a list behind others that fit is the first of all
pub first_long : (f : Format) (lists : List (List Pair)) (i k : ℕ) →
    ((b p : ℕ) → b < i → p < length (list_at lists b) → IsFitting f b (list_at lists b) p) →
    Some k ≡ position (is_too_long f) (list_at lists i) → IsFirst (IsFitting f) (IsTooLong f) lists i k
first_long f lists i k before found =
    let at = position-Some (is_too_long f) (list_at lists i) k no_pair (sym found) in
    record {
      within = at.0;
      fault = too_long f i k (list_at lists i) at.1;
      here = λ p low. fitting f i p (list_at lists i) (at.2 p low);
      before = before;
    }

-- one list more that fits
pub fitting_more : (f : Format) (lists : List (List Pair)) (i : ℕ) →
    ((b p : ℕ) → b < i → p < length (list_at lists b) → IsFitting f b (list_at lists b) p) →
    None ≡ position (is_too_long f) (list_at lists i) → (b p : ℕ) → b ≤ i → p < length (list_at lists b) →
    IsFitting f b (list_at lists b) p
fitting_more f lists i before none b p low below = elim (cases_lt b i) [
  | inl less ↦ before b p less below
  | inr not_less ↦ let same : b ≡ i =
      omega arith in rw same (all_fitting f i p (list_at lists i) none (rw same at below))
]
