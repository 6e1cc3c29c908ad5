-- Acts in the order of their stamps, and the first stamp that is missing
use Rattle.std.proofs.Common.{◌≡◌, ◌≢◌, ℕ, ◌+◌, ◌<◌, ◌≤◌, min, ⊎_elim, List, [], ◌∷◌, ◌++◌, map, take, length, get_or}
use Rattle.std.proofs.Common.{Some, None, refl, sym, ap, subst, ◌∙◌, arith, zero-add}
use Rattle.std.specs.List.{slice_get, range_with_len, enumerate_from, All}
use Rattle.std.specs.List.Sorted.{IsPermutation, IsNonDecreasingBy}
use Rattle.std.proofs.Math.ListN.{get_or-map}
use Rattle.std.proofs.lemmas.Bool.{cases_lt}
use Rattle.std.proofs.lemmas.List.{get_or_default, length-map, map-id, map-append, take_more}
use Rattle.std.proofs.lemmas.List.FromFn.{length-range_with_len, get_or-range_with_len, length-enumerate_from}
use Rattle.std.proofs.lemmas.List.FromFn.{get_or-enumerate_from, fill_by_all}
use Rattle.std.proofs.lemmas.List.Sorted.{IsPermutation-map, All-permutation}
use Rattle.std.proofs.lemmas.Option.{slice_get-get_or, slice_get_past, get_or_from_slice_get, none-some, same_Some}
use Rattle.lh_bucket.specs.declared.call.Call.TheVariants.{Search}
use Rattle.lh_bucket.specs.declared.call.Reply.TheVariants.{Absent}
use Rattle.lh_settling.specs.declared.act.ActLine.{ActLine}
use Rattle.lh_settling.specs.Acts.{stamps_of, IsInOrder, FirstDiffer}
use Rattle.lh_settling.proofs.Histories.{same_list}

-- what is read past the last act
abbrev pub no_act : ActLine
no_act = record { stamp = 0; call = Search []; reply = Absent }

-- the act at the place that stands beside a stamp
abbrev pub act_at : List ActLine → ℕ × ℕ → ActLine
act_at acts e = get_or acts e.1 no_act

-- the stamps of acts, each with the act's place
abbrev pub stamped : List ActLine → List (ℕ × ℕ)
stamped acts = map (λ (e : ℕ × ActLine). (e.1.stamp, e.0)) (enumerate_from 0 acts)

length-stamped : (acts : List ActLine) → length (stamped acts) ≡ length acts
length-stamped acts = length-map (enumerate_from 0 acts) (λ (e : ℕ × ActLine). (e.1.stamp, e.0))
    ∙ length-enumerate_from 0 acts

stamped_at : (acts : List ActLine) (k : ℕ) (d : ℕ × ℕ) → k < length acts
    → get_or (stamped acts) k d ≡ ((get_or acts k no_act).stamp, k)
stamped_at acts k d below =
    let within : k < length (stamped acts) = omega (arith, length-stamped acts) in
    get_or_default (stamped acts) k d (0, 0) within
    ∙ get_or-map (λ (e : ℕ × ActLine). (e.1.stamp, e.0)) (enumerate_from 0 acts) k (0, no_act)
    ∙ ap (λ (e : ℕ × ActLine). (e.1.stamp, e.0)) (get_or-enumerate_from 0 acts k (0, no_act) below)
    ∙ ap (λ n. ((get_or acts k no_act).stamp, n)) (zero-add k)

-- the acts at these places are the acts
acts_back : (acts : List ActLine) → map (act_at acts) (stamped acts) ≡ acts
acts_back acts = same_list _ _ (λ p. ⊎_elim
    (λ (below : p < length acts).
    let within : p < length (map (act_at acts) (stamped acts)) =
    omega (arith, length-map (stamped acts) (act_at acts), length-stamped acts) in
    slice_get-get_or (map (act_at acts) (stamped acts)) p (act_at acts (0, 0)) within
    ∙ ap Some (get_or-map (act_at acts) (stamped acts) p (0, 0) ∙ ap (act_at acts) (stamped_at acts p (0, 0) below))
    ∙ sym (slice_get-get_or acts p no_act below))
    (λ (past : length acts ≤ p).
    slice_get_past (map (act_at acts) (stamped acts)) p
    (omega (arith, length-map (stamped acts) (act_at acts), length-stamped acts))
    ∙ sym (slice_get_past acts p past))
    (cases_lt p (length acts)))

-- a place is that of an act, and the stamp is the act's
abbrev IsPlaceOf : List ActLine → ℕ × ℕ → Type 0
IsPlaceOf acts e = (e.1 < length acts) × (e.0 ≡ (act_at acts e).stamp)

places_of : (acts : List ActLine) (places : List (ℕ × ℕ)) → IsPermutation (stamped acts) places
    → All (IsPlaceOf acts) places
places_of acts places same = All-permutation (IsPlaceOf acts) (stamped acts) places same (λ k d below.
    let within : k < length acts = omega (arith, length-stamped acts) in
    subst (IsPlaceOf acts) (sym (stamped_at acts k d within)) (within, refl))

-- in whatever order the stamps stand, the place beside each is that of an act
pub place_below : (acts : List ActLine) (places : List (ℕ × ℕ)) (k : ℕ) (d : ℕ × ℕ)
    → IsPermutation (stamped acts) places → k < length places → (get_or places k d).1 < length acts
place_below acts places k d same below = (places_of acts places same k d below).0

-- one place further
pub placed_more : (acts : List ActLine) (places : List (ℕ × ℕ)) (history : List ActLine) (k : ℕ) (d : ℕ × ℕ)
    (act : ActLine) → k < length places → slice_get acts (get_or places k d).1 ≡ Some act
    → history ≡ map (act_at acts) (take k places) → history ++ act ∷ [] ≡ map (act_at acts) (take (k + 1) places)
placed_more acts places history k d act below at is =
    ap (λ (xs : List ActLine). xs ++ act ∷ []) is
    ∙ ap (λ a. map (act_at acts) (take k places) ++ a ∷ [])
    (sym (get_or_from_slice_get acts (get_or places k d).1 act no_act at))
    ∙ sym (map-append (act_at acts) (take k places) (get_or places k d ∷ []))
    ∙ ap (map (act_at acts)) (sym (take_more places k d below))

-- the stamp of an act that is read
pub stamp_at : (history : List ActLine) (n : ℕ) (act : ActLine) → n < length history → act ≡ get_or history n act
    → get_or (stamps_of history) n 0 ≡ act.stamp
stamp_at history n act below is =
    get_or-map (λ (a : ActLine). a.stamp) history n no_act
    ∙ ap (λ (a : ActLine). a.stamp) (get_or_default history n no_act act below ∙ sym is)

-- the acts at sorted places are in order
pub in_order : (acts : List ActLine) (places : List (ℕ × ℕ)) (history : List ActLine)
    → IsPermutation (stamped acts) places → IsNonDecreasingBy (λ (e : ℕ × ℕ). e.0) places
    → history ≡ map (act_at acts) places → IsInOrder acts history
in_order acts places history same rising is = subst (IsInOrder acts) (sym is) (record {
  same = subst (λ xs. IsPermutation xs (map (act_at acts) places)) (acts_back acts)
      (IsPermutation-map (act_at acts) (stamped acts) places same);
  rising = λ i j d upto below.
      let jb : j < length places = omega (arith, length-map places (act_at acts)) in
      let ib : i < length places = omega arith in
      let low = at i d ib in
      let high = at j d jb in
      omega (arith, low, high, rising i j (0, 0) upto jb);
})
  where
    at : (i : ℕ) (d : ActLine) → i < length places
        → (get_or (map (act_at acts) places) i d).stamp ≡ (get_or places i (0, 0)).0
    at i d below =
        let within : i < length (map (act_at acts) places) = omega (arith, length-map places (act_at acts)) in
        ap (λ (a : ActLine). a.stamp) (get_or_default (map (act_at acts) places) i d (act_at acts (0, 0)) within
        ∙ get_or-map (act_at acts) places i (0, 0))
        ∙ sym (places_of acts places same i (0, 0) below).1

number_at : (q p : ℕ) → p < q → slice_get (range_with_len 0 q) p ≡ Some p
number_at q p below =
    slice_get-get_or (range_with_len 0 q) p 0 (omega (arith, length-range_with_len 0 q))
    ∙ ap Some (get_or-range_with_len 0 q p 0 below ∙ zero-add p)

number_past : (q p : ℕ) → q ≤ p → slice_get (range_with_len 0 q) p ≡ None
number_past q p past = slice_get_past (range_with_len 0 q) p (omega (arith, length-range_with_len 0 q))

-- all stamps are there
pub none_missing : (xs : List ℕ) (q same : ℕ) → ((p : ℕ) → p < same → get_or xs p 0 ≡ p) → same ≡ length xs → same ≡ q
    → xs ≡ range_with_len 0 q
none_missing xs q same before all drawn =
    fill_by_all (λ n. n) xs q 0 (sym all ∙ drawn) (λ k below. before k (omega arith)) ∙ map-id (range_with_len 0 q)

-- a stamp is missing
pub first_missing : (xs : List ℕ) (q same t : ℕ) → ((p : ℕ) → p < same → get_or xs p 0 ≡ p)
    → (same < length xs → get_or xs same 0 ≢ same) → same ≤ length xs → (same ≡ length xs → same ≢ q) → t ≡ min same q
    → FirstDiffer xs (range_with_len 0 q) t
first_missing xs q same t before here within short is = record {
  before = λ p below.
      let low : p < same = omega arith in
      slice_get-get_or xs p 0 (omega arith) ∙ ap Some (before p low) ∙ sym (number_at q p (omega arith));
  here = ⊎_elim
      (λ (below : same < q). subst (λ t. slice_get xs t ≢ slice_get (range_with_len 0 q) t)
      (let e : same ≡ t = omega arith in e) (at_same below))
      (λ (past : q ≤ same). subst (λ t. slice_get xs t ≢ slice_get (range_with_len 0 q) t)
      (let e : q ≡ t = omega arith in e) (at_end past))
      (cases_lt same q);
}
  where
    at_same : same < q → slice_get xs same ≢ slice_get (range_with_len 0 q) same
    at_same below e = ⊎_elim
        (λ (there : same < length xs). here there
        (same_Some (get_or xs same 0) same (sym (slice_get-get_or xs same 0 there) ∙ e ∙ number_at q same below)))
        (λ (past : length xs ≤ same). none-some same (sym (slice_get_past xs same past) ∙ e ∙ number_at q same below))
        (cases_lt same (length xs))

    at_end : q ≤ same → slice_get xs q ≢ slice_get (range_with_len 0 q) q
    at_end past e = ⊎_elim
        (λ (there : q < length xs). none-some (get_or xs q 0)
        (sym (sym (slice_get-get_or xs q 0 there) ∙ e ∙ number_past q q (omega arith))))
        (λ (over : length xs ≤ q). short (omega arith) (omega arith))
        (cases_lt q (length xs))
