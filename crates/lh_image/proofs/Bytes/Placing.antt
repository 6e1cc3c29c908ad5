-- Where a part stands in a text, and a number among those that a function gives
use Rattle.std.proofs.Common.{◌≡◌, ℕ, zero, suc, ◌+◌, ◌-◌, ◌*◌, ◌<◌, ◌≤◌, List, [], ◌++◌, length, take, drop, map, true}
use Rattle.std.proofs.Common.{eqb, inl, inr, refl, sym, ap, subst, ◌∙◌, append_assoc, length-append, arith}
use Rattle.std.specs.List.{range_with_len, flat_map, list_any}
use Rattle.std.proofs.Math.Seq.{drop-append_seam, take-append_seam}
use Rattle.std.proofs.lemmas.Bool.{cases_eq, eqb-true, eq-eqb, or_cases, or_left, or_right, false≢true}
use Rattle.lh_image.specs.Chains.{stands_in}
use Rattle.lh_image.proofs.Bytes.Joining.{texts_cut}

-- a part stands in a text from an offset on
pub record StandsAt (whole : List ℕ) (offset : ℕ) (part : List ℕ) : Type 0 where
  pub before : List ℕ
  pub after : List ℕ
  pub joined : whole ≡ before ++ (part ++ after)
  pub place : length before ≡ offset

-- as many bytes as a part has, taken where it stands in a text, are the part
pub part_at : (whole part : List ℕ) (offset n : ℕ) → StandsAt whole offset part → length part ≡ n →
    take n (drop offset whole) ≡ part
part_at whole part offset n s e =
    ap (λ xs. take n (drop offset xs)) s.joined
    ∙ ap (λ m. take n (drop m (s.before ++ (part ++ s.after)))) (sym s.place)
    ∙ ap (take n) (drop-append_seam s.before (part ++ s.after)) ∙ ap (λ m. take m (part ++ s.after)) (sym e)
    ∙ take-append_seam part s.after

-- a part stands at the front of a text that begins with it
pub at_front : (part ys : List ℕ) → StandsAt (part ++ ys) 0 part
at_front part ys = record { before = []; after = ys; joined = refl; place = refl }

-- with a text put before, a part stands further on by that text's length
pub behind : (xs ys part : List ℕ) (offset m : ℕ) → StandsAt ys offset part → m ≡ length xs + offset →
    StandsAt (xs ++ ys) m part
behind xs ys part offset m s e = record {
  before = xs ++ s.before;
  after = s.after;
  joined = ap (λ zs. xs ++ zs) s.joined ∙ sym (append_assoc xs s.before (part ++ s.after));
  place = length-append xs s.before ∙ ap (λ n. length xs + n) s.place ∙ sym e;
}

-- with a text put behind, a part stands where it stood
pub ahead : (xs ys part : List ℕ) (offset : ℕ) → StandsAt xs offset part → StandsAt (xs ++ ys) offset part
ahead xs ys part offset s = record {
  before = s.before;
  after = s.after ++ ys;
  joined =
      ap (λ zs. zs ++ ys) s.joined ∙ append_assoc s.before (part ++ s.after) ys
      ∙ ap (λ zs. s.before ++ zs) (append_assoc part s.after ys);
  place = s.place;
}

-- what stands in a part of a text stands in the text, at the sum of the two offsets
pub inside : (whole mid part : List ℕ) (o p m : ℕ) → StandsAt whole o mid → StandsAt mid p part → m ≡ o + p →
    StandsAt whole m part
inside whole mid part o p m s t e =
    subst (λ xs. StandsAt xs m part) (sym s.joined)
    (behind s.before (mid ++ s.after) part p m (ahead mid s.after part p t) (e ∙ ap (λ n. n + p) (sym s.place)))

-- the text of a number among those of a range
pub text_at : (f : ℕ → List ℕ) (a n i m : ℕ) → i < n → m ≡ a + i →
    StandsAt (flat_map f (range_with_len a n)) (length (flat_map f (range_with_len a i))) (f m)
text_at f a n i m low e =
    subst (λ j. StandsAt (flat_map f (range_with_len a n)) (length (flat_map f (range_with_len a i))) (f j)) (sym e)
    (record {
      before = flat_map f (range_with_len a i);
      after = flat_map f (range_with_len (a + i + 1) (n - i - 1));
      joined = texts_cut f a n i low;
      place = refl;
    })

-- texts of one length
pub length-texts : (f : ℕ → List ℕ) (w a n : ℕ) → ((i : ℕ) → a ≤ i → i < a + n → length (f i) ≡ w) →
    length (flat_map f (range_with_len a n)) ≡ w * n
length-texts f w a zero same = omega arith
length-texts f w a (suc n) same =
    let rest = length-texts f w (a + 1) n (λ i low high. same i (omega arith) (omega arith)) in
    let first = same a (omega arith) (omega arith) in
    omega (arith, length-append (f a) (flat_map f (range_with_len (a + 1) n)), rest, first)

-- ---- pages that stand on a path

-- a page that stands among those given by a range of numbers is given by one of them
pub any_found : (g : ℕ → ℕ) (p a n : ℕ) → stands_in (map g (range_with_len a n)) p ≡ true →
    (k : ℕ) × (a ≤ k) × (k < a + n) × (g k ≡ p)
unfolding stands_in
any_found g p a zero h = absurd (false≢true h)
any_found g p a (suc n) h =
    elim (or_cases (eqb (g a) p) (list_any (λ q. eqb q p) (map g (range_with_len (a + 1) n))) h) [
      | inl here ↦ (a, omega arith, omega arith, eqb-true (g a) p here)
      | inr later ↦ let r = any_found g p (a + 1) n later in (r.0, omega (arith, r.1), omega (arith, r.2), r.3)
    ]

-- a page that is given by one of a range of numbers stands among those given by all
pub any_there : (g : ℕ → ℕ) (p a n k : ℕ) → a ≤ k → k < a + n → g k ≡ p →
    stands_in (map g (range_with_len a n)) p ≡ true
unfolding stands_in
any_there g p a zero k low high e = absurd (omega arith)
any_there g p a (suc n) k low high e = elim (cases_eq k a) [
  | inl here ↦
      or_left (eqb (g a) p) (list_any (λ q. eqb q p) (map g (range_with_len (a + 1) n)))
      (eq-eqb (g a) p (ap g (sym here) ∙ e))
  | inr other ↦
      or_right (eqb (g a) p) (list_any (λ q. eqb q p) (map g (range_with_len (a + 1) n)))
      (any_there g p (a + 1) n k (omega arith) (omega arith) e)
]
