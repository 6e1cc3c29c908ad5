-- Texts of a range of numbers, joined.
use Rattle.std.proofs.Common.{◌≡◌, ℕ, zero, suc, ◌+◌, ◌-◌, ◌<◌, List, [], ◌∷◌, ◌++◌, length, take, drop, get_or}
use Rattle.std.proofs.Common.{Option, Some, refl, sym, ap, subst, ◌∙◌, append-nil, length-drop, arith}
use Rattle.std.specs.Prelude.{slice_get}
use Rattle.std.specs.List.{range_with_len, flat_map}
use Rattle.std.proofs.KnownBytes.{Appends-trans}
use Rattle.std.proofs.lemmas.List.{take_more, get_or-drop}
use Rattle.std.proofs.lemmas.List.Concat.{flat_map-append}
use Rattle.std.proofs.lemmas.Option.{get_or_from_slice_get, slice_get_within}
use Rattle.std.specs.Io.KnownBytes.{Appends}
use Rattle.lh_image.specs.Writing.{TakesBeginning}
use Rattle.lh_image.proofs.Writes.Sends.{takes_after, takes_longer}

-- a range in two
pub range_cut : (a m n : ℕ) → range_with_len a (m + n) ≡ range_with_len a m ++ range_with_len (a + m) n
range_cut a zero n =
    let e : 0 + n ≡ n = omega arith in
    let f : a + 0 ≡ a = omega arith in
    rw (e, f) refl
range_cut a (suc m) n =
    let e : suc m + n ≡ suc (m + n) = omega arith in
    let f : a + 1 + m ≡ a + suc m = omega arith in
    ap (range_with_len a) e
    ∙ ap (λ xs. a ∷ xs) (range_cut (a + 1) m n ∙ ap (λ b. range_with_len (a + 1) m ++ range_with_len b n) f)

-- one number more
pub texts_more : (f : ℕ → List ℕ) (a n : ℕ) →
    flat_map f (range_with_len a (n + 1)) ≡ flat_map f (range_with_len a n) ++ f (a + n)
texts_more f a n =
    ap (flat_map f) (range_cut a n 1) ∙ flat_map-append f (range_with_len a n) ((a + n) ∷ [])
    ∙ ap (λ xs. flat_map f (range_with_len a n) ++ xs) (append-nil (f (a + n)))

-- what stands before a text, the text, and what stands behind it
pub texts_cut : (f : ℕ → List ℕ) (a n i : ℕ) → i < n →
    flat_map f (range_with_len a n) ≡
    flat_map f (range_with_len a i) ++ (f (a + i) ++ flat_map f (range_with_len (a + i + 1) (n - i - 1)))
texts_cut f a n i low =
    let e : n ≡ i + (1 + (n - i - 1)) = omega arith in
    let g : 1 + (n - i - 1) ≡ suc (n - i - 1) = omega arith in
    ap (λ m. flat_map f (range_with_len a m)) e ∙ ap (flat_map f) (range_cut a i (1 + (n - i - 1)))
    ∙ flat_map-append f (range_with_len a i) (range_with_len (a + i) (1 + (n - i - 1)))
    ∙ ap (λ m. flat_map f (range_with_len a i) ++ flat_map f (range_with_len (a + i) m)) g

-- one text more was taken
pub appends_more : (p q r : Option (List ℕ)) (f : ℕ → List ℕ) (a n m : ℕ) (text : List ℕ) → m ≡ a + n → text ≡ f m →
    Appends p q (flat_map f (range_with_len a n)) → Appends q r text →
    Appends p r (flat_map f (range_with_len a (n + 1)))
appends_more p q r f a n m text at is h k =
    subst (Appends p r) (ap (λ xs. flat_map f (range_with_len a n) ++ xs) (is ∙ ap f at) ∙ sym (texts_more f a n))
    (Appends-trans p q r (flat_map f (range_with_len a n)) text h k)

-- a beginning of one text more was taken
pub begins_more : (p q r : Option (List ℕ)) (f : ℕ → List ℕ) (a n i m : ℕ) (text : List ℕ) → i < n → m ≡ a + i →
    text ≡ f m → Appends p q (flat_map f (range_with_len a i)) → TakesBeginning q r text →
    TakesBeginning p r (flat_map f (range_with_len a n))
begins_more p q r f a n i m text low at is h k =
    subst (TakesBeginning p r) (sym (texts_cut f a n i low))
    (takes_after p q r (flat_map f (range_with_len a i))
    (f (a + i) ++ flat_map f (range_with_len (a + i + 1) (n - i - 1))) h
    (takes_longer q r (f (a + i)) (flat_map f (range_with_len (a + i + 1) (n - i - 1)))
    (subst (TakesBeginning q r) (is ∙ ap f at) k)))

-- one record more of a page
pub record_more : {X : Type 0} (xs : List X) (start k : ℕ) (x : X) → slice_get xs (start + k) ≡ Some x →
    take k (drop start xs) ++ x ∷ [] ≡ take (k + 1) (drop start xs)
record_more xs start k x h =
    let within : k < length (drop start xs) =
    omega (arith, slice_get_within xs (start + k) x h, length-drop start xs) in
    let at : get_or (drop start xs) k x ≡ x = get_or-drop start xs k x ∙ get_or_from_slice_get xs (start + k) x x h in
    sym (take_more (drop start xs) k x within ∙ ap (λ y. take k (drop start xs) ++ y ∷ []) at)
