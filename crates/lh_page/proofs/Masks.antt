-- The bits of a mask of lanes, and of two masks side by side.
use Rattle.std.proofs.Common.{◌≡◌, ◌↔◌, ℕ, ◌+◌, ◌-◌, ◌*◌, ◌%◌, ◌^◌, ◌<◌, ◌≤◌, inl, inr, Bool, true, false, cond, eqb}
use Rattle.std.proofs.Common.{List, length, take, get_or, map, bit_or, w8, w64, length-take-le, ◌≢◌, sym, ap, subst}
use Rattle.std.proofs.Common.{◌∙◌, refl, arith}
use Rattle.std.specs.Int.{bit_at, trailing_ones}
use Rattle.std.proofs.lemmas.Bool.{eqb-true, eqb-false, cases_lt}
use Rattle.std.proofs.lemmas.List.{get_or-map, get_or-take, length-map}
use Rattle.std.proofs.lemmas.Nat.Bits.{bit_at_or, bit_at_above, bit_at_cat_low, bit_at_cat_high, bit_at-trailing_ones}
use Rattle.std.proofs.lemmas.Nat.Bits.{bit_at-zero}
use Rattle.std.proofs.lemmas.Simd.{bit_mask_l, mask_l-lt, mask_l-mod, tops_compared, length-zip2, get_or-zip2}
use lib.Lanes.{mask_l, top, zip2}
use mir.Val.{bits, hbits}

set_tells : (x y : ℕ) (b : Bool) → eqb x y ≡ b → (cond {A = ℕ} b 1 0 ≡ 1) ↔ (x ≡ y)
set_tells x y true e = (λ _. eqb-true x y e, λ _. refl)
set_tells x y false e = (λ h. absurd (omega (arith, h)), λ same. absurd (eqb-false x y e same))

-- bit i of the mask of a test's answers is the answer at place i
pub bit_at-mask : (marks : List ℕ) (mark i : ℕ) → i < length marks →
    (bit_at (mask_l (map (λ x. eqb x mark) marks)) i ≡ 1) ↔ (get_or marks i 0 ≡ mark)
bit_at-mask marks mark i low =
    let e : bit_at (mask_l (map (λ x. eqb x mark) marks)) i ≡ cond (eqb (get_or marks i 0) mark) 1 0 =
    bit_mask_l (map (λ x. eqb x mark) marks) i
    ∙ ap (λ b. cond b 1 0) (get_or-map (λ x. eqb x mark) marks i 0 false low) in
    let t = set_tells (get_or marks i 0) mark (eqb (get_or marks i 0) mark) refl in
    (λ h. t.0 (sym e ∙ h), λ h. e ∙ t.1 h)

-- the mask of a test's answers has no bit behind those of the answers
pub mask-lt : (marks : List ℕ) (mark n : ℕ) → length marks ≡ n → mask_l (map (λ x. eqb x mark) marks) < 2 ^ n
mask-lt marks mark n long =
    subst (λ k. mask_l (map (λ x. eqb x mark) marks) < 2 ^ k) (length-map marks (λ x. eqb x mark) ∙ long)
    (mask_l-lt (map (λ x. eqb x mark) marks))

-- ---- two masks side by side

-- of two masks side by side, a bit before the second one begins is that of the first
pub bit_at-front : (a b k i : ℕ) → i < k → bit_at (bit_or a (b * 2 ^ k)) i ≡ bit_at a i
bit_at-front a b k i low =
    let none : bit_at (b * 2 ^ k) i ≡ 0 =
    ap (λ n. bit_at n i) (sym-zero (b * 2 ^ k)) ∙ (bit_at_cat_low b k 0 i low ∙ bit_at-zero i) in
    bit_at_or a (b * 2 ^ k) i ∙ omega (arith, none)
  where
    sym-zero : (n : ℕ) → n ≡ n + 0
    sym-zero n = omega arith

-- and one from there on is that of the second, counted from there, where the first has ended
pub bit_at-back : (a b k i : ℕ) → a < 2 ^ k → k ≤ i → bit_at (bit_or a (b * 2 ^ k)) i ≡ bit_at b (i - k)
bit_at-back a b k i small high =
    let none = bit_at_above a k i small high in
    let one : 0 < 2 ^ k = omega arith in
    let zero : b * 2 ^ k ≡ b * 2 ^ k + 0 = omega arith in
    bit_at_or a (b * 2 ^ k) i ∙ omega (arith, none, ap (λ n. bit_at n i) zero ∙ bit_at_cat_high b k 0 i one high)

-- ---- the mask of two vectors' comparison

-- the mask of the comparison of two vectors of 32 bytes tells at which places they are the same
pub bitmask_alike : (xs ys : List ℕ) → length xs ≡ 32 → length ys ≡ 32 →
    mask_l (map (top (hbits w8)) (zip2 (λ a b. cond (eqb a b) (2 ^ bits w8 - 1) 0) xs ys)) % 2 ^ 64 ≡
    mask_l (zip2 eqb xs ys)
bitmask_alike xs ys long wide =
    let same : length xs ≡ length ys = omega arith in
    ap (λ ms. mask_l ms % 2 ^ 64) (tops_compared w8 eqb xs ys)
    ∙ mask_l-mod (zip2 eqb xs ys) 64 (omega (arith, length-zip2 eqb xs ys same))

-- the bytes that two rows share at their fronts, from the mask of their comparison
pub record IsCommon (a b : List ℕ) (t : ℕ) : Type 0 where
  pub within : t ≤ 32
  pub same : (i : ℕ) → i < t → get_or a i 0 ≡ get_or b i 0
  pub differ : t < 32 → get_or a t 0 ≢ get_or b t 0

-- two rows share at their fronts as many of 32 bytes as the mask of where they agree has ones at its low end
pub common_from_mask : (a b xs ys : List ℕ) (m : ℕ) → 32 ≤ length a → 32 ≤ length b → xs ≡ take 32 a → ys ≡ take 32 b →
    m ≡ mask_l (zip2 eqb xs ys) → IsCommon a b (trailing_ones w64 m)
common_from_mask a b xs ys m wide long front beside is =
    let alike : length xs ≡ length ys =
    omega (arith, ap length front, ap length beside, length-take-le 32 a wide, length-take-le 32 b long) in
    let low : m < 2 ^ 32 =
    subst (λ n. n < 2 ^ 32) (sym is)
    (subst (λ k. mask_l (zip2 eqb xs ys) < 2 ^ k)
    (length-zip2 eqb xs ys alike ∙ (ap length front ∙ length-take-le 32 a wide))
    (mask_l-lt (zip2 eqb xs ys))) in
    let h = bit_at-trailing_ones w64 m (omega arith) in
    record {
      within = elim (cases_lt 32 (trailing_ones w64 m)) [
        | inl over ↦ absurd (omega (arith, h.2 32 over, bit_at_above m 32 32 low (omega arith)))
        | inr within ↦ within
      ];
      same = λ i below. elim (cases_lt i 32) [
        | inl near ↦ (set_tells (get_or a i 0) (get_or b i 0) _ refl).0 (sym (bit i near) ∙ h.2 i below)
        | inr far ↦ absurd (omega (arith, h.2 i below, bit_at_above m 32 i low far))
      ];
      differ =
          λ near same.
          absurd (omega (
            arith,
            h.1,
            (set_tells (get_or a (trailing_ones w64 m) 0) (get_or b (trailing_ones w64 m) 0) _ refl).1 same,
            bit (trailing_ones w64 m) near,
          ));
    }
  where
    bit : (i : ℕ) → i < 32 → bit_at m i ≡ cond (eqb (get_or a i 0) (get_or b i 0)) 1 0
    bit i near =
        let xs-at : get_or xs i 0 ≡ get_or a i 0 = ap (λ l. get_or l i 0) front ∙ get_or-take 32 a i 0 near in
        let ys-at : get_or ys i 0 ≡ get_or b i 0 = ap (λ l. get_or l i 0) beside ∙ get_or-take 32 b i 0 near in
        let in-xs : i < length xs = omega (arith, ap length front, length-take-le 32 a wide) in
        let in-ys : i < length ys = omega (arith, ap length beside, length-take-le 32 b long) in
        ap (λ n. bit_at n i) is
        ∙ (bit_mask_l (zip2 eqb xs ys) i ∙ (ap (λ t. cond t 1 0) (get_or-zip2 eqb xs ys i 0 0 false in-xs in-ys)
        ∙ (ap (λ x. cond (eqb x (get_or ys i 0)) 1 0) xs-at ∙ ap (λ y. cond (eqb (get_or a i 0) y) 1 0) ys-at)))
