-- The first line of some bytes.
use Rattle.std.proofs.Common.{◌≡◌, ℕ, ◌+◌, ◌<◌, ◌≤◌, zero, suc, Bool, true, false, List, [], ◌∷◌, ◌++◌, None, Some}
use Rattle.std.proofs.Common.{length, take, drop, refl, ap, sym, ◌∙◌, arith, get_or}
use Rattle.std.specs.List.{list_any}
use Rattle.std.proofs.lemmas.Grind.{common_steps}
use Rattle.std.proofs.lemmas.Bool.Decides.{nat_tests}
use Rattle.memchr.specs.Find.{IsFirstByte, is_byte}
use Rattle.lh_script.specs.Lines.{is_lf}
use Rattle.lh_script.specs.Texts.{line}

missed : (b : Bool) (p : ℕ → Bool) (x : ℕ) (xs : List ℕ) → p x ≡ b → (b ≡ true → ⊥) → list_any p xs ≡ false →
    list_any p (x ∷ xs) ≡ false
missed true p x xs e h k = absurd (h refl)
missed false p x xs e h k = rw e k

nowhere : (p : ℕ → Bool) (xs : List ℕ) (n : ℕ) → ((k : ℕ) → k < n → p (get_or xs k 0) ≡ true → ⊥) → n ≤ length xs →
    list_any p (take n xs) ≡ false
nowhere p [] zero h le = refl
nowhere p [] (suc n) h le = absurd (omega arith)
nowhere p (x ∷ xs) zero h le = refl
nowhere p (x ∷ xs) (suc n) h le =
    missed (p x) p x (take n xs) refl (h 0 (omega arith))
    (nowhere p xs n (λ k lt e. h (suc k) (omega arith) e) (omega arith))

whole : (xs : List ℕ) → take (length xs) xs ≡ xs
whole xs = grind (arith, common_steps)

-- where no LF is found, there is none
pub no_lf : (xs : List ℕ) → IsFirstByte (is_byte 10) xs None → list_any is_lf xs ≡ false
unfolding is_lf
no_lf xs h =
    ap (list_any (is_byte 10)) (sym (whole xs))
    ∙ nowhere (is_byte 10) xs (length xs) (λ k lt f. h k (omega arith) lt f) (omega arith)

cut : (xs : List ℕ) (n : ℕ) → n < length xs → is_byte 10 (get_or xs n 0) ≡ true →
    xs ≡ line (take n xs) ++ drop (suc n) xs
cut [] n lt e = absurd (omega arith)
cut (x ∷ xs) zero lt e = let f : x ≡ 10 = grind (arith, nat_tests) in ap (λ y. y ∷ xs) f
cut (x ∷ xs) (suc n) lt e = ap (λ ys. x ∷ ys) (cut xs n (omega arith) e)

-- bytes that are cut at the first LF are a line, which has no other LF, and what stands behind it
pub cut_at_lf : (xs front behind : List ℕ) (n : ℕ) → IsFirstByte (is_byte 10) xs (Some n) → front ≡ take n xs →
    behind ≡ drop (n + 1) xs → (xs ≡ line front ++ behind) × (list_any is_lf front ≡ false)
unfolding is_lf
cut_at_lf xs front behind n h a b =
    let e : n + 1 ≡ suc n = omega arith in (
      rw (a, b, e) (cut xs n h.0.high h.1),
      rw a (nowhere (is_byte 10) xs n (λ k lt f. h.0.before k (omega arith) lt f) (omega (arith, h.0.high))),
    )
