-- The first line of some bytes.
use Rattle.std.proofs.Common.{◌≡◌, ℕ, ◌+◌, ◌-◌, ◌<◌, zero, suc, Bool, true, false, List, [], ◌∷◌, None, Some, length}
use Rattle.std.proofs.Common.{take, drop, refl, ◌∙◌, ◌==◌, arith, get_or}
use Rattle.std.proofs.lemmas.Grind.{common_steps}
use Rattle.memchr.specs.Find.{IsFirstByte, is_byte}
use Rattle.lh_exchange.specs.StreamLines.{onto_line, whole_line}

missed : (b : Bool) (c : ℕ) (cs : List ℕ) → (c == 10) ≡ b → (b ≡ true → ⊥) →
    whole_line (c ∷ cs) ≡ onto_line c (whole_line cs)
unfolding whole_line
missed true c cs e h = absurd (h refl)
missed false c cs e h = rw e refl

nowhere : (xs : List ℕ) → ((k : ℕ) → k < length xs → is_byte 10 (get_or xs k 0) ≡ true → ⊥) → whole_line xs ≡ None
unfolding whole_line
nowhere [] h = refl
nowhere (c ∷ cs) h =
    missed (c == 10) c cs refl (h 0 (omega arith)) ∙ rw (nowhere cs (λ k lt e. h (suc k) (omega arith) e)) refl

-- where no LF is found, there is no line
pub no_line : (xs : List ℕ) → IsFirstByte (is_byte 10) xs None → whole_line xs ≡ None
no_line xs h = nowhere xs (λ k lt f. h k (omega arith) lt f)

cut : (xs : List ℕ) (n : ℕ) → n < length xs → ((k : ℕ) → k < n → is_byte 10 (get_or xs k 0) ≡ true → ⊥) →
    is_byte 10 (get_or xs n 0) ≡ true → whole_line xs ≡ Some (take n xs, drop (suc n) xs)
unfolding whole_line
cut [] n lt h e = absurd (omega arith)
cut (c ∷ cs) zero lt h e = rw e refl
cut (c ∷ cs) (suc n) lt h e =
    missed (c == 10) c cs refl (h 0 (omega arith))
    ∙ rw (cut cs n (omega arith) (λ k kn f. h (suc k) (omega arith) f) e) refl

-- a part of a slice from n on
pub part_from : {X : Type 0} (n : ℕ) (xs : List X) → take (length xs - n) (drop n xs) ≡ drop n xs
part_from n xs = grind (arith, common_steps)

-- bytes are cut at the first LF
pub cut_line : (xs front behind : List ℕ) (n : ℕ) → IsFirstByte (is_byte 10) xs (Some n) → front ≡ take n xs →
    behind ≡ drop (n + 1) xs → whole_line xs ≡ Some (front, behind)
cut_line xs front behind n h e f =
    let plus : n + 1 ≡ suc n = omega arith in
    cut xs n h.0.high (λ j lt g. h.0.before j (omega arith) lt g) h.1 ∙ rw (e, f, plus) refl
