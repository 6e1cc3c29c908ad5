-- Zeros, and zeros behind other bytes.
use Rattle.std.proofs.Common.{◌≡◌, ℕ, zero, suc, ◌+◌, ◌-◌, ◌≤◌, Bool, true, eqb, List, [], ◌∷◌, ◌++◌, length, take}
use Rattle.std.proofs.Common.{drop, refl, sym, ap, ◌∙◌, arith, take-append-drop}
use Rattle.std.specs.Prelude.{◌==◌}
use Rattle.std.proofs.lemmas.Bool.{and_parts, eqb-true}
use Rattle.std.proofs.lemmas.List.{append_assoc, drop_at, drop-replicate, length-append, length-replicate}
use Rattle.std.proofs.lemmas.List.{replicate-append-replicate, take_at}
use Rattle.std.proofs.lemmas.List.Folds.{list_all-append}
use borrow.Rule.Slice.PartMut.{put_mid, post_of}
use Rattle.lh_page.specs.PageFields.{all_zero}
use Rattle.lh_page.specs.Rows.{zeros, padded}

-- ---- rows of zeros

-- bytes that are all zero are a row of as many zeros
pub zeros_from : (bytes : List ℕ) → all_zero bytes ≡ true → bytes ≡ zeros (length bytes)
zeros_from [] e = refl
zeros_from (x ∷ xs) e =
    let p = and_parts (eqb x 0) (all_zero xs) e in
    let a : x ≡ 0 = eqb-true x 0 p.0 in
    let r = zeros_from xs p.1 in
    cc

-- each byte of a row of zeros is zero
pub all_zero-zeros : (n : ℕ) → all_zero (zeros n) ≡ true
all_zero-zeros zero = refl
all_zero-zeros (suc n) = all_zero-zeros n

-- bytes of a given number that are all zero are a row of so many zeros
pub zeros_of_length : (bytes : List ℕ) (n : ℕ) → length bytes ≡ n → all_zero bytes ≡ true → bytes ≡ zeros n
zeros_of_length bytes n long e = zeros_from bytes e ∙ ap zeros long

-- what was found to be zeros behind the first bytes of a part, which ends at place q
pub found_clear : (s : List ℕ) (p q k n : ℕ) (r : Bool) → q ≡ p + n →
    r ≡ all_zero (take (q - (p + k)) (drop (p + k) s)) → r ≡ true → all_zero (take (n - k) (drop (p + k) s)) ≡ true
found_clear s p q k n r end is clear =
    let less : n - k ≡ q - (p + k) = omega arith in
    ap (λ m. all_zero (take m (drop (p + k) s))) less ∙ sym is ∙ clear

-- where all bytes are zero, those before a place are, and those from it on
pub all_zero-parts : (n : ℕ) (xs : List ℕ) → all_zero xs ≡ true →
    (all_zero (take n xs) ≡ true) × (all_zero (drop n xs) ≡ true)
all_zero-parts n xs h =
    and_parts (all_zero (take n xs)) (all_zero (drop n xs))
    (sym (list_all-append (λ b. b == 0) (take n xs) (drop n xs)) ∙ (ap all_zero (take-append-drop n xs) ∙ h))

-- ---- zeros behind other bytes

-- bytes that are padded to a length have it, where they aren't longer
pub length-padded : (n : ℕ) (bytes : List ℕ) → length bytes ≤ n → length (padded n bytes) ≡ n
length-padded n bytes le =
    omega (arith, length-append bytes (zeros (n - length bytes)), length-replicate {A = ℕ} (n - length bytes) 0)

-- bytes that are put where the zeros begin have fewer zeros behind them
pub put_front : (front bytes : List ℕ) (p n k : ℕ) → length front ≡ p → k ≡ length bytes →
    put_mid p k (front ++ zeros n) bytes ≡ front ++ padded n bytes
put_front front bytes p n k long size =
    let rest : post_of p k (front ++ zeros n) ≡ zeros (n - length bytes) =
    ap (drop k) (drop_at front (zeros n) p long) ∙ drop-replicate {X = ℕ} k n 0 ∙ ap (λ m. zeros (n - m)) size in
    ap (λ xs. xs ++ (bytes ++ post_of p k (front ++ zeros n))) (take_at front (zeros n) p long)
    ∙ ap (λ xs. front ++ (bytes ++ xs)) rest

-- zeros behind a padded row
pub padded-add : (m n : ℕ) (bytes : List ℕ) → length bytes ≤ m → padded (m + n) bytes ≡ padded m bytes ++ zeros n
padded-add m n bytes fits =
    let more : m + n - length bytes ≡ (m - length bytes) + n = omega arith in
    ap (λ xs. bytes ++ xs) (ap zeros more ∙ sym (replicate-append-replicate (m - length bytes) n 0))
    ∙ sym (append_assoc bytes (zeros (m - length bytes)) (zeros n))
