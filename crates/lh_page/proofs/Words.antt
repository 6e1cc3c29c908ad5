-- Rows of keys that agree in all their words are the same.
use Rattle.std.proofs.Common.{◌≡◌, ◌≢◌, ℕ, zero, suc, ◌+◌, ◌*◌, ◌<◌, ◌≤◌, Bool, true, false, eqb, List, length, take}
use Rattle.std.proofs.Common.{sym, ap, ◌∙◌, inl, inr, arith}
use Rattle.std.specs.Prelude.{slice_index}
use Rattle.std.proofs.lemmas.Bool.{and_parts, and_from, cases_lt, eqb-true, eq-eqb}
use Rattle.std.proofs.lemmas.List.{ext_get_or, get_or-take, length-take-le}
use Rattle.std.specs.Bool.{OnTrue, OnFalse}
use Rattle.std.specs.Str.{bytes_eq}
use Rattle.byteorder.specs.Endian.{little_from}
use Rattle.lh_page.specs.Mark.{word_at, same_words}
use Rattle.lh_page.specs.Rows.{padded, key_room}
use Rattle.lh_page.proofs.Places.{bytes_eq-same, bytes_eq-other}

first_digit : (x y m n : ℕ) → x < 256 → y < 256 → x + 256 * m ≡ y + 256 * n → x ≡ y
first_digit x y m n low small e = omega arith

other_digits : (x y m n : ℕ) → x < 256 → y < 256 → x + 256 * m ≡ y + 256 * n → m ≡ n
other_digits x y m n low small e = omega arith

-- equal numbers have equal bytes
bytes_from_number : (n k : ℕ) (xs ys : List ℕ) → ((i : ℕ) → slice_index xs i < 256) →
    ((i : ℕ) → slice_index ys i < 256) → little_from k n xs ≡ little_from k n ys →
    (i : ℕ) → k ≤ i → i < k + n → slice_index xs i ≡ slice_index ys i
bytes_from_number zero k xs ys fit small e i low high = absurd (omega arith)
bytes_from_number (suc n) k xs ys fit small e i low high = elim (cases_lt k i) [
  | inl later ↦
      bytes_from_number n (suc k) xs ys fit small
      (other_digits (slice_index xs k) (slice_index ys k) _ _ (fit k) (small k) e) i (omega arith) (omega arith)
  | inr here ↦ let same : i ≡ k =
      omega arith in
      rw same
      (first_digit (slice_index xs k) (slice_index ys k) (little_from (suc k) n xs) (little_from (suc k) n ys)
      (fit k) (small k) e)
]

-- rows of keys that agree in their seven words are the same
pub same_from_words : (a b : List ℕ) → length a ≡ key_room → length b ≡ key_room → ((i : ℕ) → slice_index a i < 256) →
    ((i : ℕ) → slice_index b i < 256) → same_words a b ≡ true → a ≡ b
unfolding word_at
same_from_words a b long whole fit small e =
    let seventh = and_parts _ _ e in
    let sixth = and_parts _ _ seventh.0 in
    let fifth = and_parts _ _ sixth.0 in
    let fourth = and_parts _ _ fifth.0 in
    let third = and_parts _ _ fourth.0 in
    let second = and_parts _ _ third.0 in
    ext_get_or 0 a b (long ∙ sym whole) (λ i low.
    in_word i 0 second.0 (omega arith) (λ later.
    in_word i 8 second.1 later (λ later.
    in_word i 16 third.1 later (λ later.
    in_word i 24 fourth.1 later (λ later.
    in_word i 32 fifth.1 later (λ later.
    in_word i 40 sixth.1 later (λ later.
    in_word i 48 seventh.1 later (λ later. absurd (omega (arith, long, low, later))))))))))
  where
    -- a byte is the same where it stands in a word that is, or else in one of those behind it
    in_word : (i place : ℕ) → eqb (word_at a place) (word_at b place) ≡ true → place ≤ i →
        (place + 8 ≤ i → slice_index a i ≡ slice_index b i) → slice_index a i ≡ slice_index b i
    in_word i place same from later = elim (cases_lt i (place + 8)) [
      | inl here ↦ bytes_from_number 8 place a b fit small (eqb-true _ _ same) i from here
      | inr behind ↦ later behind
    ]

-- rows that are the same agree in their seven words
pub words_from_same : (a b : List ℕ) → a ≡ b → same_words a b ≡ true
words_from_same a b e =
    and_from _ _
    (and_from _ _ (and_from _ _ (and_from _ _ (and_from _ _ (and_from _ _ (at 0) (at 8)) (at 16)) (at 24)) (at 32))
    (at 40)) (at 48)
  where
    at : (place : ℕ) → eqb (word_at a place) (word_at b place) ≡ true
    at place = eq-eqb (word_at a place) (word_at b place) (ap (λ bytes. word_at bytes place) e)

-- rows of as many bytes with zeros behind them are the same where these bytes are
pub eq_told : (r : Bool) (a b v w : List ℕ) → OnTrue r (a ≡ b) → OnFalse r (a ≢ b) → length v ≡ length w →
    take (length v) a ≡ v → take (length w) b ≡ w → a ≡ padded key_room v → b ≡ padded key_room w → r ≡ bytes_eq v w
eq_told true a b v w same other long front behind whole all =
    sym (bytes_eq-same v w (sym front ∙ (ap (take (length v)) same ∙ (ap (λ n. take n b) long ∙ behind))))
eq_told false a b v w same other long front behind whole all =
    sym (bytes_eq-other v w (λ e. other (whole ∙ (ap (padded key_room) e ∙ sym all))))

-- the first bytes of a row are those of another where the two agree at each of their places
pub front_told : (r : Bool) (n : ℕ) (a b v : List ℕ) → n ≤ length a → n ≤ length b → take n a ≡ v →
    OnTrue r ((i : ℕ) → i < n → slice_index a i ≡ slice_index b i) →
    OnFalse r ((i : ℕ) × (i < n) × (slice_index a i ≢ slice_index b i)) → r ≡ bytes_eq (take n b) v
front_told true n a b v wide long front same other =
    sym
    (bytes_eq-same (take n b) v
    (ext_get_or 0 (take n b) (take n a) (length-take-le n b long ∙ sym (length-take-le n a wide)) (λ i low.
    let below : i < n = omega (arith, length-take-le n b long) in
    get_or-take n b i 0 below ∙ (sym (same i below) ∙ sym (get_or-take n a i 0 below))) ∙ front))
front_told false n a b v wide long front same other =
    sym (bytes_eq-other (take n b) v (λ e. other.2
    (sym (get_or-take n a other.0 0 other.1)
    ∙ (ap (λ l. slice_index l other.0) (front ∙ sym e) ∙ get_or-take n b other.0 0 other.1))))
