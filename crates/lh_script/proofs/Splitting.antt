-- The first line of a text, and the first word of a line.
use Rattle.std.proofs.Common.{◌≡◌, ◌≢◌, ◌==◌, ◌&&◌, ℕ, ◌+◌, ◌-◌, ◌<◌, ◌≤◌, zero, suc, Bool, true, false, not, cond}
use Rattle.std.proofs.Common.{List, [], ◌∷◌, Option, None, Some, length, take, drop, refl, ap, sym, ◌∙◌, arith, get_or}
use Rattle.std.specs.Prelude.{unwrap_or}
use Rattle.std.specs.List.{position, position_or_len}
use Rattle.std.proofs.lemmas.Grind.{common_steps}
use Rattle.std.proofs.lemmas.Bool.Decides.{nat_tests}
use Rattle.memchr.specs.Find.{IsFirstByte, is_byte}
use Rattle.lh_script.specs.Lines.{lines, words, is_blank, is_lf, onto, ends_word, begins_with_lf, without_last_cr}

-- the place of the first element that passes a test, or else the length, is at most the length
pub length_from_position : {X : Type 0} (p : X → Bool) (xs : List X) → position_or_len p xs ≤ length xs
length_from_position p [] = omega arith
length_from_position p (x ∷ xs) = grind (arith, length_from_position p xs)

-- a place that was found, or the length where none was, is that number
pub unwrap_position : {X : Type 0} (p : X → Bool) (xs : List X) (n : ℕ) → n ≡ length xs →
    (unwrap_or (position p xs) n ≡ position_or_len p xs) × (position_or_len p xs ≤ length xs)
unwrap_position p xs n e = (grind (arith, length_from_position p xs), length_from_position p xs)

one_plus : (n : ℕ) → 1 + n ≡ suc n
one_plus n = omega arith

plus_one : (n : ℕ) → n + 1 ≡ suc n
plus_one n = omega arith

-- words
words_blank : (c : ℕ) (cs : List ℕ) → is_blank c ≡ true → words (c ∷ cs) ≡ words cs
unfolding words
words_blank c cs e = rw e refl

words_plain : (c : ℕ) (cs : List ℕ) → is_blank c ≡ false →
    words (c ∷ cs) ≡ cond (ends_word cs) ((c ∷ []) ∷ words cs) (onto c (words cs))
unfolding words
words_plain c cs e = rw e refl

words_none : words [] ≡ []
unfolding words
words_none = refl

abbrev blank_count : List ℕ → ℕ
blank_count xs = position_or_len (λ c. not (is_blank c)) xs

behind_blank : (b : Bool) (c : ℕ) (cs : List ℕ) → is_blank c ≡ b → words cs ≡ words (drop (blank_count cs) cs) →
    words (c ∷ cs) ≡ words (drop (blank_count (c ∷ cs)) (c ∷ cs))
behind_blank true c cs e h = words_blank c cs e ∙ (h ∙ rw (e, one_plus) refl)
behind_blank false c cs e h = rw e refl

-- blanks at the front mean nothing
pub words_behind_blanks : (xs : List ℕ) → words xs ≡ words (drop (blank_count xs) xs)
words_behind_blanks [] = refl
words_behind_blanks (c ∷ cs) = behind_blank (is_blank c) c cs refl (words_behind_blanks cs)

-- behind the blanks stands no blank
blank_goes : (b : Bool) (x : ℕ) (xs : List ℕ) (c : ℕ) (cs : List ℕ) → is_blank x ≡ b →
    (drop (blank_count xs) xs ≡ c ∷ cs → is_blank c ≡ false) → drop (blank_count (x ∷ xs)) (x ∷ xs) ≡ c ∷ cs →
    is_blank c ≡ false
blank_goes true x xs c cs e h k = h (rw (e, one_plus) at k)
blank_goes false x xs c cs e h k = let j : x ∷ xs ≡ c ∷ cs = rw e at k in let i : x ≡ c = cc in ap is_blank (sym i) ∙ e

-- the first byte behind the blanks at the front is no blank
pub word_behind_blanks : (xs : List ℕ) (c : ℕ) (cs : List ℕ) → drop (blank_count xs) xs ≡ c ∷ cs → is_blank c ≡ false
word_behind_blanks [] c cs k = let bad : [] ≡ c ∷ cs = k in cc
word_behind_blanks (x ∷ xs) c cs k = blank_goes (is_blank x) x xs c cs refl (word_behind_blanks xs c cs) k

abbrev word_end : List ℕ → ℕ
word_end xs = position_or_len is_blank xs

first_of : (b : Bool) (c d : ℕ) (ds : List ℕ) → is_blank c ≡ false → is_blank d ≡ b →
    (is_blank d ≡ false → words (d ∷ ds) ≡ (d ∷ take (word_end ds) ds) ∷ words (drop (word_end ds) ds)) →
    words (c ∷ d ∷ ds) ≡ (c ∷ take (word_end (d ∷ ds)) (d ∷ ds)) ∷ words (drop (word_end (d ∷ ds)) (d ∷ ds))
first_of true c d ds e k h = words_plain c (d ∷ ds) e ∙ rw k refl
first_of false c d ds e k h = words_plain c (d ∷ ds) e ∙ rw k (ap (onto c) (h k) ∙ rw one_plus refl)

-- the word at the front ends at the first blank
pub words_from_word : (c : ℕ) (cs : List ℕ) → is_blank c ≡ false →
    words (c ∷ cs) ≡ (c ∷ take (word_end cs) cs) ∷ words (drop (word_end cs) cs)
words_from_word c [] e = words_plain c [] e
words_from_word c (d ∷ ds) e = first_of (is_blank d) c d ds e refl (words_from_word d ds)

-- lines
pub lines_none : lines [] ≡ []
unfolding lines
lines_none = refl

lines_lf : (c : ℕ) (cs : List ℕ) → is_lf c ≡ true → lines (c ∷ cs) ≡ [] ∷ lines cs
unfolding lines
lines_lf c cs e = rw e refl

lines_plain : (c : ℕ) (cs : List ℕ) → is_lf c ≡ false →
    lines (c ∷ cs) ≡ cond ((c == 13) && begins_with_lf cs) (lines cs) (onto c (lines cs))
unfolding lines
lines_plain c cs e = rw e refl

abbrev line_end : List ℕ → ℕ
line_end xs = position_or_len is_lf xs

nothing : (xs : List ℕ) → length xs ≡ 0 → words xs ≡ []
nothing [] e = words_none
nothing (x ∷ xs) e = absurd (omega arith)

-- where nothing stands behind the blanks at the front, there are no words
pub no_words : (xs : List ℕ) → length (drop (blank_count xs) xs) ≡ 0 → words xs ≡ []
no_words xs e = words_behind_blanks xs ∙ nothing (drop (blank_count xs) xs) e

-- what stands behind the blanks, up to the next blank, is the first word, and the rest has the others
pub word_split : (xs rest : List ℕ) → rest ≡ drop (blank_count xs) xs → 0 < length rest →
    words xs ≡ take (word_end rest) rest ∷ words (drop (word_end rest) rest)
word_split xs [] e h = absurd (omega arith)
word_split xs (c ∷ cs) e h =
    let plain : is_blank c ≡ false = word_behind_blanks xs c cs (sym e) in
    words_behind_blanks xs ∙ (ap words (sym e) ∙ (words_from_word c cs plain ∙ rw (plain, one_plus) refl))

-- a CR at the end of a line is dropped
pub cr_goes : (xs : List ℕ) → 0 < length xs → get_or xs (length xs - 1) 0 ≡ 13 →
    without_last_cr xs ≡ take (length xs - 1) xs
cr_goes [] h e = absurd (omega arith)
cr_goes (c ∷ []) h e = grind (arith, nat_tests)
cr_goes (c ∷ d ∷ cs) h e =
    let n : length (c ∷ d ∷ cs) - 1 ≡ suc (length (d ∷ cs) - 1) = omega arith in
    let k : get_or (d ∷ cs) (length (d ∷ cs) - 1) 0 ≡ 13 = ap (λ m. get_or (c ∷ d ∷ cs) m 0) (sym n) ∙ e in
    ap (λ xs. c ∷ xs) (cr_goes (d ∷ cs) (omega arith) k) ∙ ap (λ m. take m (c ∷ d ∷ cs)) (sym n)

-- a line without a CR at its end stays as it is
pub cr_stays : (xs : List ℕ) → (0 < length xs → get_or xs (length xs - 1) 0 ≢ 13) → without_last_cr xs ≡ xs
cr_stays [] h = refl
cr_stays (c ∷ []) h = grind (arith, nat_tests, h (omega arith))
cr_stays (c ∷ d ∷ cs) h =
    let n : length (c ∷ d ∷ cs) - 1 ≡ suc (length (d ∷ cs) - 1) = omega arith in
    ap (λ xs. c ∷ xs) (cr_stays (d ∷ cs) (λ _ k. h (omega arith) (ap (λ m. get_or (c ∷ d ∷ cs) m 0) n ∙ k)))

-- an LF after one byte
lf_next : (b : Bool) (c : ℕ) (rest : List (List ℕ)) → (c == 13) ≡ b →
    cond ((c == 13) && true) ([] ∷ rest) (onto c ([] ∷ rest)) ≡ without_last_cr (c ∷ []) ∷ rest
lf_next true c rest e = rw e refl
lf_next false c rest e = rw e refl

and_false : (b : Bool) → (b && false) ≡ false
and_false true = refl
and_false false = refl

no_cr : (c d : ℕ) (cs : List ℕ) → is_lf d ≡ false → ((c == 13) && begins_with_lf (d ∷ cs)) ≡ false
no_cr c d cs e = rw e (and_false (c == 13))

abbrev FirstLine : List ℕ → Type 0
FirstLine xs =
    line_end xs < length xs → lines xs ≡ without_last_cr (take (line_end xs) xs) ∷ lines (drop (suc (line_end xs)) xs)

line_next : (b : Bool) (c d : ℕ) (ds : List ℕ) → is_lf c ≡ false → is_lf d ≡ b → FirstLine (d ∷ ds) →
    FirstLine (c ∷ d ∷ ds)
line_next true c d ds e k h lt =
    let m : line_end (c ∷ d ∷ ds) ≡ 1 = rw (e, k) refl in
    lines_plain c (d ∷ ds) e ∙ (rw (lines_lf d ds k, m, k) (lf_next (c == 13) c (lines ds) refl))
line_next false c d ds e k h lt =
    let m : line_end (c ∷ d ∷ ds) ≡ suc (line_end (d ∷ ds)) = rw e (omega arith) in
    let n : line_end (d ∷ ds) ≡ suc (line_end ds) = rw k (omega arith) in
    let ih = h (omega arith) in
    lines_plain c (d ∷ ds) e ∙ (rw (no_cr c d ds k) (ap (onto c) ih ∙ rw (m, n) refl))

one_byte : (b : Bool) (c : ℕ) → is_lf c ≡ b → FirstLine (c ∷ [])
one_byte true c e lt = lines_lf c [] e ∙ rw e refl
one_byte false c e lt = let bad : 1 + 0 < 1 = rw e at lt in absurd (omega arith)

at_front : (b : Bool) (c d : ℕ) (ds : List ℕ) → is_lf c ≡ b → FirstLine (d ∷ ds) → FirstLine (c ∷ d ∷ ds)
at_front true c d ds e h lt = lines_lf c (d ∷ ds) e ∙ rw e refl
at_front false c d ds e h lt = line_next (is_lf d) c d ds e refl h lt

-- what stands before the first LF is the first line, without a CR at its end, and the rest has the others
pub lines_first : (xs : List ℕ) → FirstLine xs
lines_first [] lt = absurd (omega arith)
lines_first (c ∷ []) lt = one_byte (is_lf c) c refl lt
lines_first (c ∷ d ∷ ds) lt = at_front (is_lf c) c d ds refl (lines_first (d ∷ ds)) lt

-- without LF there is one line
head_plain : (b : Bool) (d : ℕ) (ds : List ℕ) → is_lf d ≡ b → line_end (d ∷ ds) ≡ length (d ∷ ds) → is_lf d ≡ false
head_plain false d ds e k = e
head_plain true d ds e k = let bad : 0 ≡ length (d ∷ ds) = rw e at k in absurd (omega arith)

whole_next : (b : Bool) (c d : ℕ) (ds : List ℕ) → is_lf c ≡ b →
    (line_end (d ∷ ds) ≡ length (d ∷ ds) → lines (d ∷ ds) ≡ (d ∷ ds) ∷ []) →
    line_end (c ∷ d ∷ ds) ≡ length (c ∷ d ∷ ds) → lines (c ∷ d ∷ ds) ≡ (c ∷ d ∷ ds) ∷ []
whole_next true c d ds e h k = let bad : 0 ≡ length (c ∷ d ∷ ds) = rw e at k in absurd (omega arith)
whole_next false c d ds e h k =
    let m : 1 + line_end (d ∷ ds) ≡ length (c ∷ d ∷ ds) = rw e at k in
    let plain : is_lf d ≡ false = head_plain (is_lf d) d ds refl (omega arith) in
    lines_plain c (d ∷ ds) e ∙ rw (no_cr c d ds plain) (ap (onto c) (h (omega arith)))

whole_one : (b : Bool) (c : ℕ) → is_lf c ≡ b → line_end (c ∷ []) ≡ 1 → lines (c ∷ []) ≡ (c ∷ []) ∷ []
whole_one true c e k = let bad : 0 ≡ length (c ∷ []) = rw e at k in absurd (omega arith)
whole_one false c e _ = lines_plain c [] e ∙ (rw (and_false (c == 13)) (ap (onto c) lines_none))

-- bytes without an LF are one line, where there are any
pub lines_whole : (xs : List ℕ) → 0 < length xs → line_end xs ≡ length xs → lines xs ≡ xs ∷ []
lines_whole [] lt k = absurd (omega arith)
lines_whole (c ∷ []) lt k = whole_one (is_lf c) c refl k
lines_whole (c ∷ d ∷ ds) lt k = whole_next (is_lf c) c d ds refl (lines_whole (d ∷ ds) (omega arith)) k

-- a part of a slice from n on
pub part_from : {X : Type 0} (n : ℕ) (xs : List X) → take (length xs - n) (drop n xs) ≡ drop n xs
part_from n xs = grind (arith, common_steps)

-- the words of a line are the word that was cut off, and those of what stands behind it
pub word_parts : (xs rest word behind : List ℕ) → rest ≡ drop (blank_count xs) xs → 0 < length rest →
    word ≡ take (word_end rest) rest → behind ≡ drop (word_end rest) rest → words xs ≡ word ∷ words behind
word_parts xs rest word behind e h a b = word_split xs rest e h ∙ rw (a, b) refl

-- the lines of a text are the line that was cut off, and those of what stands behind it
pub line_parts : (xs line behind : List ℕ) → line_end xs < length xs → line ≡ without_last_cr (take (line_end xs) xs) →
    behind ≡ drop (line_end xs + 1) xs → lines xs ≡ line ∷ lines behind
line_parts xs line behind h a b = lines_first xs h ∙ rw (a, b, plus_one) refl

-- the first LF

missed : (b : Bool) (p : ℕ → Bool) (x : ℕ) (xs : List ℕ) → p x ≡ b → (b ≡ true → ⊥) →
    position_or_len p (x ∷ xs) ≡ suc (position_or_len p xs)
missed true p x xs e h = absurd (h refl)
missed false p x xs e h = rw e (one_plus (position_or_len p xs))

no_place : (p : ℕ → Bool) (xs : List ℕ) → ((k : ℕ) → k < length xs → p (get_or xs k 0) ≡ true → ⊥) →
    position_or_len p xs ≡ length xs
no_place p [] h = refl
no_place p (x ∷ xs) h =
    missed (p x) p x xs refl (h 0 (omega arith))
    ∙ ap suc (no_place p xs (λ k lt e. h (suc k) (omega arith) e))

first_place : (p : ℕ → Bool) (xs : List ℕ) (n : ℕ) → n < length xs → ((k : ℕ) → k < n → p (get_or xs k 0) ≡ true → ⊥) →
    p (get_or xs n 0) ≡ true → position_or_len p xs ≡ n
first_place p [] n lt h e = absurd (omega arith)
first_place p (x ∷ xs) zero lt h e = rw e refl
first_place p (x ∷ xs) (suc n) lt h e =
    missed (p x) p x xs refl (h 0 (omega arith))
    ∙ ap suc (first_place p xs n (omega arith) (λ k kn f. h (suc k) (omega arith) f) e)

-- the first line ends where an LF was found, or at the end of the text where none was
pub lf_found : (xs : List ℕ) (r : Option ℕ) (n : ℕ) → IsFirstByte (is_byte 10) xs r → n ≡ length xs →
    unwrap_or r n ≡ position_or_len is_lf xs
unfolding is_lf
lf_found xs None n h e = e ∙ sym (no_place (is_byte 10) xs (λ k lt f. h k (omega arith) lt f))
lf_found xs (Some k) n h e =
    sym (first_place (is_byte 10) xs k h.0.high (λ j lt f. h.0.before j (omega arith) lt f) h.1)
