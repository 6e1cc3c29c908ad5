-- The place of a key in a list of records.
use Rattle.std.proofs.Common.{◌≡◌, ◌≢◌, ℕ, ◌≤◌, Bool, true, false, cond, List, length, Option, Some, None, sym, arith}
use Rattle.std.specs.List.{position_or_len}
use Rattle.std.specs.Str.{bytes_eq}
use Rattle.std.specs.Option.{IfSome, IfNone}
use Rattle.std.proofs.lemmas.Bool.{false_from_ne_true, lt-ltb, le-ltb, ltb-false, both_ways}
use Rattle.std.proofs.lemmas.List.Sums.{position_or_len_is, fails_before_first}
use Rattle.std.proofs.lemmas.Slice.Eq.{bytes_eq-Decides}
use Rattle.lh_page.specs.declared.pair.Pair.{Pair}
use Rattle.lh_page.specs.Records.{place_of, no_pair, AbsentBelow, StandsFirst}

-- the test whether bytes are the same passes where they are
pub bytes_eq-same : (x y : List ℕ) → x ≡ y → bytes_eq x y ≡ true
bytes_eq-same x y e = (bytes_eq-Decides x y).1 e

-- and it fails where they are not
pub bytes_eq-other : (x y : List ℕ) → x ≢ y → bytes_eq x y ≡ false
bytes_eq-other x y n = false_from_ne_true (bytes_eq x y) (λ e. n ((bytes_eq-Decides x y).0 e))

-- the place of a key is where the first record with it stands
pub place_of-found : (pairs : List Pair) (key : List ℕ) (i : ℕ) → StandsFirst pairs i key → place_of pairs key ≡ Some i
unfolding place_of
place_of-found pairs key i h =
    let first : position_or_len (λ p. bytes_eq p.key key) pairs ≡ i =
    position_or_len_is (λ p. bytes_eq p.key key) pairs i no_pair (omega arith)
    (λ k below. bytes_eq-other _ _ (h.1 k below (omega arith))) (λ _. bytes_eq-same _ _ h.2) in
    rw (first, lt-ltb i (length pairs) h.0)

-- no place is answered for a key that no record has
pub place_of-absent : (pairs : List Pair) (key : List ℕ) → AbsentBelow pairs (length pairs) key →
    place_of pairs key ≡ None
unfolding place_of
place_of-absent pairs key h =
    let first : position_or_len (λ p. bytes_eq p.key key) pairs ≡ length pairs =
    position_or_len_is (λ p. bytes_eq p.key key) pairs (length pairs) no_pair (omega arith)
    (λ k below. bytes_eq-other _ _ (h k below below)) (λ past. absurd (omega arith)) in
    rw (first, le-ltb (length pairs) (length pairs) (omega arith))

none_at : (b : Bool) (i : ℕ) → cond b (Some i) None ≡ None → b ≡ false
none_at true i e = cc
none_at false i e = cc

-- where no place is answered, no record has the key
pub absent_from_None : (pairs : List Pair) (key : List ℕ) → place_of pairs key ≡ None →
    AbsentBelow pairs (length pairs) key
unfolding place_of
absent_from_None pairs key e k below _ same =
    let far : length pairs ≤ position_or_len (λ p. bytes_eq p.key key) pairs = ltb-false _ _ (none_at _ _ e) in
    both_ways _ (fails_before_first (λ p. bytes_eq p.key key) pairs k no_pair (omega arith)) (bytes_eq-same _ _ same)

-- an answer with its reason
pub place_of-told : (pairs : List Pair) (key : List ℕ) (r : Option ℕ) → IfSome r (λ i. StandsFirst pairs i key) →
    IfNone r (AbsentBelow pairs (length pairs) key) → r ≡ place_of pairs key
place_of-told pairs key (Some i) found absent = sym (place_of-found pairs key i found)
place_of-told pairs key None found absent = sym (place_of-absent pairs key absent)
