-- One record, one page and one chain more in the search for misfits
use Rattle.std.proofs.Common.{◌≡◌, ℕ, ◌+◌, ◌<◌, ◌≤◌, ◌⊎◌, inl, inr, Bool, true, false, cond, not, ◌||◌, eqb, ltb, List}
use Rattle.std.proofs.Common.{[], ◌∷◌, ◌++◌, length, take, drop, get_or, Option, Some, None, refl, sym, ap, ◌∙◌}
use Rattle.std.proofs.Common.{append_assoc, arith}
use Rattle.std.specs.List.{list_any, flat_map}
use Rattle.std.specs.Ordering.{nat_cmp}
use Rattle.std.specs.Str.{bytes_eq}
use Rattle.std.specs.BTreeMap.{is_at}
use Rattle.std.specs.Cmp.Lexicographic.{slice_cmp, texts_ties}
use Rattle.std.proofs.lemmas.Bool.{cases_Bool, cases_lt, or_cases, or_left, or_right, eq-eqb, eqb-true}
use Rattle.std.proofs.lemmas.Bool.Decides.{nat_tests}
use Rattle.std.proofs.lemmas.List.{take_more, drop_more, map-append, drop_all}
use Rattle.std.proofs.lemmas.Slice.Eq.{bytes_eq-Decides}
use Rattle.lh_page.specs.declared.pair.Pair.{Pair}
use Rattle.lh_page.specs.Records.{keys_of, no_pair}
use Rattle.lh_image.specs.Chains.{stands_in}
use Rattle.lh_image.proofs.Judging.Finding.{flat_more}
use Rattle.lh_image.specs.Faults.{misfits}
use Rattle.lh_image.specs.Misplaced.{IsLeastAmong, IsSetOf, lesser_of}

-- ---- keys

-- two keys are compared as well the other way round

pub flip : (x y : List ℕ) → bytes_eq x y ≡ bytes_eq y x
flip x y = elim (cases_Bool (bytes_eq x y)) [
  | inl same ↦ let e : x ≡ y = (bytes_eq-Decides x y).0 same in rw e refl
  | inr other ↦ elim (cases_Bool (bytes_eq y x)) [
    | inl same ↦ let e : y ≡ x = (bytes_eq-Decides y x).0 same in rw e refl
    | inr apart ↦ other ∙ sym apart
  ]
]

-- with one item more, one passes a test where one passed before or the last one does
pub any_last : {X : Type 0} (f : X → Bool) (xs : List X) (x : X) → list_any f (xs ++ x ∷ []) ≡ (list_any f xs || f x)
any_last f [] x = elim (cases_Bool (f x)) [ inl passes ↦ rw passes refl | inr other ↦ rw other refl ]
any_last f (y ∷ ys) x = elim (cases_Bool (f y)) [ inl passes ↦ rw passes refl | inr other ↦ rw other (any_last f ys x) ]

choose : (a b : Bool) → cond a true b ≡ (b || a)
choose true true = refl
choose true false = refl
choose false true = refl
choose false false = refl

-- a set that takes one key more has exactly the keys before and that one
pub known_more : (key : List ℕ) (before : List (List ℕ)) (member new_member : List ℕ → Bool) →
    ((q : List ℕ) → new_member q ≡ cond (is_at (slice_cmp nat_cmp key) q) true (member q)) →
    IsSetOf member before → IsSetOf new_member (before ++ key ∷ [])
known_more key before member new_member adds known q =
    let test : is_at (slice_cmp nat_cmp key) q ≡ bytes_eq q key = sym (texts_ties key q) ∙ flip key q in
    adds q
    ∙ rw (test, known q)
    (choose (bytes_eq q key) (list_any (bytes_eq q) before) ∙ sym (any_last (bytes_eq q) before key))

-- ---- records

join : (a b c d : Bool) → ((a || (b || c)) || d) ≡ (a || (b || c || d))
join true b c d = refl
join false true c d = refl
join false false c d = refl

-- a misfit so far or in the rest is one so far, the next record, or one behind it
pub misfit_step : (home : List ℕ → Bool) (before : List (List ℕ)) (rs : List Pair) (i : ℕ) (r : Pair) (m : Bool) →
    i < length rs → get_or rs i no_pair ≡ r →
    (m || misfits home (before ++ keys_of (take i rs)) (drop i rs)) ≡
    ((m || (not (home r.key) || list_any (bytes_eq r.key) (before ++ keys_of (take i rs))))
    || misfits home (before ++ keys_of (take (i + 1) rs)) (drop (i + 1) rs))
unfolding misfits
misfit_step home before rs i r m less is =
    let here : drop i rs ≡ r ∷ drop (i + 1) rs =
    drop_more rs i no_pair less ∙ ap (λ (x : Pair). x ∷ drop (i + 1) rs) is in
    let keys : before ++ keys_of (take (i + 1) rs) ≡ (before ++ keys_of (take i rs)) ++ r.key ∷ [] =
    ap (λ xs. before ++ keys_of xs) (take_more rs i no_pair less ∙ ap (λ (x : Pair). take i rs ++ x ∷ []) is)
    ∙ ap (λ ks. before ++ ks) (map-append (λ (p : Pair). p.key) (take i rs) (r ∷ []))
    ∙ sym (append_assoc before (keys_of (take i rs)) (r.key ∷ [])) in
    rw (here, keys)
    (sym
    (join m (not (home r.key)) (list_any (bytes_eq r.key) (before ++ keys_of (take i rs)))
    (misfits home ((before ++ keys_of (take i rs)) ++ r.key ∷ []) (drop (i + 1) rs))))

-- the keys that stand before a record, and its own, are those that stand before the next record
pub keys_more : (before : List (List ℕ)) (rs : List Pair) (i : ℕ) (r : Pair) → i < length rs → get_or rs i no_pair ≡ r →
    (before ++ keys_of (take i rs)) ++ r.key ∷ [] ≡ before ++ keys_of (take (i + 1) rs)
keys_more before rs i r less is =
    sym (ap (λ xs. before ++ keys_of xs) (take_more rs i no_pair less ∙ ap (λ (x : Pair). take i rs ++ x ∷ []) is)
    ∙ ap (λ ks. before ++ ks) (map-append (λ (p : Pair). p.key) (take i rs) (r ∷ []))
    ∙ sym (append_assoc before (keys_of (take i rs)) (r.key ∷ [])))

-- ---- pages

stands_last : (pages : List ℕ) (x q : ℕ) → stands_in (pages ++ x ∷ []) q ≡ (stands_in pages q || eqb x q)
unfolding stands_in
stands_last pages x q = any_last (λ y. eqb y q) pages x

-- a page that stands in pages with one more is one of them, or that one
pub before_or_last : (pages : List ℕ) (x q : ℕ) → stands_in (pages ++ x ∷ []) q ≡ true →
    (stands_in pages q ≡ true) ⊎ (x ≡ q)
before_or_last pages x q here = elim (or_cases (stands_in pages q) (eqb x q) (sym (stands_last pages x q) ∙ here)) [
  | inl old ↦ inl old
  | inr new ↦ inr (eqb-true x q new)
]

still_stands : (pages : List ℕ) (x q : ℕ) → stands_in pages q ≡ true → stands_in (pages ++ x ∷ []) q ≡ true
still_stands pages x q here = stands_last pages x q ∙ or_left (stands_in pages q) (eqb x q) here

last_stands : (pages : List ℕ) (x : ℕ) → stands_in (pages ++ x ∷ []) x ≡ true
last_stands pages x = stands_last pages x x ∙ or_right (stands_in pages x) (eqb x x) (eq-eqb x x refl)

-- the least page that fails a test, if there is one, stays the least after one page more that passes it
pub least_sound : (bad : ℕ → Bool) (pages : List ℕ) (x : ℕ) (o : Option ℕ) → bad x ≡ false → IsLeastAmong bad pages o →
    IsLeastAmong bad (pages ++ x ∷ []) o
least_sound bad pages x None test least =
    λ p here. elim (before_or_last pages x p here) [ inl old ↦ least p old | inr new ↦ ap bad (sym new) ∙ test ]
least_sound bad pages x (Some m) test least = (
  still_stands pages x m least.0,
  least.1,
  λ p here less.
      elim (before_or_last pages x p here) [ inl old ↦ least.2 p old less | inr new ↦ ap bad (sym new) ∙ test ],
)

least_new : (bad : ℕ → Bool) (pages : List ℕ) (x m : ℕ) → bad x ≡ true → IsLeastAmong bad pages (Some m) →
    IsLeastAmong bad (pages ++ x ∷ []) (Some (cond (ltb m x) m x))
least_new bad pages x m test least = elim (cases_lt m x) [
  | inl less ↦ let t : ltb m x ≡ true = grind (arith, nat_tests) in
      rw t (
        still_stands pages x m least.0,
        least.1,
        λ p here below.
            elim (before_or_last pages x p here)
            [ inl old ↦ least.2 p old below | inr new ↦ absurd (omega arith) ],
      )
  | inr more ↦ let t : ltb m x ≡ false = grind (arith, nat_tests) in
      rw t (
        last_stands pages x,
        test,
        λ p here below.
            elim (before_or_last pages x p here)
            [ inl old ↦ least.2 p old (omega arith) | inr new ↦ absurd (omega arith) ],
      )
]

-- after one page more that fails it, the least is the lesser of that page and the least so far
pub least_bad : (bad : ℕ → Bool) (pages : List ℕ) (x : ℕ) (o : Option ℕ) → bad x ≡ true → IsLeastAmong bad pages o →
    IsLeastAmong bad (pages ++ x ∷ []) (Some (lesser_of o x))
least_bad bad pages x None test least = (
  last_stands pages x,
  test,
  λ p here less. elim (before_or_last pages x p here) [ inl old ↦ least p old | inr new ↦ absurd (omega arith) ],
)
least_bad bad pages x (Some m) test least = least_new bad pages x m test least

-- ---- loops

or_none : (b : Bool) → (b || false) ≡ b
or_none true = refl
or_none false = refl

-- after a record that is a misfit, one is known
pub then_true : (m v rest total : Bool) → v ≡ true → ((m || v) || rest) ≡ total → (true || rest) ≡ total
then_true true v rest total passes e = e
then_true false v rest total passes e = rw passes at e

-- after a record that is none, what was known stays
pub else_same : (m v rest total : Bool) → v ≡ false → ((m || v) || rest) ≡ total → (m || rest) ≡ total
else_same true v rest total other e = e
else_same false v rest total other e = rw other at e

-- behind the last record, what is known is whether there is a misfit
pub misfit_end : (home : List ℕ → Bool) (before : List (List ℕ)) (rs : List Pair) (i : ℕ) (m total : Bool) →
    length rs ≤ i → (m || misfits home (before ++ keys_of (take i rs)) (drop i rs)) ≡ total → m ≡ total
unfolding misfits
misfit_end home before rs i m total all e =
    let none : (m || misfits home (before ++ keys_of (take i rs)) []) ≡ total =
    ap (λ (xs : List Pair). m || misfits home (before ++ keys_of (take i rs)) xs) (sym (drop_all i rs all)) ∙ e in
    sym (or_none m) ∙ none

-- one page more of a chain stands behind all that were seen
pub pages_more : (seen chain : List ℕ) (i : ℕ) → i < length chain →
    seen ++ take (i + 1) chain ≡ (seen ++ take i chain) ++ get_or chain i 0 ∷ []
pages_more seen chain i less =
    ap (λ (xs : List ℕ). seen ++ xs) (take_more chain i 0 less)
    ∙ sym (append_assoc seen (take i chain) (get_or chain i 0 ∷ []))

-- the keys on a chain before a page, and the page's own, are those before the next page
pub chain_keys : (rec : ℕ → List Pair) (chain : List ℕ) (i p : ℕ) (rs : List Pair) → i < length chain →
    get_or chain i 0 ≡ p → rs ≡ rec p →
    keys_of (flat_map rec (take i chain)) ++ keys_of rs ≡ keys_of (flat_map rec (take (i + 1) chain))
chain_keys rec chain i p rs less at is =
    sym
    (ap keys_of
    (flat_more rec chain i 0 less ∙ ap (λ (q : ℕ). flat_map rec (take i chain) ++ rec q) at
    ∙ ap (λ (xs : List Pair). flat_map rec (take i chain) ++ xs) (sym is))
    ∙ map-append (λ (r : Pair). r.key) (flat_map rec (take i chain)) rs)
