-- The value of the first record that has a key
use Rattle.std.proofs.Common.{◌≡◌, ℕ, zero, suc, ◌<◌, Bool, true, false, cond, List, [], ◌∷◌, ◌++◌, length, Option}
use Rattle.std.proofs.Common.{Some, None, refl, sym, ap, ◌∙◌, arith, get_or, ◌↔◌}
use Rattle.std.specs.List.{Contains, find}
use Rattle.std.specs.Option.{option_map, option_or}
use Rattle.std.specs.Str.{bytes_eq}
use Rattle.std.proofs.lemmas.Slice.Eq.{bytes_eq-Decides}
use Rattle.lh_page.specs.declared.pair.Pair.{Pair}
use Rattle.lh_image.specs.LookUp.{value_in}

abbrev pair : List ℕ → List ℕ → Pair
pair key value = record { key = key; value = value }

value_by : (x : Pair) (b : Bool) (o : Option Pair) →
    option_map (λ (r : Pair). r.value) (cond b (Some x) o) ≡
    cond b (Some x.value) (option_map (λ (r : Pair). r.value) o)
value_by x true o = refl
value_by x false o = refl

-- the value that is found is the first record's, where that has the key, or else the one found in the others
pub value_in-cons : (key : List ℕ) (x : Pair) (xs : List Pair) →
    value_in key (x ∷ xs) ≡ cond (bytes_eq x.key key) (Some x.value) (value_in key xs)
unfolding value_in
value_in-cons key x xs = value_by x (bytes_eq x.key key) (find (λ (r : Pair). bytes_eq r.key key) xs)

or_by : (b : Bool) (v : List ℕ) (o p : Option (List ℕ)) →
    cond b (Some v) (option_or o p) ≡ option_or (cond b (Some v) o) p
or_by true v o p = refl
or_by false v o p = refl

-- in records with others behind them, the value found is that in the first ones, or else that in the others
pub value_in-append : (key : List ℕ) (xs ys : List Pair) →
    value_in key (xs ++ ys) ≡ option_or (value_in key xs) (value_in key ys)
unfolding value_in
value_in-append key [] ys = refl
value_in-append key (x ∷ xs) ys =
    value_in-cons key x (xs ++ ys) ∙ ap (λ o. cond (bytes_eq x.key key) (Some x.value) o) (value_in-append key xs ys)
    ∙ or_by (bytes_eq x.key key) x.value (value_in key xs) (value_in key ys)
    ∙ ap (λ o. option_or o (value_in key ys)) (sym (value_in-cons key x xs))

-- among no records, no value is found
pub value_in-none : (key : List ℕ) → value_in key [] ≡ None
unfolding value_in
value_in-none key = refl

some_same : (v w : List ℕ) → Some v ≡ Some w → v ≡ w
some_same v w e = cc

here_by : (key value : List ℕ) (x : Pair) (xs : List Pair) (b : Bool) → bytes_eq x.key key ≡ b →
    cond b (Some x.value) (value_in key xs) ≡ Some value →
    (value_in key xs ≡ Some value → Contains xs (pair key value)) → Contains (x ∷ xs) (pair key value)
here_by key value x xs true same e later =
    let k : x.key ≡ key = (bytes_eq-Decides x.key key).0 same in
    let v : x.value ≡ value = some_same x.value value e in
    (0, omega arith, λ i. record { key = k i; value = v i })
here_by key value x xs false other e later = let r = later e in (suc r.0, omega (arith, r.1), r.2)

-- a value that is found stands with the key
pub value_in-stands : (key value : List ℕ) (xs : List Pair) → value_in key xs ≡ Some value →
    Contains xs (pair key value)
value_in-stands key value [] e = let f : None ≡ Some value = sym (value_in-none key) ∙ e in absurd cc
value_in-stands key value (x ∷ xs) e =
    here_by key value x xs (bytes_eq x.key key) refl (sym (value_in-cons key x xs) ∙ e) (value_in-stands key value xs)

none_by : (key : List ℕ) (x : Pair) (xs : List Pair) (b : Bool) → bytes_eq x.key key ≡ b →
    cond b (Some x.value) (value_in key xs) ≡ None → (x.key ≡ key → ⊥) × (value_in key xs ≡ None)
none_by key x xs true same e = absurd cc
none_by key x xs false other e = (
  λ k.
      let f : bytes_eq x.key key ≡ true = (bytes_eq-Decides x.key key).1 k in
      let g : true ≡ false = sym f ∙ other in
      cc,
  e,
)

-- where none is found, no record has the key
pub value_in-absent : (key value : List ℕ) (xs : List Pair) (k : ℕ) → value_in key xs ≡ None → k < length xs →
    get_or xs k (pair key value) ≡ pair key value → ⊥
value_in-absent key value [] k e low at = omega arith
value_in-absent key value (x ∷ xs) zero e low at =
    (none_by key x xs (bytes_eq x.key key) refl (sym (value_in-cons key x xs) ∙ e)).0 (ap (λ (r : Pair). r.key) at)
value_in-absent key value (x ∷ xs) (suc k) e low at =
    value_in-absent key value xs k (none_by key x xs (bytes_eq x.key key) refl (sym (value_in-cons key x xs) ∙ e)).1
    (omega arith) at

same_by : (key : List ℕ) (xs : List Pair) (found got : Option (List ℕ)) → value_in key xs ≡ found →
    ((value : List ℕ) → (got ≡ Some value) ↔ Contains xs (pair key value)) → found ≡ got
same_by key xs (Some value) got is map = sym ((map value).1 (value_in-stands key value xs is))
same_by key xs None None is map = refl
same_by key xs None (Some value) is map =
    let c = (map value).0 refl in absurd (value_in-absent key value xs c.0 is c.1 c.2)

-- an answer that has just the records is the value that is found
pub value_in-is : (key : List ℕ) (xs : List Pair) (got : Option (List ℕ)) →
    ((value : List ℕ) → (got ≡ Some value) ↔ Contains xs (pair key value)) → value_in key xs ≡ got
value_in-is key xs got map = same_by key xs (value_in key xs) got refl map
