-- The least number that passes a test, and the parts of lists that a loop has come through
use Rattle.std.proofs.Common.{◌≡◌, ℕ, zero, suc, ◌+◌, ◌<◌, ◌≤◌, Bool, cond, List, [], ◌∷◌, ◌++◌, length, take, get_or}
use Rattle.std.proofs.Common.{map, Option, Some, refl, sym, ap, ◌∙◌, arith}
use Rattle.std.specs.List.{range_with_len, find, flat_map}
use Rattle.std.proofs.lemmas.List.{take_more, append-nil, map-append}
use Rattle.std.proofs.lemmas.List.Concat.{flat_map-append}
use Rattle.std.proofs.lemmas.List.FromFn.{map-range_with_len_more}

-- tests that agree in a range find the same number there
pub find_same : (f g : ℕ → Bool) (a n : ℕ) → ((p : ℕ) → a ≤ p → p < a + n → f p ≡ g p) →
    find f (range_with_len a n) ≡ find g (range_with_len a n)
find_same f g a zero same = refl
find_same f g a (suc n) same =
    let rest = find_same f g (a + 1) n (λ p low high. same p (omega arith) (omega arith)) in
    let here : f a ≡ g a = same a (omega arith) (omega arith) in
    rw here (ap (λ (o : Option ℕ). cond (g a) (Some a) o) rest)

-- the lists that are made of the first items, joined, after one item more
pub flat_more : {X : Type 0} {Y : Type 0} (f : X → List Y) (xs : List X) (i : ℕ) (d : X) → i < length xs →
    flat_map f (take (i + 1) xs) ≡ flat_map f (take i xs) ++ f (get_or xs i d)
flat_more f xs i d less =
    rw (take_more xs i d less)
    (flat_map-append f (take i xs) (get_or xs i d ∷ [])
    ∙ ap (λ ys. flat_map f (take i xs) ++ ys) (append-nil (f (get_or xs i d))))

-- one number more of a list that is made by a function
pub made_more : {V : Type 0} {Y : Type 0} (items : V → Y) (vs ws : List V) (v : V) (f : ℕ → Y) (n : ℕ) →
    ws ≡ vs ++ v ∷ [] → items v ≡ f n → map items vs ≡ map f (range_with_len 0 n) →
    map items ws ≡ map f (range_with_len 0 (n + 1))
made_more items vs ws v f n grown last made =
    ap (map items) grown ∙ map-append items vs (v ∷ []) ∙ ap (λ xs. xs ++ items v ∷ []) made
    ∙ ap (λ y. map f (range_with_len 0 n) ++ y ∷ []) last
    ∙ sym (map-range_with_len_more f 0 n n (omega arith))

-- an item of a list, seen through a function
pub item_of : {V : Type 0} {Y : Type 0} (items : V → Y) (vs : List V) (i : ℕ) (d : Y) (v : V) → i < length vs →
    v ≡ get_or vs i v → get_or (map items vs) i d ≡ items v
item_of items [] i d v less is = absurd (omega arith)
item_of items (x ∷ xs) zero d v less is = ap items (sym is)
item_of items (x ∷ xs) (suc i) d v less is = item_of items xs i d v (omega arith) is
