-- What stands at a place of a list that was written to, made longer, or mapped
use Rattle.std.proofs.Common.{zero, suc, ◌≡◌, ◌≢◌, ℕ, ◌<◌, ◌⊎◌, List, [], ◌∷◌, ◌++◌, length, map, set, get_or, drop}
use Rattle.std.proofs.Common.{Some, refl, sym, ap, ◌∙◌, subst, inl, inr, ⊎_elim, arith}
use Rattle.std.specs.List.{slice_get}
use Rattle.std.specs.Option.{option_map}
use Rattle.std.proofs.lemmas.Option.{same_Some, none-some, slice_get-map, slice_get_read}

-- something stands at each place within a list
pub there : {X : Type 0} (xs : List X) (i : ℕ) → i < length xs → (x : X) × (slice_get xs i ≡ Some x)
there [] i lt = absurd (omega arith)
there (x ∷ xs) zero lt = (x, refl)
there (x ∷ xs) (suc i) lt = there xs i (omega arith)

-- what stands in a list that was written to is what was written, at its place, or stood there before
pub at_set : {X : Type 0} (xs : List X) (i : ℕ) (v : X) (j : ℕ) (x : X) → slice_get (set xs i v) j ≡ Some x →
    ((j ≡ i) × (x ≡ v)) ⊎ (slice_get xs j ≡ Some x)
at_set [] i v j x h = inr h
at_set (y ∷ ys) zero v zero x h = inl (refl, sym (same_Some v x h))
at_set (y ∷ ys) zero v (suc j) x h = inr h
at_set (y ∷ ys) (suc i) v zero x h = inr h
at_set (y ∷ ys) (suc i) v (suc j) x h = ⊎_elim (λ e. inl (ap suc e.0, e.1)) (λ e. inr e) (at_set ys i v j x h)

-- what stands in a list to which something was added is that, at the end, or stood there before
pub at_push : {X : Type 0} (xs : List X) (v : X) (j : ℕ) (x : X) → slice_get (xs ++ v ∷ []) j ≡ Some x →
    ((j ≡ length xs) × (x ≡ v)) ⊎ (slice_get xs j ≡ Some x)
at_push [] v zero x h = inl (refl, sym (same_Some v x h))
at_push [] v (suc j) x h = inr h
at_push (y ∷ ys) v zero x h = inr h
at_push (y ∷ ys) v (suc j) x h = ⊎_elim (λ e. inl (ap suc e.0, e.1)) (λ e. inr e) (at_push ys v j x h)

-- what stands in a list that a function made was made of what stands there in the other
pub at_map : {X Y : Type 0} (f : X → Y) (xs : List X) (j : ℕ) (y : Y) → slice_get (map f xs) j ≡ Some y →
    (x : X) × (slice_get xs j ≡ Some x) × (f x ≡ y)
at_map f [] j y h = absurd (none-some y h)
at_map f (x ∷ xs) zero y h = (x, refl, same_Some (f x) y h)
at_map f (x ∷ xs) (suc j) y h = at_map f xs j y h

-- a list that a function made is as long as the one that it was made of
pub length_mapped : {X Y : Type 0} (f : X → Y) (xs : List X) → length (map f xs) ≡ length xs
length_mapped f [] = refl
length_mapped f (x ∷ xs) = ap suc (length_mapped f xs)

-- what is read at a place of a list stands there, and in what is seen of the list
pub read_at : {X Y : Type 0} (f : X → Y) (xs : List X) (ys : List Y) (i : ℕ) (x : X) → map f xs ≡ ys → i < length ys →
    x ≡ get_or xs i x → slice_get ys i ≡ Some (f x)
read_at f xs ys i x is lt e =
    let lt : i < length xs =
    subst (λ n. i < n) (length_mapped f xs) (subst (λ (l : List _). i < length l) (sym is) lt) in
    subst (λ l. slice_get l i ≡ Some (f x)) is
    (slice_get-map f xs i ∙ ap (option_map f) (slice_get_read xs (length xs) i x refl lt e))

-- what stands at a place of a list that was written to, at the place or elsewhere
pub set_tells : {X : Type 0} (xs : List X) (i : ℕ) (v : X) (j : ℕ) (x : X) → slice_get (set xs i v) j ≡ Some x →
    ((j ≡ i) × (x ≡ v)) ⊎ ((j ≢ i) × (slice_get xs j ≡ Some x))
set_tells [] i v j x h = absurd (none-some x h)
set_tells (y ∷ ys) zero v zero x h = inl (refl, sym (same_Some v x h))
set_tells (y ∷ ys) zero v (suc j) x h = inr ((λ e. omega (arith, e)), h)
set_tells (y ∷ ys) (suc i) v zero x h = inr ((λ e. omega (arith, e)), h)
set_tells (y ∷ ys) (suc i) v (suc j) x h =
    ⊎_elim (λ e. inl (ap suc e.0, e.1)) (λ e. inr ((λ s. e.0 (omega (arith, s))), e.1)) (set_tells ys i v j x h)

-- what was written at a place within a list stands there
pub set_same : {X : Type 0} (xs : List X) (i : ℕ) (v w : X) → slice_get xs i ≡ Some w →
    slice_get (set xs i v) i ≡ Some v
set_same [] i v w h = absurd (none-some w h)
set_same (y ∷ ys) zero v w h = refl
set_same (y ∷ ys) (suc i) v w h = set_same ys i v w h

-- at other places of a list that was written to all is as before
pub set_other : {X : Type 0} (xs : List X) (i : ℕ) (v : X) (j : ℕ) → j ≢ i → slice_get (set xs i v) j ≡ slice_get xs j
set_other [] i v j ne = refl
set_other (y ∷ ys) zero v zero ne = absurd (ne refl)
set_other (y ∷ ys) zero v (suc j) ne = refl
set_other (y ∷ ys) (suc i) v zero ne = refl
set_other (y ∷ ys) (suc i) v (suc j) ne = set_other ys i v j (λ e. ne (ap suc e))

-- what comes first of what is left of a list from a place on, and what is left then
pub left_next : {X : Type 0} (xs rest : List X) (i : ℕ) (x : X) → drop i xs ≡ x ∷ rest →
    (slice_get xs i ≡ Some x) × (drop (suc i) xs ≡ rest)
left_next [] rest zero x e = absurd (cc)
left_next [] rest (suc i) x e = absurd (cc)
left_next (y ∷ ys) rest zero x e = (cc, cc)
left_next (y ∷ ys) rest (suc i) x e = left_next ys rest i x e

-- the same of a list behind which others stand
pub front_next : {X : Type 0} (xs done rest : List X) (i : ℕ) (x : X) → i < length xs → drop i xs ++ done ≡ x ∷ rest →
    (slice_get xs i ≡ Some x) × (rest ≡ drop (suc i) xs ++ done)
front_next [] done rest i x lt e = absurd (omega arith)
front_next (y ∷ ys) done rest zero x lt e = (cc, cc)
front_next (y ∷ ys) done rest (suc i) x lt e = front_next ys done rest i x (omega arith) e

-- a relation holds of what stands at each place of three lists
abbrev pub EachThree : {X Y Z : Type 0} → (X → Y → Z → Type 0) → List X → List Y → List Z → Type 0
EachThree {X} {Y} {Z} Relates xs ys zs =
    (k : ℕ) (x : X) (y : Y) (z : Z) → slice_get xs k ≡ Some x → slice_get ys k ≡ Some y → slice_get zs k ≡ Some z →
    Relates x y z

-- a relation holds at each place of three lists still when the third gets one more that it holds of
pub three_next : {X Y Z : Type 0} (Relates : X → Y → Z → Type 0) (xs : List X) (ys : List Y) (zs : List Z) (i : ℕ)
    (x : X) (y : Y) (z : Z) → length zs ≡ i → slice_get xs i ≡ Some x → slice_get ys i ≡ Some y → Relates x y z →
    EachThree Relates xs ys zs → EachThree Relates xs ys (zs ++ z ∷ [])
three_next Relates xs ys zs i x y z many at_x at_y new was k u v w ku kv kw =
    ⊎_elim
    (λ e. let at : k ≡ i = e.0 ∙ many in
    let same_x : x ≡ u = same_Some x u (sym at_x ∙ subst (λ j. slice_get xs j ≡ Some u) at ku) in
    let same_y : y ≡ v = same_Some y v (sym at_y ∙ subst (λ j. slice_get ys j ≡ Some v) at kv) in
    subst (λ a. Relates a v w) same_x (subst (λ b. Relates x b w) same_y (subst (λ c. Relates x y c) (sym e.1) new)))
    (λ e. was k u v w ku kv e)
    (at_push zs z k w kw)
