-- Records that stand in another bucket than that of their address
use Rattle.std.proofs.Common.{◌≡◌, ◌≢◌, ℕ, ◌+◌, ◌<◌, ◌≤◌, ◌⊎◌, ⊎_elim, inl, inr, List, [], length, map, get_or, Option}
use Rattle.std.proofs.Common.{Some, None, sym, ap, subst, ◌∙◌, arith}
use Rattle.std.specs.Option.{IfSome, MatchOption}
use Rattle.std.proofs.lemmas.Bool.{cases_lt}
use Rattle.std.proofs.lemmas.List.{get_or_default, get_or_past, length-map}
use Rattle.std.proofs.Math.ListN.{get_or-map}
use Rattle.lh_addr.specs.Fnv.{code_of}
use Rattle.lh_addr.specs.Growth.{address}
use Rattle.lh_page.specs.declared.pair.Pair.{Pair}
use Rattle.lh_page.specs.Records.{key_at, no_pair}
use Rattle.lh_bucket.specs.Listing.{IsHome, EachPlace, list_at}
use Rattle.lh_settling.specs.Contents.{IsBefore, IsLeastAway}

-- the least key of the records before place n that has another address than a bucket
pub record IsLeastBefore (initial size bucket : ℕ) (pairs : List Pair) (n : ℕ) (key : List ℕ) : Type 0 where
  pub place : ℕ
  pub within : place < n
  pub here : key_at pairs place ≡ key
  pub away : address initial size (code_of key) ≢ bucket
  pub least : (other : ℕ) → other < n → IsBefore (key_at pairs other) key → IsHome initial size bucket pairs other

-- the same where there may be no such key
abbrev pub IsAwayOf : ℕ → ℕ → ℕ → List Pair → ℕ → Option (List ℕ) → Type 0
IsAwayOf initial size bucket pairs n away =
    MatchOption away ((place : ℕ) → place < n → IsHome initial size bucket pairs place)
    (IsLeastBefore initial size bucket pairs n)

last_or_before : (p n : ℕ) → p < n + 1 → (p < n) ⊎ (p ≡ n)
last_or_before p n h = ⊎_elim (λ (below : p < n). inl below) (λ (above : n ≤ p). inr (omega arith)) (cases_lt p n)

module _ (initial size bucket : ℕ) (pairs : List Pair) (n : ℕ) where
  at_home_more : {P : ℕ → Type 0} → ((p : ℕ) → p < n → P p → IsHome initial size bucket pairs p)
      → IsHome initial size bucket pairs n → (p : ℕ) → p < n + 1 → P p → IsHome initial size bucket pairs p
  at_home_more before here p below h = ⊎_elim
      (λ (low : p < n). before p low h)
      (λ (last : p ≡ n). subst (λ p. IsHome initial size bucket pairs p) (sym last) here)
      (last_or_before p n below)

  -- the next record is at home
  pub away_same : (away : Option (List ℕ)) → IsHome initial size bucket pairs n
      → IsAwayOf initial size bucket pairs n away → IsAwayOf initial size bucket pairs (n + 1) away
  away_same None here before = λ p below. at_home_more {P = λ _. Unit {0}} (λ p low _. before p low) here p below tt
  away_same (Some k) here before = record {
    place = before.place;
    within = omega (arith, before.within);
    here = before.here;
    away = before.away;
    least = at_home_more {P = λ p. IsBefore (key_at pairs p) k} before.least here;
  }

  -- it is away
  pub away_more : (away : Option (List ℕ)) (key k : List ℕ) → key_at pairs n ≡ key
      → address initial size (code_of key) ≢ bucket → ((key' : List ℕ) → IsBefore key' key' → ⊥)
      → (away ≡ Some k) ⊎ (k ≡ key) → ((q : List ℕ) → IsBefore q k → IsBefore q key)
      → IfSome away (λ s. (q : List ℕ) → IsBefore q k → IsBefore q s) → IsAwayOf initial size bucket pairs n away
      → IsAwayOf initial size bucket pairs (n + 1) (Some k)
  away_more away key k at other never either below under before = ⊎_elim
      (λ (old : away ≡ Some k).
      let was : IsLeastBefore initial size bucket pairs n k = subst (IsAwayOf initial size bucket pairs n) old before in
      record { place = was.place; within = omega (arith, was.within); here = was.here; away = was.away; least = least })
      (λ (new : k ≡ key). record {
        place = n;
        within = omega arith;
        here = at
            ∙ sym new;
        away = λ e. other (ap (λ q. address initial size (code_of q)) (sym new) ∙ e);
        least = least;
      })
      either
    where
      earlier : (away : Option (List ℕ)) → IfSome away (λ s. (q : List ℕ) → IsBefore q k → IsBefore q s)
          → IsAwayOf initial size bucket pairs n away → (p : ℕ) → p < n → IsBefore (key_at pairs p) k
          → IsHome initial size bucket pairs p
      earlier None under before p low b = before p low
      earlier (Some s) under before p low b = before.least p low (under (key_at pairs p) b)

      least : (p : ℕ) → p < n + 1 → IsBefore (key_at pairs p) k → IsHome initial size bucket pairs p
      least p low b = ⊎_elim
          (λ (lower : p < n). earlier away under before p lower b)
          (λ (last : p ≡ n). absurd (never key
          (subst (λ q. IsBefore q key) (ap (key_at pairs) last ∙ at) (below (key_at pairs p) b))))
          (last_or_before p n low)

-- all records of a list were looked at
pub least_away : (initial size bucket : ℕ) (pairs : List Pair) (n : ℕ) (k : List ℕ) → n ≡ length pairs
    → IsLeastBefore initial size bucket pairs n k → IsLeastAway initial size bucket pairs k
least_away initial size bucket pairs n k all h = record {
  place = h.place;
  within = omega (arith, h.within);
  here = h.here;
  away = h.away;
  least = λ p below. h.least p (omega arith);
}

-- the key of a record that a loop reads
pub key_read : (ps : List Pair) (n : ℕ) (p : Pair) → n < length ps → p ≡ get_or ps n p → key_at ps n ≡ p.key
key_read ps n p below is = ap (λ (q : Pair). q.key) (get_or_default ps n no_pair p below ∙ sym is)

-- the list of a bucket that a loop reads
pub list_read : {V : Type 0} (f : V → List Pair) (vs : List V) (n : ℕ) (v : V) → n < length vs → v ≡ get_or vs n v
    → list_at (map f vs) n ≡ f v
list_read f vs n v below is =
    let within : n < length (map f vs) = omega (arith, length-map vs f) in
    get_or_default (map f vs) n [] (f v) within ∙ get_or-map f vs n v ∙ ap f (sym is)

-- all records of the buckets before one are at home
abbrev pub AtHomeBefore : ℕ → ℕ → List (List Pair) → ℕ → Type 0
AtHomeBefore initial size lists n =
    (bucket place : ℕ) → bucket < n → place < length (list_at lists bucket)
    → IsHome initial size bucket (list_at lists bucket) place

-- where all records of a bucket are at home, and of the buckets before it, so are all of the buckets up to it
pub home_more : (initial size : ℕ) (lists : List (List Pair)) (n : ℕ) (ps : List Pair) → list_at lists n ≡ ps
    → ((place : ℕ) → place < length ps → IsHome initial size n ps place) → AtHomeBefore initial size lists n
    → AtHomeBefore initial size lists (n + 1)
home_more initial size lists n ps is here before bucket place below within = ⊎_elim
    (λ (low : bucket < n). before bucket place low within)
    (λ (last : bucket ≡ n).
    subst (λ b. (p : ℕ) → p < length (list_at lists b) → IsHome initial size b (list_at lists b) p) (sym last)
    (subst (λ ps. (p : ℕ) → p < length ps → IsHome initial size n ps p) (sym is) here) place within)
    (last_or_before bucket n below)

-- all buckets were looked at
pub home_all : (initial size : ℕ) (lists : List (List Pair)) (n : ℕ) → length lists ≤ n
    → AtHomeBefore initial size lists n → EachPlace (IsHome initial size) lists
home_all initial size lists n all before bucket place within = ⊎_elim
    (λ (below : bucket < n). before bucket place below within)
    (λ (past : n ≤ bucket). absurd (omega (arith, within, ap length (get_or_past lists bucket [] (omega arith)))))
    (cases_lt bucket n)
