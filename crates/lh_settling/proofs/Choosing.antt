-- All keys are as they should be, or there is a least one that is not
use Rattle.std.proofs.Common.{◌≡◌, ◌≢◌, ℕ, zero, suc, ◌<◌, Bool, true, false, ◌||◌, ◌⊎◌, inl, inr, ⊎_elim, List, []}
use Rattle.std.proofs.Common.{◌∷◌, ◌++◌, length, Option, Some, None, is_some, refl, sym, ap, subst, ◌∙◌, arith, add-one}
use Rattle.std.specs.declared.cmp.Ordering.TheVariants.{Less, Equal, Greater}
use Rattle.std.specs.List.{list_any}
use Rattle.std.specs.Option.{option_to_list, IfSome}
use Rattle.std.specs.Ordering.{nat_cmp, eq_by_cmp}
use Rattle.std.specs.Cmp.Lexicographic.{slice_cmp, nat_list_cmp_total, texts_ties}
use Rattle.std.specs.Str.{bytes_eq}
use Rattle.std.specs.FinMap.{get, keys, contains_key-keys}
use Rattle.std.proofs.lemmas.Bool.{false≢true}
use Rattle.std.proofs.lemmas.List.Folds.{list_any-append}
use Rattle.lh_addr.specs.Fnv.{code_of}
use Rattle.lh_addr.specs.Growth.{address}
use Rattle.lh_page.specs.declared.pair.Pair.{Pair}
use Rattle.lh_page.specs.Records.{keys_of, key_at}
use Rattle.lh_bucket.specs.Listing.{IsHome, EachPlace, all_of, list_at}
use Rattle.lh_bucket.specs.PlainMap.{Records}
use Rattle.lh_settling.specs.Contents.{IsBefore, values_under, StandsAs, IsFirstStray, IsFirstAway, IsLeastAway}
use Rattle.lh_settling.proofs.Away.{IsAwayOf, away_same, away_more, least_away, AtHomeBefore, home_more, home_all}
use Rattle.lh_settling.proofs.Placed.{either_or, absent_any}
use Rattle.lh_settling.proofs.Values.{exact, before_greater, never_before, apart}
use Rattle.lh_settling.proofs.Telling.{told_number, told_bytes, told_values}

abbrev Among : List ℕ → List (List ℕ) → Bool
Among q ks = list_any (bytes_eq q) ks

module _ (Good : List ℕ → Type 0) (told : (k : List ℕ) → (Good k) ⊎ (¬ Good k)) where
  abbrev LeastOf : List (List ℕ) → Type 0
  LeastOf ks = (k : List ℕ) × (¬ Good k) × ((q : List ℕ) → Among q ks ≡ true → IsBefore q k → Good q)

  others : (q x : List ℕ) (ks : List (List ℕ)) → q ≢ x → Among q (x ∷ ks) ≡ true → Among q ks ≡ true
  others q x ks other i = ap (λ b. b || Among q ks) (sym (apart q x other)) ∙ i

  least_of : (ks : List (List ℕ)) → ((q : List ℕ) → Among q ks ≡ true → Good q) ⊎ LeastOf ks
  least_of [] = inl (λ q i. absurd (false≢true i))
  least_of (x ∷ ks) = ⊎_elim
      (λ (good : Good x). ⊎_elim
      (λ (all : (q : List ℕ) → Among q ks ≡ true → Good q). inl (λ q i. ⊎_elim
      (λ (same : q ≡ x). subst Good (sym same) good)
      (λ (other : q ≢ x). all q (others q x ks other i)) (told_bytes q x)))
      (λ (l : LeastOf ks). inr (
        l.0,
        l.1,
        λ q i b. ⊎_elim
            (λ (same : q ≡ x). subst Good (sym same) good)
            (λ (other : q ≢ x). l.2 q (others q x ks other i) b) (told_bytes q x),
      ))
      (least_of ks))
      (λ (bad : ¬ Good x). ⊎_elim
      (λ (all : (q : List ℕ) → Among q ks ≡ true → Good q).
      inr (x, bad, λ q i b. all q (others q x ks (λ e. never_before x (subst (λ q. IsBefore q x) e b)) i)))
      (λ (l : LeastOf ks). inr (lesser x ks bad l))
      (least_of ks))
      (told x)
    where
      lesser : (x : List ℕ) (ks : List (List ℕ)) → ¬ Good x → LeastOf ks → LeastOf (x ∷ ks)
      lesser x ks bad l =
          elim (slice_cmp nat_cmp x l.0) as (λ r. slice_cmp nat_cmp x l.0 ≡ r → LeastOf (x ∷ ks)) [
            | Less ↦ λ e. (
              x,
              bad,
              λ q i b.
                  l.2 q (others q x ks (λ s. never_before x (subst (λ q. IsBefore q x) s b)) i)
                  (nat_list_cmp_total.trans q x l.0 b e),
            )
            | Equal ↦ λ e. (
              l.0,
              l.1,
              λ q i b.
                  l.2 q (others q x ks (λ s. never_before x
                  (subst (IsBefore x) (sym (exact x l.0 e)) (subst (λ q. IsBefore q l.0) s b))) i) b,
            )
            | Greater ↦ λ e. (
              l.0,
              l.1,
              λ q i b.
                  l.2 q (others q x ks (λ s. greater_less (sym e ∙ subst (λ q. IsBefore q l.0) s b)) i) b,
            )
          ] refl
        where
          greater_less : Greater ≡ Less → ⊥
          greater_less e = cc

not_there : (m : Records) (q : List ℕ) → Among q (keys m) ≡ false → get m q ≡ None
not_there m q e =
    let same : Among q (keys m) ≡ list_any (eq_by_cmp (slice_cmp nat_cmp) q) (keys m) =
    λ i. list_any (λ x. texts_ties q x i) (keys m) in
    none (get m q) (contains_key-keys m q ∙ sym same ∙ e)
  where
    none : (o : Option (List ℕ)) → is_some o ≡ false → o ≡ None
    none None e = refl
    none (Some v) e = absurd (false≢true (sym e))

-- each key stands as in a map, or there is a least one that doesn't
module _ (m : Records) (lists : List (List Pair)) where
  abbrev candidates : List (List ℕ)
  candidates = keys_of (all_of lists) ++ keys m

  outside : (q : List ℕ) → Among q candidates ≡ false → StandsAs m lists q
  outside q e =
      let both = either_or (Among q (keys_of (all_of lists))) (Among q (keys m))
      (sym (list_any-append (bytes_eq q) (keys_of (all_of lists)) (keys m)) ∙ e) in
      absent_any (all_of lists) q both.0 ∙ ap option_to_list (sym (not_there m q both.1))

  everywhere : (q : List ℕ) → (Among q candidates ≡ true → StandsAs m lists q) → StandsAs m lists q
  everywhere q inside =
      elim (Among q candidates) as (λ b. Among q candidates ≡ b → StandsAs m lists q) [
        | true ↦ λ e. inside e
        | false ↦ λ e. outside q e
      ] refl

  -- each key stands in the lists just as in the map, or there is a least one that stands otherwise
  pub stray_or_not : ((q : List ℕ) → StandsAs m lists q) ⊎ ((k : List ℕ) × IsFirstStray m lists k)
  stray_or_not = ⊎_elim
      (λ (all : (q : List ℕ) → Among q candidates ≡ true → StandsAs m lists q). inl (λ q. everywhere q (all q)))
      (λ (l : LeastOf (StandsAs m lists)
      (λ k. told_values (values_under k (all_of lists)) (option_to_list (get m k))) candidates).
      inr (l.0, record { stray = l.1; least = λ q b. everywhere q (λ i. l.2 q i b) }))
      (least_of (StandsAs m lists) (λ k.
      told_values (values_under k (all_of lists)) (option_to_list (get m k))) candidates)

-- the lesser of two keys
lesser_of : (o : Option (List ℕ)) (key : List ℕ) → (k : List ℕ) × ((o ≡ Some k) ⊎ (k ≡ key))
    × ((q : List ℕ) → IsBefore q k → IsBefore q key) × IfSome o (λ s. (q : List ℕ) → IsBefore q k → IsBefore q s)
lesser_of None key = (key, inr refl, λ q b. b, tt)
lesser_of (Some s) key =
    elim (slice_cmp nat_cmp s key) as
    (λ r. slice_cmp nat_cmp s key ≡ r → (k : List ℕ) × ((Some s ≡ Some k) ⊎ (k ≡ key))
    × ((q : List ℕ) → IsBefore q k → IsBefore q key) × ((q : List ℕ) → IsBefore q k → IsBefore q s)) [
      | Less ↦ λ e. (s, inl refl, λ q b. nat_list_cmp_total.trans q s key b e, λ q b. b)
      | Equal ↦ λ e. (key, inr refl, λ q b. b, before_greater s key (λ l. equal_less (sym e ∙ l)))
      | Greater ↦ λ e. (key, inr refl, λ q b. b, before_greater s key (λ l. greater_less (sym e ∙ l)))
    ] refl
  where
    equal_less : Equal ≡ Less → ⊥
    equal_less e = cc

    greater_less : Greater ≡ Less → ⊥
    greater_less e = cc

-- each record is at home, or there is a first one that isn't
module _ (initial size : ℕ) where
  away_upto : (bucket : ℕ) (ps : List Pair) (n : ℕ) → (o : Option (List ℕ)) × IsAwayOf initial size bucket ps n o
  away_upto bucket ps zero = (None, λ p below. absurd (omega arith))
  away_upto bucket ps (suc n) =
      let before = away_upto bucket ps n in
      ⊎_elim
      (λ (here : IsHome initial size bucket ps n). (
        before.0,
        subst (λ n. IsAwayOf initial size bucket ps n before.0) (add-one n)
            (away_same initial size bucket ps n before.0 here before.1),
      ))
      (λ (away : address initial size (code_of (key_at ps n)) ≢ bucket).
      let l = lesser_of before.0 (key_at ps n) in (
        Some l.0,
        subst (λ n. IsAwayOf initial size bucket ps n (Some l.0)) (add-one n)
            (away_more initial size bucket ps n before.0 (key_at ps n) l.0 refl away never_before l.1 l.2 l.3 before.1),
      ))
      (told_number (address initial size (code_of (key_at ps n))) bucket)

  in_bucket : (bucket : ℕ) (ps : List Pair)
      → ((p : ℕ) → p < length ps → IsHome initial size bucket ps p) ⊎
      ((k : List ℕ) × IsLeastAway initial size bucket ps k)
  in_bucket bucket ps = let r = away_upto bucket ps (length ps) in split r.0 r.1
    where
      split : (o : Option (List ℕ)) → IsAwayOf initial size bucket ps (length ps) o
          → ((p : ℕ) → p < length ps → IsHome initial size bucket ps p) ⊎
          ((k : List ℕ) × IsLeastAway initial size bucket ps k)
      split None h = inl h
      split (Some k) h = inr (k, least_away initial size bucket ps (length ps) k refl h)

  abbrev pub FirstOf : List (List Pair) → Type 0
  FirstOf lists = (b : ℕ) × (k : List ℕ) × IsFirstAway initial size lists b k

  home_upto : (lists : List (List Pair)) (n : ℕ) → (AtHomeBefore initial size lists n) ⊎ FirstOf lists
  home_upto lists zero = inl (λ b p low w. absurd (omega arith))
  home_upto lists (suc n) = ⊎_elim
      (λ (before : AtHomeBefore initial size lists n). ⊎_elim
      (λ (here : (p : ℕ) → p < length (list_at lists n) → IsHome initial size n (list_at lists n) p).
      inl (subst (AtHomeBefore initial size lists) (add-one n)
      (home_more initial size lists n (list_at lists n) refl here before)))
      (λ (l : (k : List ℕ) × IsLeastAway initial size n (list_at lists n) k).
      inr (n, l.0, record { stands = l.1; before = λ b p low w. before b p low w }))
      (in_bucket n (list_at lists n)))
      (λ (f : FirstOf lists). inr f)
      (home_upto lists n)

  -- each record is at home, or there is a least bucket with a key of another address, and a least such key
  pub home_or_not : (lists : List (List Pair)) → (EachPlace (IsHome initial size) lists) ⊎ FirstOf lists
  home_or_not lists = ⊎_elim
      (λ (h : AtHomeBefore initial size lists (length lists)).
      inl (home_all initial size lists (length lists) (omega arith) h))
      (λ (f : FirstOf lists). inr f)
      (home_upto lists (length lists))
