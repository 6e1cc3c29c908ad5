-- Records that are taken out of a map one after another, and what is known then of each key
use Rattle.std.proofs.Common.{◌≡◌, ◌≢◌, ℕ, true, false, cond, ◌⊎◌, inl, inr, ⊎_elim, List, [], ◌∷◌, ◌++◌, Option, Some}
use Rattle.std.proofs.Common.{None, refl, sym, ap, subst, ◌∙◌}
use Rattle.std.specs.Option.{option_to_list, IfSome, IsSome}
use Rattle.std.specs.Str.{bytes_eq}
use Rattle.std.specs.FinMap.{get}
use Rattle.std.proofs.lemmas.Bool.{false≢true}
use Rattle.std.proofs.lemmas.Option.{none-some}
use Rattle.lh_page.specs.declared.pair.Pair.{Pair}
use Rattle.lh_bucket.specs.declared.call.Call.TheVariants.{Delete}
use Rattle.lh_bucket.specs.PlainMap.{Records, after}
use Rattle.lh_bucket.specs.Listing.{all_of}
use Rattle.lh_settling.specs.Contents.{IsBefore, values_under, StandsAs, IsFirstStray}
use Rattle.lh_settling.specs.Tally.{Fits, IsStrayOf, IsTally}
use Rattle.lh_settling.proofs.Values.{equals, itself, before-apart, values_under-push, values_under-other, get-deleted}

abbrev Values : Type 0
Values = List (List ℕ)

not_nil : {G : Type 0} (x : List ℕ) (xs : Values) → x ∷ xs ≡ [] → G
not_nil x xs e = cc

nil_or_not : (xs : Values) → (xs ≡ []) ⊎ (xs ≢ [])
nil_or_not [] = inl refl
nil_or_not (x ∷ xs) = inr (λ e. not_nil x xs e)

not_push : (xs : Values) (v : List ℕ) → xs ++ v ∷ [] ≢ []
not_push [] v e = not_nil v [] e
not_push (x ∷ xs) v e = not_nil x (xs ++ v ∷ []) e

-- a list that ends in v and is the value of an option
one_value : (xs : Values) (v : List ℕ) (o : Option (List ℕ)) → xs ++ v ∷ [] ≡ option_to_list o
    → (xs ≡ []) × (o ≡ Some v)
one_value [] v (Some w) e = (refl, sym (ap Some (head v w e)))
  where
    head : (x y : List ℕ) → x ∷ [] ≡ y ∷ [] → x ≡ y
    head x y e = cc
one_value [] v None e = absurd (not_push [] v e)
one_value (x ∷ xs) v None e = absurd (not_push (x ∷ xs) v e)
one_value (x ∷ xs) v (Some w) e = absurd (not_push xs v (tail e))
  where
    tail : x ∷ (xs ++ v ∷ []) ≡ w ∷ [] → xs ++ v ∷ [] ≡ []
    tail e = cc

-- what was known of a key, after a record with another key
other_fits : (m : Records) (done : List Pair) (p : Pair) (q : List ℕ) → bytes_eq q p.key ≡ false → Fits m done q
    → Fits m (done ++ p ∷ []) q
other_fits m done p q e f = subst (λ (xs : Values). (xs ≡ []) ⊎ (xs ≡ option_to_list (get m q)))
    (sym (values_under-other q done p e)) f

other_strays : (m : Records) (done : List Pair) (p : Pair) (q : List ℕ) → bytes_eq q p.key ≡ false → ¬ Fits m done q
    → ¬ Fits m (done ++ p ∷ []) q
other_strays m done p q e f g =
    f (subst (λ (xs : Values). (xs ≡ []) ⊎ (xs ≡ option_to_list (get m q))) (values_under-other q done p e) g)

by_key : {G : Type 0} (q k : List ℕ) → (q ≡ k → G) → (bytes_eq q k ≡ false → G) → G
by_key {G} q k same other =
    elim (bytes_eq q k) as (λ b. (b ≡ true → q ≡ k) → (b ≡ false → G) → G) [
      | true ↦ λ s o. same (s refl)
      | false ↦ λ s o. o refl
    ] (equals q k) other

module _ (m : Records) (done : List Pair) (p : Pair) where
  own : values_under p.key (done ++ p ∷ []) ≡ values_under p.key done ++ p.value ∷ []
  own = values_under-push p.key done p (itself p.key)

  -- the key of a record fits after it exactly if it was not met, and the map has this value
  own_fits : values_under p.key done ≡ [] → get m p.key ≡ Some p.value → Fits m (done ++ p ∷ []) p.key
  own_fits none there = inr (own ∙ ap (λ (xs : Values). xs ++ p.value ∷ []) none ∙ sym (ap option_to_list there))

  own_fitted : Fits m (done ++ p ∷ []) p.key → (values_under p.key done ≡ []) × (get m p.key ≡ Some p.value)
  own_fitted f = ⊎_elim
      (λ (none : values_under p.key (done ++ p ∷ []) ≡ []). absurd
      (not_push (values_under p.key done) p.value (sym own ∙ none)))
      (λ (one : values_under p.key (done ++ p ∷ []) ≡ option_to_list (get m p.key)). one_value
      (values_under p.key done) p.value (get m p.key) (sym own ∙ one))
      f

  module _ (left : Records) where
    left_after : (q : List ℕ) → bytes_eq q p.key ≡ false → get (after left (Delete p.key)) q ≡ get left q
    left_after q e = get-deleted left p.key q ∙ ap (λ b. cond b None (get left q)) e

    fresh_more : (stray : Option (List ℕ)) → IsTally m done left stray → (q : List ℕ)
        → values_under q (done ++ p ∷ []) ≡ [] → get (after left (Delete p.key)) q ≡ get m q
    fresh_more stray t q none = by_key q p.key
        (λ same. absurd (not_push (values_under p.key done) p.value
        (sym own ∙ ap (λ q. values_under q (done ++ p ∷ [])) (sym same) ∙ none)))
        (λ other. left_after q other ∙ t.fresh q (sym (values_under-other q done p other) ∙ none))

    met_more : (stray : Option (List ℕ)) → IsTally m done left stray → (q : List ℕ)
        → values_under q (done ++ p ∷ []) ≢ [] → get (after left (Delete p.key)) q ≡ None
    met_more stray t q some = by_key q p.key
        (λ same. get-deleted left p.key q
        ∙ ap (λ b. cond b None (get left q)) (ap (λ q. bytes_eq q p.key) same ∙ itself p.key))
        (λ other. left_after q other ∙ t.met q (λ none. some (values_under-other q done p other ∙ none)))

    -- what was taken says whether the key fits
    was_fresh : (stray : Option (List ℕ)) → IsTally m done left stray → get left p.key ≡ Some p.value
        → (values_under p.key done ≡ []) × (get m p.key ≡ Some p.value)
    was_fresh stray t there = ⊎_elim
        (λ (none : values_under p.key done ≡ []). (none, sym (t.fresh p.key none) ∙ there))
        (λ (some : values_under p.key done ≢ []). absurd (none-some p.value (sym (t.met p.key some) ∙ there)))
        (nil_or_not (values_under p.key done))

    now_fits : (stray : Option (List ℕ)) → IsTally m done left stray → get left p.key ≡ Some p.value → (q : List ℕ)
        → Fits m done q → Fits m (done ++ p ∷ []) q
    now_fits stray t there q f = by_key q p.key
        (λ same. let w = was_fresh stray t there in subst (Fits m (done ++ p ∷ [])) (sym same) (own_fits w.0 w.1))
        (λ other. other_fits m done p q other f)

    still_strays : (stray : Option (List ℕ)) → IsTally m done left stray → get left p.key ≡ Some p.value → (q : List ℕ)
        → ¬ Fits m done q → ¬ Fits m (done ++ p ∷ []) q
    still_strays stray t there q f = by_key q p.key
        (λ same. absurd (f (inl (ap (λ q. values_under q done) same ∙ (was_fresh stray t there).0))))
        (λ other. other_strays m done p q other f)

    -- the record stands as in the map
    pub same_more : (stray : Option (List ℕ)) → get left p.key ≡ Some p.value → IsTally m done left stray
        → IsTally m (done ++ p ∷ []) (after left (Delete p.key)) stray
    same_more stray there t = record { fresh = fresh_more stray t; met = met_more stray t; first = first stray t }
      where
        first : (stray : Option (List ℕ)) → IsTally m done left stray → IsStrayOf m (done ++ p ∷ []) stray
        first None t = λ q. now_fits None t there q (t.first q)
        first (Some s) t = (
          still_strays (Some s) t there s t.first.0,
          λ q b.
              now_fits (Some s) t there q (t.first.1 q b),
        )

    -- the key of a record that doesn't stand as in the map strays
    strays_now : (stray : Option (List ℕ)) → IsTally m done left stray → get left p.key ≢ Some p.value
        → ¬ Fits m (done ++ p ∷ []) p.key
    strays_now stray t differs f = let w = own_fitted f in differs (t.fresh p.key w.0 ∙ w.1)

    abbrev Lesser : Option (List ℕ) → List ℕ → Type 0
    Lesser stray k =
        ((stray ≡ Some k) ⊎ (k ≡ p.key))
        × ((q : List ℕ) → IsBefore q k → IsBefore q p.key)
        × IfSome stray (λ s. (q : List ℕ) → IsBefore q k → IsBefore q s)

    strays_lesser : (stray : Option (List ℕ)) (k : List ℕ) → IsTally m done left stray → get left p.key ≢ Some p.value
        → (stray ≡ Some k) ⊎ (k ≡ p.key) → ¬ Fits m (done ++ p ∷ []) k
    strays_lesser stray k t differs either =
        let now = strays_now stray t differs in
        by_key k p.key
        (λ same. subst (λ k. ¬ Fits m (done ++ p ∷ []) k) (sym same) now)
        (λ other. ⊎_elim
        (λ (old : stray ≡ Some k). other_strays m done p k other (subst (IsStrayOf m done) old t.first).0)
        (λ (new : k ≡ p.key). subst (λ k. ¬ Fits m (done ++ p ∷ []) k) (sym new) now) either)

    -- the record doesn't: the least key is now that of the record, or still the old one
    pub stray_more : (stray : Option (List ℕ)) (k : List ℕ) → get left p.key ≢ Some p.value → Lesser stray k
        → IsTally m done left stray → IsTally m (done ++ p ∷ []) (after left (Delete p.key)) (Some k)
    stray_more stray k differs l t = record {
      fresh = fresh_more stray t;
      met = met_more stray t;
      first = (
        strays_lesser stray k t differs l.0,
        λ q b.
            other_fits m done p q (before-apart q p.key (l.1 q b)) (fits stray t l.2 q b),
      );
    }
      where
        fits : (stray : Option (List ℕ)) → IsTally m done left stray
            → IfSome stray (λ s. (q : List ℕ) → IsBefore q k → IsBefore q s) → (q : List ℕ) → IsBefore q k
            → Fits m done q
        fits None t below q b = t.first q
        fits (Some s) t below q b = t.first.1 q (below q b)

-- all records were taken
module _ (m : Records) (lists : List (List Pair)) (left : Records) (stray : Option (List ℕ))
    (t : IsTally m (all_of lists) left stray) where
  -- a key that fits and that nothing is left of stands as in the map
  stands : (q : List ℕ) → Fits m (all_of lists) q → get left q ≡ None → StandsAs m lists q
  stands q f gone = ⊎_elim
      (λ (none : values_under q (all_of lists) ≡ []). none ∙ ap option_to_list (sym gone ∙ t.fresh q none))
      (λ (one : StandsAs m lists q). one) f

  strays : (q : List ℕ) → ¬ Fits m (all_of lists) q → ¬ StandsAs m lists q
  strays q f s = f (inr s)

  -- a key that something is left of
  left_strays : (q : List ℕ) → IsSome (get left q) → ¬ StandsAs m lists q
  left_strays q some s = ⊎_elim
      (λ (none : values_under q (all_of lists) ≡ []).
      full (get left q) some (sym none ∙ s ∙ ap option_to_list (sym (t.fresh q none))))
      (λ (met : values_under q (all_of lists) ≢ []). absurd (false≢true (subst IsSome (t.met q met) some)))
      (nil_or_not (values_under q (all_of lists)))
    where
      full : (o : Option (List ℕ)) → IsSome o → [] ≡ option_to_list o → ⊥
      full (Some v) some e = not_nil v [] (sym e)
      full None some e = absurd (false≢true some)

  -- the least key of those left, or the old one
  pub some_stray : (k first : List ℕ) → (stray ≡ Some k) ⊎ (k ≡ first)
      → ((q : List ℕ) → IsBefore q k → IsBefore q first)
      → IfSome stray (λ s. (q : List ℕ) → IsBefore q k → IsBefore q s) → IsSome (get left first)
      → ((q : List ℕ) → IsBefore q first → get left q ≡ None) → IsFirstStray m lists k
  some_stray k first either below under there least = record {
    stray = ⊎_elim
        (λ (old : stray ≡ Some k). strays k (subst (IsStrayOf m (all_of lists)) old t.first).0)
        (λ (new : k ≡ first). subst (λ k. ¬ StandsAs m lists k) (sym new) (left_strays first there)) either;
    least = λ q b. stands q (fits stray t under q b) (least q (below q b));
  }
    where
      fits : (stray : Option (List ℕ)) → IsTally m (all_of lists) left stray
          → IfSome stray (λ s. (q : List ℕ) → IsBefore q k → IsBefore q s) → (q : List ℕ) → IsBefore q k
          → Fits m (all_of lists) q
      fits None t under q b = t.first q
      fits (Some s) t under q b = t.first.1 q (under q b)
