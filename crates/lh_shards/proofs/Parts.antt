-- A call on a part of a map is that call on the whole map
use Rattle.std.proofs.Common.{◌≡◌, ℕ, Bool, true, false, cond, List, Option, Some, None, is_some, refl, sym, ap, ◌∙◌}
use Rattle.std.proofs.Common.{subst}
use Rattle.std.specs.Ordering.{nat_cmp, eq_by_cmp}
use Rattle.std.specs.Cmp.Lexicographic.{slice_cmp, nat_list_cmp_total, texts_ties}
use Rattle.std.specs.FinMap.{get, insert, remove, contains_key, get-insert, get-remove}
use Rattle.std.proofs.lemmas.Slice.Eq.{bytes_eq-Decides}
use Rattle.lh_bucket.specs.declared.call.Call.{Call}
use Rattle.lh_bucket.specs.declared.call.Call.TheVariants.{Search, Insert, Delete, Replace}
use Rattle.lh_bucket.specs.declared.call.Reply.TheVariants.{Exists, Inserted, Deleted, Absent, Replaced}
use Rattle.lh_bucket.specs.PlainMap.{Records, reply, after, found, key_of}

-- the part of a map whose keys pass a test
abbrev pub Shows : (List ℕ → Bool) → Records → Records → Type 0
Shows test whole part = (key : List ℕ) → get part key ≡ cond (test key) (get whole key) None

ties : List ℕ → List ℕ → Bool
ties q k = eq_by_cmp (slice_cmp nat_cmp) q k

no_flip : ◌≡◌ {A = Bool} false true → ⊥
no_flip e = cc

test_tied : (p : List ℕ → Bool) (q k : List ℕ) → ties q k ≡ true → p q ≡ p k
unfolding ties
test_tied p q k h = ap p ((bytes_eq-Decides q k).0 (texts_ties q k ∙ h))

get_put : (m : Records) (k v q : List ℕ) → get (insert m k v) q ≡ cond (ties q k) (Some v) (get m q)
unfolding ties
get_put m k v q = get-insert nat_list_cmp_total m k v q

get_cut : (m : Records) (k q : List ℕ) → get (remove m k) q ≡ cond (ties q k) None (get m q)
unfolding ties
get_cut m k q = get-remove nat_list_cmp_total m k q

two_tests : {X : Type 0} (t b : Bool) (w o : Option X) → (t ≡ true → b ≡ true) →
    cond t w (cond b o None) ≡ cond b (cond t w o) None
two_tests true true w o h = refl
two_tests true false w o h = absurd (no_flip (h refl))
two_tests false true w o h = refl
two_tests false false w o h = refl

two_apart : {X : Type 0} (t b : Bool) (w o : Option X) → (t ≡ true → b ≡ false) →
    cond b o None ≡ cond b (cond t w o) None
two_apart true true w o h = absurd (no_flip (sym (h refl)))
two_apart true false w o h = refl
two_apart false true w o h = refl
two_apart false false w o h = refl

module _ (p : List ℕ → Bool) (whole part : Records) (shows : Shows p whole part) where
  -- a key that passes the test has the same value in the part as in the whole map
  pub here : (k : List ℕ) → p k ≡ true → get part k ≡ get whole k
  here k h = shows k ∙ ap (λ b. cond b (get whole k) None) h

  put_here : (k v : List ℕ) → p k ≡ true → Shows p (insert whole k v) (insert part k v)
  put_here k v h q =
      get_put part k v q ∙ ap (cond (ties q k) (Some v)) (shows q)
      ∙ two_tests (ties q k) (p q) (Some v) (get whole q) (λ e. test_tied p q k e ∙ h)
      ∙ ap (λ o. cond (p q) o None) (sym (get_put whole k v q))

  cut_here : (k : List ℕ) → p k ≡ true → Shows p (remove whole k) (remove part k)
  cut_here k h q =
      get_cut part k q ∙ ap (cond (ties q k) None) (shows q)
      ∙ two_tests (ties q k) (p q) None (get whole q) (λ e. test_tied p q k e ∙ h)
      ∙ ap (λ o. cond (p q) o None) (sym (get_cut whole k q))

  put_elsewhere : (k v : List ℕ) → p k ≡ false → Shows p (insert whole k v) part
  put_elsewhere k v h q =
      shows q ∙ two_apart (ties q k) (p q) (Some v) (get whole q) (λ e. test_tied p q k e ∙ h)
      ∙ ap (λ o. cond (p q) o None) (sym (get_put whole k v q))

  cut_elsewhere : (k : List ℕ) → p k ≡ false → Shows p (remove whole k) part
  cut_elsewhere k h q =
      shows q ∙ two_apart (ties q k) (p q) None (get whole q) (λ e. test_tied p q k e ∙ h)
      ∙ ap (λ o. cond (p q) o None) (sym (get_cut whole k q))

  -- a call whose key passes the test has the same reply from the part as from the whole map
  pub reply_here : (c : Call) → p (key_of c) ≡ true → reply part c ≡ reply whole c
  reply_here (Search k) h = ap found (here k h)
  reply_here (Insert k v) h = ap (λ o. cond (is_some o) Exists Inserted) (here k h)
  reply_here (Delete k) h = ap (λ o. cond (is_some o) Deleted Absent) (here k h)
  reply_here (Replace k v) h = ap (λ o. cond (is_some o) Replaced Absent) (here k h)

either : (p : List ℕ → Bool) (b d : Bool) (a x u v : Records) → d ≡ b → Shows p a u → Shows p x v →
    Shows p (cond b a x) (cond d u v)
either p true d a x u v e h g = subst (λ t. Shows p a (cond t u v)) (sym e) h
either p false d a x u v e h g = subst (λ t. Shows p x (cond t u v)) (sym e) g

same_part : (p : List ℕ → Bool) (b : Bool) (a x u : Records) → Shows p a u → Shows p x u → Shows p (cond b a x) u
same_part p true a x u h g = h
same_part p false a x u h g = g

-- a call whose key passes the test, made on both, leaves the part that of the whole map
pub after_here : (p : List ℕ → Bool) (whole part : Records) → Shows p whole part → (c : Call) → p (key_of c) ≡ true →
    Shows p (after whole c) (after part c)
after_here p w u s (Search k) h = s
after_here p w u s (Insert k v) h =
    either p (contains_key w k) (contains_key u k) w (insert w k v) u (insert u k v) (ap is_some (here p w u s k h)) s
    (put_here p w u s k v h)
after_here p w u s (Delete k) h =
    either p (contains_key w k) (contains_key u k) (remove w k) w (remove u k) u (ap is_some (here p w u s k h))
    (cut_here p w u s k h) s
after_here p w u s (Replace k v) h =
    either p (contains_key w k) (contains_key u k) (insert w k v) w (insert u k v) u (ap is_some (here p w u s k h))
    (put_here p w u s k v h) s

-- a call on the whole map whose key doesn't pass the test leaves the part that of the whole map
pub after_elsewhere : (p : List ℕ → Bool) (whole part : Records) → Shows p whole part → (c : Call) →
    p (key_of c) ≡ false → Shows p (after whole c) part
after_elsewhere p w u s (Search k) h = s
after_elsewhere p w u s (Insert k v) h =
    same_part p (contains_key w k) w (insert w k v) u s (put_elsewhere p w u s k v h)
after_elsewhere p w u s (Delete k) h = same_part p (contains_key w k) (remove w k) w u (cut_elsewhere p w u s k h) s
after_elsewhere p w u s (Replace k v) h =
    same_part p (contains_key w k) (insert w k v) w u (put_elsewhere p w u s k v h) s
