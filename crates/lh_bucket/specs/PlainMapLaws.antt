-- Laws of the plain map: a call on a part of a map is that call on the whole map
use Rattle.std.proofs.Common.{◌≡◌, ℕ, ◌&&◌, Bool, true, false, cond, List, Option, Some, None, is_some, refl, sym, ap}
use Rattle.std.proofs.Common.{◌∙◌}
use Rattle.std.specs.Ordering.{nat_cmp, eq_by_cmp}
use Rattle.std.specs.Cmp.Lexicographic.{slice_cmp, nat_list_cmp_total, texts_ties}
use Rattle.std.specs.FinMap.{get, insert, remove, retain_keys, contains_key, get-insert, get-remove, get-retain_keys}
use Rattle.std.specs.FinMap.{same_map, IsAntisymmetric, slice_cmp-IsAntisymmetric, nat_cmp-IsAntisymmetric}
use Rattle.std.proofs.lemmas.Slice.Eq.{bytes_eq-Decides}
use Rattle.lh_bucket.specs.declared.call.Call.{Call}
use Rattle.lh_bucket.specs.declared.call.Call.TheVariants.{Search, Insert, Delete, Replace}
use Rattle.lh_bucket.specs.declared.call.Reply.TheVariants.{Exists, Inserted, Deleted, Absent, Replaced}
use Rattle.lh_bucket.specs.Call.{key_of}
use Rattle.lh_bucket.specs.PlainMap.{Records, reply, after, found}

exact : IsAntisymmetric (slice_cmp nat_cmp)
exact = slice_cmp-IsAntisymmetric nat_cmp-IsAntisymmetric

pub same : (m n : Records) → ((q : List ℕ) → get m q ≡ get n q) → m ≡ n
same m n h = same_map nat_list_cmp_total exact m n h

pub get_kept : (m : Records) (p : List ℕ → Bool) (q : List ℕ) → get (retain_keys m p) q ≡ cond (p q) (get m q) None
get_kept m p q = get-retain_keys m p q (λ x h. ap p (sym (exact q x h)))

get_put : (m : Records) (k v q : List ℕ) →
    get (insert m k v) q ≡ cond (eq_by_cmp (slice_cmp nat_cmp) q k) (Some v) (get m q)
get_put m k v q = get-insert nat_list_cmp_total m k v q

get_cut : (m : Records) (k q : List ℕ) → get (remove m k) q ≡ cond (eq_by_cmp (slice_cmp nat_cmp) q k) None (get m q)
get_cut m k q = get-remove nat_list_cmp_total m k q

no_flip : ◌≡◌ {A = Bool} false true → ⊥
no_flip e = cc

equal_keys : (q k : List ℕ) → eq_by_cmp (slice_cmp nat_cmp) q k ≡ true → q ≡ k
equal_keys q k h = (bytes_eq-Decides q k).0 (texts_ties q k ∙ h)

moved_in : (b : Bool) (m n : Records) (p : List ℕ → Bool) →
    cond b (retain_keys m p) (retain_keys n p) ≡ retain_keys (cond b m n) p
moved_in true m n p = refl
moved_in false m n p = refl

either_way : {X : Type 0} (b : Bool) (x : X) → cond b x x ≡ x
either_way true x = refl
either_way false x = refl

-- the test at a key that ties with k
test_tied : (p : List ℕ → Bool) (q k : List ℕ) → eq_by_cmp (slice_cmp nat_cmp) q k ≡ true → p q ≡ p k
test_tied p q k h = ap p (equal_keys q k h)

here : (m : Records) (p : List ℕ → Bool) (k : List ℕ) → p k ≡ true → get (retain_keys m p) k ≡ get m k
here m p k h = get_kept m p k ∙ ap (λ b. cond b (get m k) None) h

two_tests : {X : Type 0} (t b : Bool) (w o : Option X) → (t ≡ true → b ≡ true) →
    cond t w (cond b o None) ≡ cond b (cond t w o) None
two_tests true true w o h = refl
two_tests true false w o h = absurd (no_flip (h refl))
two_tests false true w o h = refl
two_tests false false w o h = refl

two_apart : {X : Type 0} (t b : Bool) (w o : Option X) → (t ≡ true → b ≡ false) →
    cond b (cond t w o) None ≡ cond b o None
two_apart true true w o h = absurd (no_flip (sym (h refl)))
two_apart true false w o h = refl
two_apart false true w o h = refl
two_apart false false w o h = refl

-- a change at k, seen in the part where k is
put_here : (m : Records) (p : List ℕ → Bool) (k v : List ℕ) → p k ≡ true →
    insert (retain_keys m p) k v ≡ retain_keys (insert m k v) p
put_here m p k v h = same _ _ (λ q.
    get_put (retain_keys m p) k v q ∙ ap (cond (eq_by_cmp (slice_cmp nat_cmp) q k) (Some v)) (get_kept m p q)
    ∙ two_tests (eq_by_cmp (slice_cmp nat_cmp) q k) (p q) (Some v) (get m q) (λ e. test_tied p q k e ∙ h)
    ∙ sym (get_kept (insert m k v) p q ∙ ap (λ o. cond (p q) o None) (get_put m k v q)))

cut_here : (m : Records) (p : List ℕ → Bool) (k : List ℕ) → p k ≡ true →
    remove (retain_keys m p) k ≡ retain_keys (remove m k) p
cut_here m p k h = same _ _ (λ q.
    get_cut (retain_keys m p) k q ∙ ap (cond (eq_by_cmp (slice_cmp nat_cmp) q k) None) (get_kept m p q)
    ∙ two_tests (eq_by_cmp (slice_cmp nat_cmp) q k) (p q) None (get m q) (λ e. test_tied p q k e ∙ h)
    ∙ sym (get_kept (remove m k) p q ∙ ap (λ o. cond (p q) o None) (get_cut m k q)))

-- and in a part where it is not
put_elsewhere : (m : Records) (p : List ℕ → Bool) (k v : List ℕ) → p k ≡ false →
    retain_keys (insert m k v) p ≡ retain_keys m p
put_elsewhere m p k v h = same _ _ (λ q.
    get_kept (insert m k v) p q ∙ ap (λ o. cond (p q) o None) (get_put m k v q)
    ∙ two_apart (eq_by_cmp (slice_cmp nat_cmp) q k) (p q) (Some v) (get m q) (λ e. test_tied p q k e ∙ h)
    ∙ sym (get_kept m p q))

cut_elsewhere : (m : Records) (p : List ℕ → Bool) (k : List ℕ) → p k ≡ false →
    retain_keys (remove m k) p ≡ retain_keys m p
cut_elsewhere m p k h = same _ _ (λ q.
    get_kept (remove m k) p q ∙ ap (λ o. cond (p q) o None) (get_cut m k q)
    ∙ two_apart (eq_by_cmp (slice_cmp nat_cmp) q k) (p q) None (get m q) (λ e. test_tied p q k e ∙ h)
    ∙ sym (get_kept m p q))

pub reply_here : (m : Records) (p : List ℕ → Bool) (c : Call) → p (key_of c) ≡ true →
    reply (retain_keys m p) c ≡ reply m c
reply_here m p (Search k) h = ap found (here m p k h)
reply_here m p (Insert k v) h = ap (λ o. cond (is_some o) Exists Inserted) (here m p k h)
reply_here m p (Delete k) h = ap (λ o. cond (is_some o) Deleted Absent) (here m p k h)
reply_here m p (Replace k v) h = ap (λ o. cond (is_some o) Replaced Absent) (here m p k h)

pub after_here : (m : Records) (p : List ℕ → Bool) (c : Call) → p (key_of c) ≡ true →
    after (retain_keys m p) c ≡ retain_keys (after m c) p
after_here m p (Search k) h = refl
after_here m p (Insert k v) h =
    ap (λ o. cond (is_some o) (retain_keys m p) (insert (retain_keys m p) k v)) (here m p k h)
    ∙ ap (cond (is_some (get m k)) (retain_keys m p)) (put_here m p k v h)
    ∙ moved_in (contains_key m k) m (insert m k v) p
after_here m p (Delete k) h =
    ap (λ o. cond (is_some o) (remove (retain_keys m p) k) (retain_keys m p)) (here m p k h)
    ∙ ap (λ r. cond (is_some (get m k)) r (retain_keys m p)) (cut_here m p k h)
    ∙ moved_in (contains_key m k) (remove m k) m p
after_here m p (Replace k v) h =
    ap (λ o. cond (is_some o) (insert (retain_keys m p) k v) (retain_keys m p)) (here m p k h)
    ∙ ap (λ r. cond (is_some (get m k)) r (retain_keys m p)) (put_here m p k v h)
    ∙ moved_in (contains_key m k) (insert m k v) m p

pub after_elsewhere : (m : Records) (p : List ℕ → Bool) (c : Call) → p (key_of c) ≡ false →
    retain_keys (after m c) p ≡ retain_keys m p
after_elsewhere m p (Search k) h = refl
after_elsewhere m p (Insert k v) h =
    sym (moved_in (contains_key m k) m (insert m k v) p)
    ∙ ap (cond (contains_key m k) (retain_keys m p)) (put_elsewhere m p k v h)
    ∙ either_way (contains_key m k) (retain_keys m p)
after_elsewhere m p (Delete k) h =
    sym (moved_in (contains_key m k) (remove m k) m p)
    ∙ ap (λ r. cond (contains_key m k) r (retain_keys m p)) (cut_elsewhere m p k h)
    ∙ either_way (contains_key m k) (retain_keys m p)
after_elsewhere m p (Replace k v) h =
    sym (moved_in (contains_key m k) (insert m k v) m p)
    ∙ ap (λ r. cond (contains_key m k) r (retain_keys m p)) (put_elsewhere m p k v h)
    ∙ either_way (contains_key m k) (retain_keys m p)

both_tests : {X : Type 0} (b d : Bool) (o : X) (z : X) → cond d (cond b o z) z ≡ cond (b && d) o z
both_tests true true o z = refl
both_tests true false o z = refl
both_tests false true o z = refl
both_tests false false o z = refl

pub kept_twice : (m : Records) (p q : List ℕ → Bool) → retain_keys (retain_keys m p) q ≡ retain_keys m (λ k. p k && q k)
kept_twice m p q = same _ _ (λ k.
    get_kept (retain_keys m p) q k ∙ ap (λ o. cond (q k) o None) (get_kept m p k)
    ∙ both_tests (p k) (q k) (get m k) None ∙ sym (get_kept m (λ k. p k && q k) k))

pub kept_alike : (m : Records) (p q : List ℕ → Bool) → ((k : List ℕ) → p k ≡ q k) → retain_keys m p ≡ retain_keys m q
kept_alike m p q h = λ i. retain_keys m (λ k. h k i)
