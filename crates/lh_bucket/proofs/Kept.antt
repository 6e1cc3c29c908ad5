-- What every bucket keeps, through a call and through a split.
use Rattle.std.proofs.Common.{◌≡◌, ℕ, ◌+◌, ◌*◌, ◌^◌, ◌<◌, ◌≤◌, Bool, true, false, cond, not, ◌⊎◌, inl, inr, ⊎_elim}
use Rattle.std.proofs.Common.{List, [], Option, Some, None, is_some, nat_eq, nat_lt, refl, sym, ap, subst, ◌∙◌, arith}
use Rattle.std.specs.Bool.{IsTrue}
use Rattle.std.specs.Ordering.{nat_cmp, eq_by_cmp}
use Rattle.std.specs.Cmp.Lexicographic.{slice_cmp, nat_list_cmp_total, texts_ties}
use Rattle.std.specs.List.{IsDistinct, filter}
use Rattle.std.specs.Str.{bytes_eq}
use Rattle.std.specs.Option.{ForSome, unwrap_or}
use Rattle.std.proofs.lemmas.List.Elements.{filter_agree}
use Rattle.std.specs.FinMap.{get, insert, remove, retain_keys, contains_key, get-insert, get-remove, get-empty}
use Rattle.std.proofs.lemmas.Bool.{false≢true}
use Rattle.std.proofs.lemmas.Bool.Decides.{nat_tests}
use Rattle.std.proofs.lemmas.Map.Views.{exact_unsigned_eq}
use Rattle.lh_addr.specs.Fnv.{code_of}
use Rattle.lh_addr.specs.Growth.{hash_at, HashRises}
use Rattle.lh_page.specs.declared.pair.Pair.{Pair}
use Rattle.lh_bucket.specs.declared.call.Call.{Call}
use Rattle.lh_bucket.specs.declared.call.Call.TheVariants.{Search, Insert, Delete, Replace}
use Rattle.lh_bucket.specs.declared.verdict.Verdict.{Verdict}
use Rattle.lh_bucket.specs.declared.verdict.Verdict.TheVariants.{Here, Next, Defect}
use Rattle.lh_bucket.specs.Call.{key_of}
use Rattle.lh_bucket.specs.PlainMap.{Records, after}
use Rattle.lh_bucket.specs.Records.{map_of}
use Rattle.lh_bucket.specs.Verdict.{verdict_of, by_level}
use Rattle.lh_bucket.specs.Leaving.{leads_to}
use Rattle.lh_bucket.specs.Bucket.{Head, HasOwnKeys, IsKept, verdict, raised_level, stays}
use Rattle.lh_bucket.specs.Laws.{HereLaw, StayLaw}
use Rattle.lh_bucket.specs.declared.call.Reply.{Reply}
use Rattle.lh_bucket.specs.Answer.{IsAnswer}
use Rattle.lh_addr.specs.Limits.{IsInitial, IsCapacity}
use Rattle.lh_bucket.proofs.MapOf.{equals, map_of-none, get-retained}

defect_here : {G : Type 0} → Defect ≡ Here → G
defect_here e = cc

next_here : {G : Type 0} {k m : ℕ} → Next k m ≡ Here → G
next_here e = cc

by_tests : (a b : Bool) (level k : ℕ) (v : Verdict) → nat_lt level k ≡ a → nat_eq level k ≡ b → (v ≡ Here → level ≡ k) →
    cond a Defect (cond b Here v) ≡ Here → level ≡ k
by_tests true b level k v p q n e = defect_here e
by_tests false true level k v p q n e = exact_unsigned_eq level k q
by_tests false false level k v p q n e = n e

by_level-Here : (initial c k : ℕ) (o : Option ℕ) → by_level initial c k o ≡ Here → o ≡ Some k
by_level-Here initial c k None e = defect_here e
by_level-Here initial c k (Some level) e =
    ap Some
    (by_tests (nat_lt level k) (nat_eq level k) level k (Next (k + 1) (hash_at initial (k + 1) c)) refl refl next_here
    e)

by_home : (t : Bool) (a b : ℕ) (v : Verdict) → nat_eq a b ≡ t → cond t v Defect ≡ Here → (a ≡ b) × (v ≡ Here)
by_home true a b v p e = (exact_unsigned_eq a b p, e)
by_home false a b v p e = defect_here e

-- what the verdict Here says
pub verdict-Here : (head : Head) (c k : ℕ) → verdict head c k ≡ Here →
    (hash_at head.initial k c ≡ head.number) × (head.level ≡ Some k)
unfolding verdict_of
verdict-Here head c k e =
    let t =
    by_home (nat_eq (hash_at head.initial k c) head.number) (hash_at head.initial k c) head.number
    (by_level head.initial c k head.level) refl e in
    (t.0, by_level-Here head.initial c k head.level t.1)

same_level : (k : ℕ) → nat_lt k k ≡ false
same_level k = grind (arith, nat_tests)

same_number : (k m : ℕ) → k ≡ m → nat_eq k m ≡ true
same_number k m e = grind (arith, nat_tests)

-- and when it is given
pub Here-verdict : (head : Head) (c k : ℕ) → hash_at head.initial k c ≡ head.number → head.level ≡ Some k →
    verdict head c k ≡ Here
unfolding verdict_of
Here-verdict head c k home level =
    rw (same_number (hash_at head.initial k c) head.number home, level, same_level k, same_number k k refl) refl

-- a key that an entry more made
more : (t : Bool) (o : Option (List ℕ)) (v : List ℕ) → is_some (cond t (Some v) o) ≡ true →
    (is_some o ≡ true) ⊎ (t ≡ true)
more true o v h = inr refl
more false o v h = inl h

less : (t : Bool) (o : Option (List ℕ)) → is_some (cond t None o) ≡ true → is_some o ≡ true
less true o h = absurd (false≢true h)
less false o h = h

exact_eq : (x y : List ℕ) → eq_by_cmp (slice_cmp nat_cmp) x y ≡ true → x ≡ y
exact_eq x y e = equals x y (texts_ties x y ∙ e)

key_inserted : (m : Records) (key value q : List ℕ) → IsTrue (contains_key (insert m key value) q) →
    (IsTrue (contains_key m q)) ⊎ (q ≡ key)
key_inserted m key value q h = ⊎_elim
    (λ (there : is_some (get m q) ≡ true). inl there)
    (λ (same : eq_by_cmp (slice_cmp nat_cmp) q key ≡ true). inr (exact_eq q key same))
    (more (eq_by_cmp (slice_cmp nat_cmp) q key) (get m q) value
    (sym (ap is_some (get-insert nat_list_cmp_total m key value q)) ∙ h))

-- the keys that a call leaves are those that were there, and perhaps its own
key_after : (m : Records) (call : Call) (q : List ℕ) → IsTrue (contains_key (after m call) q) →
    (IsTrue (contains_key m q)) ⊎ (q ≡ key_of call)
key_after m (Search key) q h = inl h
key_after m (Insert key value) q h =
    elim (contains_key m key) as (λ b. IsTrue (contains_key (cond b m (insert m key value)) q) →
    (IsTrue (contains_key m q)) ⊎ (q ≡ key)) [
      | true ↦ λ g. inl g
      | false ↦ key_inserted m key value q
    ] h
key_after m (Delete key) q h =
    elim (contains_key m key) as (λ b. IsTrue (contains_key (cond b (remove m key) m) q) →
    (IsTrue (contains_key m q)) ⊎ (q ≡ key)) [
      | true ↦
          λ g.
          inl
          (less (eq_by_cmp (slice_cmp nat_cmp) q key) (get m q)
          (sym (ap is_some (get-remove nat_list_cmp_total m key q)) ∙ g))
      | false ↦ λ g. inl g
    ] h
key_after m (Replace key value) q h =
    elim (contains_key m key) as (λ b. IsTrue (contains_key (cond b (insert m key value) m) q) →
    (IsTrue (contains_key m q)) ⊎ (q ≡ key)) [
      | true ↦ key_inserted m key value q
      | false ↦ λ g. inl g
    ] h

none_some : {G : Type 0} {k : ℕ} → None ≡ Some k → G
none_some e = cc

same_some : {j k : ℕ} → Some j ≡ Some k → j ≡ k
same_some e = cc

at_level : (head : Head) (old new : List Pair) (call : Call) (k : ℕ) (o : Option ℕ) → o ≡ Some k →
    hash_at head.initial k (code_of (key_of call)) ≡ head.number → map_of new ≡ after (map_of old) call →
    HasOwnKeys head old o → HasOwnKeys head new o
at_level head old new call k None is home left kept = none_some is
at_level head old new call k (Some level) is home left kept = (
  kept.0,
  λ q there. ⊎_elim
      (λ (before : IsTrue (contains_key (map_of old) q)). kept.1 q before)
      (λ (own : q ≡ key_of call).
      ap (λ x. hash_at head.initial level (code_of x)) own
      ∙ ap (λ i. hash_at head.initial i (code_of (key_of call))) (same_some is) ∙ home)
      (key_after (map_of old) call q (subst (λ m. IsTrue (contains_key m q)) left there)),
)

-- after a call that met the verdict Here, each key stands where it belongs
pub home_served : (head : Head) (old new : List Pair) (call : Call) (k : ℕ) →
    verdict head (code_of (key_of call)) k ≡ Here → map_of new ≡ after (map_of old) call →
    HasOwnKeys head old head.level → HasOwnKeys head new head.level
home_served head old new call k here left kept =
    let e = verdict-Here head (code_of (key_of call)) k here in
    at_level head old new call k head.level e.1 e.0 left kept

no_key : {G : Type 0} (q : List ℕ) → IsTrue (contains_key (map_of []) q) → G
no_key q h =
    absurd (false≢true
    (sym (ap (λ m. contains_key m q) map_of-none ∙ ap is_some (get-empty (slice_cmp nat_cmp) q)) ∙ h))

-- an empty bucket
pub home_none : (head : Head) (level : Option ℕ) →
    ForSome level (λ l. (l ≤ 16) × (head.number < head.initial * 2 ^ l)) → HasOwnKeys head [] level
home_none head None h = refl
home_none head (Some level) h = ((h level refl).0, λ q there. no_key q there)

retained : (t : Bool) (o : Option (List ℕ)) → is_some (cond t o None) ≡ true → (t ≡ true) × (is_some o ≡ true)
retained true o h = (refl, h)
retained false o h = absurd (false≢true h)

key_retained : (m : Records) (f : List ℕ → Bool) (q : List ℕ) → IsTrue (contains_key (retain_keys m f) q) →
    (f q ≡ true) × IsTrue (contains_key m q)
key_retained m f q h = retained (f q) (get m q) (sym (ap is_some (get-retained m f q)) ∙ h)

raised_level-is : (old : Head) (level : ℕ) → old.level ≡ Some level → raised_level old ≡ level + 1
raised_level-is old level filled = ap (λ o. unwrap_or o 0 + 1) filled

-- what stays in a split
pub home_stay : (old : Head) (ps qs : List Pair) (level : ℕ) → old.level ≡ Some level → level < 16 →
    map_of qs ≡ retain_keys (map_of ps) (stays old) → HasOwnKeys old qs (Some (raised_level old))
unfolding stays
home_stay old ps qs level filled low left = (
  rw (raised_level-is old level filled) (omega arith),
  λ q there.
      exact_unsigned_eq _ _
      (key_retained (map_of ps) (stays old) q (subst (λ m. IsTrue (contains_key m q)) left there)).0,
)

old_home : (head : Head) (ps : List Pair) (level : ℕ) (o : Option ℕ) → o ≡ Some level → HasOwnKeys head ps o →
    (q : List ℕ) → IsTrue (contains_key (map_of ps) q) → hash_at head.initial level (code_of q) ≡ head.number
old_home head ps level None is kept q there = none_some is
old_home head ps level (Some l) is kept q there =
    ap (λ i. hash_at head.initial i (code_of q)) (sym (same_some is)) ∙ kept.1 q there

clash : {G : Type 0} (a m : ℕ) → a ≡ m → not (nat_eq a m) ≡ true → G
clash a m e t = absurd (false≢true (sym (ap not (same_number a m e)) ∙ t))

gone_home : (initial level c m : ℕ) → HashRises → 1 ≤ initial → hash_at initial level c ≡ m →
    not (nat_eq (hash_at initial (level + 1) c) m) ≡ true → hash_at initial (level + 1) c ≡ m + initial * 2 ^ level
gone_home initial level c m rises some e t =
    ⊎_elim
    (λ (s : hash_at initial (level + 1) c ≡ hash_at initial level c). clash (hash_at initial (level + 1) c) m (s ∙ e) t)
    (λ (s : hash_at initial (level + 1) c ≡ hash_at initial level c + initial * 2 ^ level).
    s ∙ ap (λ x. x + initial * 2 ^ level) e)
    (rises initial level c some)

-- what goes in a split
pub home_go : (old new : Head) (ps qs : List Pair) (level : ℕ) → HashRises → 1 ≤ old.initial → old.level ≡ Some level →
    level < 16 → new.number ≡ old.number + old.initial * 2 ^ level → new.initial ≡ old.initial →
    HasOwnKeys old ps old.level → map_of qs ≡ retain_keys (map_of ps) (λ key. not (stays old key)) →
    HasOwnKeys new qs (Some (raised_level old))
unfolding stays
home_go old new ps qs level rises some filled low number initial kept left =
    let up = raised_level-is old level filled in (
      rw up (omega arith),
      λ q there.
          let gone =
          key_retained (map_of ps) (λ key. not (stays old key)) q
          (subst (λ m. IsTrue (contains_key m q)) left there) in
          ap (λ i. hash_at i (raised_level old) (code_of q)) initial ∙ ap (λ l. hash_at old.initial l (code_of q)) up
          ∙ gone_home old.initial level (code_of q) old.number rises some
          (old_home old ps level old.level filled kept q gone.1)
          (subst (λ l. not (nat_eq (hash_at old.initial l (code_of q)) old.number) ≡ true) up gone.0)
          ∙ sym number,
    )

-- an answer to a call that met the verdict Here
pub is_answer : (head : Head) (call : Call) (reply : Reply) (k : ℕ) → IsInitial head.initial → k ≤ 16 →
    verdict head (code_of (key_of call)) k ≡ Here →
    IsAnswer (record { call = call; reply = reply; bucket = head.number; level = k; initial = head.initial })
is_answer head call reply k initial low here =
    record { initial = initial; level = low; home = (verdict-Here head (code_of (key_of call)) k here).0 }

-- the test by which the keys of a split are divided
pub stays-is : (head : Head) (level : ℕ) (m n : Records) → level ≡ raised_level head →
    n ≡ retain_keys m (leads_to head.initial level head.number) → n ≡ retain_keys m (stays head)
unfolding stays
stays-is head level m n is left = left ∙ ap (λ l. retain_keys m (leads_to head.initial l head.number)) is

-- the keys of a map that don't lead to a bucket one level up are those that a split sends away from it
pub goes-is : (head : Head) (level : ℕ) (m n : Records) → level ≡ raised_level head →
    n ≡ retain_keys m (λ key. not (leads_to head.initial level head.number key)) →
    n ≡ retain_keys m (λ key. not (stays head key))
unfolding stays
goes-is head level m n is left =
    left ∙ ap (λ l. retain_keys m (λ key. not (leads_to head.initial l head.number key))) is

none_twice : IsDistinct bytes_eq []
unfolding IsDistinct
none_twice = tt

-- a bucket without records
pub kept_none : (head : Head) → IsInitial head.initial → IsCapacity head.capacity →
    ForSome head.level (λ l. (l ≤ 16) × (head.number < head.initial * 2 ^ l)) →
    IsKept (record { head = head; pairs = [] })
kept_none head initial capacity level =
    record { initial = initial; capacity = capacity; distinct = none_twice; home = home_none head head.level level }

twice : (b : Bool) → not (not b) ≡ b
twice true = refl
twice false = refl

-- the records that a split divides, in their order
pub stay_list : (head : Head) (level : ℕ) (ps qs : List Pair) → level ≡ raised_level head →
    qs ≡ filter (λ p. not (not (leads_to head.initial level head.number p.key))) ps →
    qs ≡ filter (λ p. stays head p.key) ps
unfolding stays
stay_list head level ps qs is left =
    left
    ∙ filter_agree (λ p. not (not (leads_to head.initial level head.number p.key)))
    (λ p. leads_to head.initial (raised_level head) head.number p.key)
    (λ p.
    twice (leads_to head.initial level head.number p.key)
    ∙ ap (λ l. leads_to head.initial l head.number p.key) is) ps

-- the records whose keys don't lead to a bucket one level up are those that a split sends away from it
pub go_list : (head : Head) (level : ℕ) (ps qs : List Pair) → level ≡ raised_level head →
    qs ≡ filter (λ p. not (leads_to head.initial level head.number p.key)) ps →
    qs ≡ filter (λ p. not (stays head p.key)) ps
unfolding stays
go_list head level ps qs is left =
    left
    ∙ filter_agree (λ p. not (leads_to head.initial level head.number p.key))
    (λ p. not (leads_to head.initial (raised_level head) head.number p.key))
    (λ p. ap (λ l. not (leads_to head.initial l head.number p.key)) is) ps

-- a call is at a bucket exactly where it looks for the bucket's level and its hash there is the bucket's number
pub here_law : HereLaw
here_law head c k = (verdict-Here head c k, λ own. Here-verdict head c k own.0 own.1)

-- a split leaves a key where it is exactly if its code still leads there one level up
pub stay_law : StayLaw
unfolding stays
stay_law head level key filled =
    let up = raised_level-is head level filled in (
      λ (stay : leads_to head.initial (raised_level head) head.number key ≡ true).
          ap (λ l. hash_at head.initial l (code_of key)) (sym up) ∙ exact_unsigned_eq _ _ stay,
      λ (same : hash_at head.initial (level + 1) (code_of key) ≡ head.number).
          same_number _ _ (ap (λ l. hash_at head.initial l (code_of key)) up ∙ same),
    )
