-- Calls one after another, with the splits that they ask for
use Rattle.std.proofs.Common.{◌≡◌, ℕ, ◌+◌, ◌-◌, ◌≤◌, Bool, true, false, cond, List, [], ◌∷◌, ◌++◌, Option}
use Rattle.std.proofs.Common.{Some, None, length, refl, sym, ap, subst, ◌∙◌, arith, length-append}
use Rattle.std.specs.Prelude.{Result, Ok, Err, OnOk, OnErr, is_err}
use Rattle.std.proofs.lemmas.Bool.{false≢true}
use Rattle.std.specs.FinMap.{get, insert, remove, contains_key, empty, len, len-empty, len-insert, len-remove}
use Rattle.std.specs.Ordering.{nat_cmp}
use Rattle.std.specs.Cmp.Lexicographic.{slice_cmp, nat_list_cmp_total}
use Rattle.lh_addr.specs.Settings.{Settings}
use Rattle.lh_bucket.specs.Bucket.{Head}
use Rattle.lh_bucket.specs.declared.call.Call.{Call}
use Rattle.lh_bucket.specs.declared.call.Call.TheVariants.{Search, Insert, Delete, Replace}
use Rattle.lh_bucket.specs.declared.call.Reply.{Reply}
use Rattle.lh_bucket.specs.declared.call.Reply.TheVariants.{Absent, Inserted, Exists, Deleted, Replaced}
use Rattle.lh_bucket.specs.Listing.{Lists, size}
use Rattle.lh_bucket.specs.PlainMap.{Records, reply, after, replies, outcome, found}
use Rattle.lh_core.specs.Opened.{IsOpenedWorld}
use Rattle.lh_core.specs.State.{State, first}
use Rattle.lh_core.specs.Kept.{IsWorld}
use Rattle.lh_core.specs.Serial.{IsAtRest, IsGivenUp, IsGrownAfter, IsServedAlone, IsServedOn, IsSerial, IsSerialFrom}
use Rattle.lh_core.specs.Serial.{HasGrown, HasRecords, grows_after, size_after, size_from, count_after}
use Rattle.lh_core.specs.World.{WorldSeen, IsPlaced, HasLevels, StandsFor}
use Rattle.lh_core.proofs.Logs.Leading.{outcome_more, replies_more, idle_filled}

-- the number of records
found_keeps : (n : ℕ) (o : Option (List ℕ)) → n ≡ count_after n (found o)
found_keeps n None = refl
found_keeps n (Some v) = refl

insert_counts : (m : Records) (k v : List ℕ) (b : Bool) → contains_key m k ≡ b →
    len (cond b m (insert m k v)) ≡ count_after (len m) (cond b Exists Inserted)
insert_counts m k v true e = refl
insert_counts m k v false e = len-insert nat_list_cmp_total m k v ∙ ap (λ b. cond b (len m) (len m + 1)) e

delete_counts : (m : Records) (k : List ℕ) (b : Bool) → contains_key m k ≡ b →
    len (cond b (remove m k) m) ≡ count_after (len m) (cond b Deleted Absent)
delete_counts m k true e = len-remove nat_list_cmp_total m k ∙ ap (λ b. cond b (len m - 1) (len m)) e
delete_counts m k false e = refl

replace_counts : (m : Records) (k v : List ℕ) (b : Bool) → contains_key m k ≡ b →
    len (cond b (insert m k v) m) ≡ count_after (len m) (cond b Replaced Absent)
replace_counts m k v true e = len-insert nat_list_cmp_total m k v ∙ ap (λ b. cond b (len m) (len m + 1)) e
replace_counts m k v false e = refl

count_is : (m : Records) (c : Call) → len (after m c) ≡ count_after (len m) (reply m c)
count_is m (Search k) = found_keeps (len m) (get m k)
count_is m (Insert k v) = insert_counts m k v (contains_key m k) refl
count_is m (Delete k) = delete_counts m k (contains_key m k) refl
count_is m (Replace k v) = replace_counts m k v (contains_key m k) refl

-- the file has grown, or memory ran out for it
pub grown_maybe : (u w : WorldSeen) (k : ℕ) (y : Reply) {T E : Type 0} (r : Result T E) (n : Bool) → IsAtRest u.state →
    true ≡ grows_after u.config k u.state.buckets y → OnOk r (HasGrown u w) → OnErr r (IsGivenUp u w) → n ≡ is_err r →
    IsGrownAfter u k y n w
grown_maybe u w k y (Ok _) n r b ok err is = record {
  same = ok.same;
  rest = ok.rest;
  size = rw (is, ← b) ok.size;
  asked = λ t. sym b;
  stands = ok.stands;
}
grown_maybe u w k y (Err _) n r b ok err is = record {
  same = err.same;
  rest = subst IsAtRest (sym err.state) r;
  size = rw is (ap (λ (a : State). a.buckets) err.state);
  asked = λ t. sym b;
  stands = err.stands;
}

-- no split was wanted
pub not_grown : (u : WorldSeen) (k : ℕ) (y : Reply) (n : Bool) → IsAtRest u.state →
    false ≡ grows_after u.config k u.state.buckets y → n ≡ false → IsGrownAfter u k y n u
not_grown u k y n r b is = record {
  same = refl;
  rest = r;
  size = rw (is, ← b);
  asked = λ t. absurd (false≢true (sym is ∙ t));
  stands = λ m s. s;
}

-- a call that was served alone, and after which the file has grown as the policy wants, is served
pub served_grown : (v u w : WorldSeen) (m : Records) (c : Call) (y x : Reply) (j k : ℕ) (n : Bool) →
    IsServedAlone v c y u → StandsFor v m → j ≡ len m → x ≡ y → k ≡ count_after j y → IsGrownAfter u k y n w →
    IsServedOn v m c x k n w
served_grown v u w m c y x j k n h stands was told count g =
    let said : y ≡ reply m c = h.replied m stands in
    let counted : k ≡ len (after m c) =
    count ∙ ap (λ i. count_after i y) was ∙ ap (count_after (len m)) said ∙ sym (count_is m c) in
    let grows : grows_after u.config k u.state.buckets y
    ≡ grows_after v.config (len (after m c)) v.state.buckets (reply m c) =
    rw (h.same, h.state, counted, said) in
    record {
      same = g.same ∙ h.same;
      rest = g.rest;
      size =
          g.size ∙ ap (λ b. cond n u.state.buckets (cond b (u.state.buckets + 1) u.state.buckets)) grows
          ∙ ap (λ (a : State). cond n a.buckets
          (cond (grows_after v.config (len (after m c)) v.state.buckets (reply m c)) (a.buckets + 1) a.buckets))
          h.state;
      asked = λ t. sym grows ∙ g.asked t;
      stands = g.stands (after m c) (h.stands m stands);
      replied = told ∙ said;
      count = counted;
    }

size_more : (s : Settings) (m : Records) (n : ℕ) (cs : List Call) (c : Call) →
    size_from s m n (cs ++ c ∷ []) ≡ size_after s (after (outcome m cs) c) (size_from s m n cs) (reply (outcome m cs) c)
size_more s m n [] c = refl
size_more s m n (d ∷ cs) c = size_more s (after m d) (size_after s (after m d) n (reply m d)) cs c

-- what calls served one after another have come to, from a world that stands for a map of n records
pub record Served (v : WorldSeen) (m : Records) (n : ℕ) (cs : List Call) (rs : List Reply) (w : WorldSeen)
    (k : ℕ) : Type 0 where
  pub same : w.config ≡ v.config
  pub replied : rs ≡ replies m cs
  pub size : w.state.buckets ≡ size_from v.config m v.state.buckets cs
  pub rest : IsAtRest w.state
  pub stands : StandsFor w (outcome m cs)
  pub count : k ≡ len (outcome m cs)
  pub few : k ≤ n + length cs
  pub unchanged : cs ≡ [] → w ≡ v

-- before the first call, a world at rest is itself what the calls have come to
pub served_none : (v : WorldSeen) (m : Records) (n : ℕ) → IsAtRest v.state → StandsFor v m → n ≡ len m →
    Served v m n [] [] v n
served_none v m n r p c = record {
  same = refl;
  replied = refl;
  size = refl;
  rest = r;
  stands = p;
  count = c;
  few = omega arith;
  unchanged = λ none. refl;
}

one_at_least : (cs : List Call) (c : Call) → cs ++ c ∷ [] ≡ [] → ⊥
one_at_least [] c e = cc
one_at_least (d ∷ cs) c e = cc

-- calls that have come to a world, and one served there that adds at most a record, have come to the next
pub served_more : (v : WorldSeen) (m : Records) (n : ℕ) (cs : List Call) (rs : List Reply) (u w : WorldSeen) (k : ℕ)
    (c : Call) (y : Reply) (j : ℕ) →
    Served v m n cs rs u k → j ≤ k + 1 → IsServedOn u (outcome m cs) c y j false w →
    Served v m n (cs ++ c ∷ []) (rs ++ y ∷ []) w j
served_more v m n cs rs u w k c y j h few d = record {
  same = d.same ∙ h.same;
  replied = ap (λ r. r ++ y ∷ []) h.replied ∙ ap (λ r. replies m cs ++ r ∷ []) d.replied ∙ sym (replies_more m cs c);
  size =
      d.size ∙ ap (λ t. size_after t (after (outcome m cs) c) u.state.buckets (reply (outcome m cs) c)) h.same
      ∙ ap (λ b. size_after v.config (after (outcome m cs) c) b (reply (outcome m cs) c)) h.size
      ∙ sym (size_more v.config m v.state.buckets cs c);
  rest = d.rest;
  stands = subst (StandsFor w) (sym (outcome_more m cs c)) d.stands;
  count = d.count ∙ ap len (sym (outcome_more m cs c));
  few = omega (arith, few, h.few, length-append cs (c ∷ []));
  unchanged = λ none. absurd (one_at_least cs c none);
}

-- calls that have come to a world were served one after another on the file that they began with
pub served_all : (v : WorldSeen) (m : Records) (n : ℕ) (cs : List Call) (rs : List Reply) (w : WorldSeen) (k : ℕ) →
    IsWorld w → Served v m n cs rs w k →
    IsSerialFrom v.config m v.state.buckets cs rs w
served_all v m n cs rs w k h d =
    let size = size_from v.config m v.state.buckets cs in
    let filled : w.state.filled ≡ size = idle_filled w.config w.state h.sound.phase d.rest.splitter ∙ d.size in
    let levels : HasLevels w.config.initial w.state.filled w.buckets =
    record { each = λ i lt. ap (λ (x : Head). x.level) (h.row.heads i lt) } in
    record {
      same = d.same;
      replied = d.replied;
      size = d.size;
      rest = d.rest;
      placed =
          subst (λ (t : Settings). IsPlaced t.initial size (outcome m cs) w.buckets) d.same
          (subst (λ n. IsPlaced w.config.initial n (outcome m cs) w.buckets) filled d.stands);
      levels =
          subst (λ (t : Settings). HasLevels t.initial size w.buckets) d.same
          (subst (λ n. HasLevels w.config.initial n w.buckets) filled levels);
    }

-- calls on the world of an empty file
pub from_first : (s : Settings) (v : WorldSeen) (cs : List Call) (rs : List Reply) (w : WorldSeen) → v.config ≡ s →
    v.state ≡ first s →
    IsSerialFrom v.config empty v.state.buckets cs rs w → IsSerial s cs rs w
from_first s v cs rs w same state h =
    subst (λ n. IsSerialFrom s empty n cs rs w) (ap (λ (a : State). a.buckets) state)
    (subst (λ (t : Settings). IsSerialFrom t empty v.state.buckets cs rs w) same h)

-- the world of an empty file is at rest, and has no records
pub first_rests : (s : Settings) (a : State) → a ≡ first s → IsAtRest a
first_rests s a h = record { workers = ap (λ (x : State). x.workers) h; splitter = ap (λ (x : State). x.splitter) h }

-- the empty map has no records
pub none_empty : 0 ≡ len {R = slice_cmp nat_cmp} (empty {X = List ℕ})
none_empty = sym (len-empty (slice_cmp nat_cmp) (List ℕ))

-- no records stand in the buckets of a world that stands for the empty map
pub no_records : (v : WorldSeen) → StandsFor v empty → HasRecords v 0
no_records v p = (empty, p, none_empty)

-- calls on the world of a listing
pub from_opened : (l : Lists) (v : WorldSeen) (m : Records) (cs : List Call) (rs : List Reply) (w : WorldSeen) →
    IsOpenedWorld l v →
    IsSerialFrom v.config m v.state.buckets cs rs w → IsSerialFrom l.config m (size l) cs rs w
from_opened l v m cs rs w opened h =
    subst (λ n. IsSerialFrom l.config m n cs rs w) (ap (λ (a : State). a.buckets) opened.state)
    (subst (λ (t : Settings). IsSerialFrom t m v.state.buckets cs rs w) opened.config h)
