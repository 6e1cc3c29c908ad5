-- A hand takes a bucket's seat in, and gives it back
use Rattle.std.proofs.Common.{◌≡◌, ◌≢◌, ℕ, ◌+◌, ◌≤◌, ◌⊎◌, inl, Bool, true, false, List, [], ◌∷◌, ◌++◌, map, length, set}
use Rattle.std.proofs.Common.{refl, sym, ap, ◌∙◌, subst, arith}
use Rattle.std.proofs.lemmas.Bool.{false≢true}
use Rattle.std.proofs.lemmas.List.{map-append}
use mathlib.Core.Option.{some}
use lib.ListN.{get_elem?}
use Rattle.atomic_table.specs.Table.{Splits, Joins}
use Rattle.atomic_table.proofs.Lists.{at_map, set_again}
use Rattle.lh_addr.specs.RootWord.{buckets_of}
use Rattle.lh_bucket.specs.Bucket.{Seen}
use Rattle.lh_bucket.specs.Listing.{Lists}
use Rattle.lh_settling.specs.Settled.{map_in}
use Rattle.lh_words.specs.History.Buckets.{owners_in, Mirrors, IsPlacedIn}
use Rattle.lh_words.specs.History.History.{owners, moves_in, History}
use Rattle.lh_words.specs.History.Log.{left_after, stamps_in, StandsIn, Begins}
use Rattle.lh_words.specs.Rule.{Each, rights_of, HasLimits, IsRule, words_of}
use Rattle.lh_words.specs.Seats.{holder, with_parts, partless, holder_of}
use Rattle.lh_words.specs.Sums.{total, times}
use Rattle.lh_words.specs.Table.{shown, IsFileTable}
use Rattle.lh_words.specs.Views.{spent}
use Rattle.lh_words.specs.declared.numbers.FileWords.{FileWords}
use Rattle.lh_words.specs.declared.seat_view.SeatView.{SeatView}
use Rattle.lh_words.specs.declared.view.View.{View}
use Rattle.lh_words.proofs.OfHistory.Dividing.{owners_in-append}
use Rattle.lh_words.specs.EachLaws.{map-set, each_set, each_snoc, each_none, each_append, total-cut, total-glue}
use Rattle.lh_words.specs.EachLaws.{was_there}
use Rattle.lh_words.specs.SumLaws.{total-append}

-- a seat that is no hand's may come
spawned : (initial max : ℕ) (words : FileWords) (vs : List View) → IsRule initial max words vs →
    IsRule initial max words (vs ++ spent ∷ [])
spawned initial max words vs o =
    let every = λ (P : View → Type 0) (all : Each vs P) (r : P spent). each_snoc P vs spent all r in record {
      least = o.least;
      greatest = o.greatest;
      known = every (λ u. u.known ≤ buckets_of words.root) o.known (omega arith);
      right = omega (arith, total-append rights_of vs (spent ∷ []), o.right);
      exact =
          every (λ u. u.has_right ≡ true → u.known ≡ buckets_of words.root) o.exact
          (λ (no : false ≡ true). absurd (false≢true no));
      limits = every (λ u. (u ≡ spent) ⊎ HasLimits initial max u) o.limits (inl refl);
      once = λ x. omega (arith, total-append (λ (u : View). times x u.stamps) vs (spent ∷ []), o.once x);
      drawn = omega (arith, total-append (λ (u : View). length u.stamps) vs (spent ∷ []), o.drawn);
      budget = omega (arith, total-append (λ (u : View). u.left) vs (spent ∷ []), o.budget);
      inserts = omega (arith, total-append (λ (u : View). u.inserted) vs (spent ∷ []), o.inserts);
      deletes = omega (arith, total-append (λ (u : View). u.deleted) vs (spent ∷ []), o.deletes);
      few = every (λ u. u.inserted + u.deleted ≤ length u.stamps) o.few (omega arith);
      floors = every (λ u. u.floor ≤ words.stamps) o.floors (omega arith);
    }

-- the rule of the words outlives a cut that leaves the hand's view
pub with_spent : (initial max : ℕ) (words : FileWords) (seats : List SeatView) (id : ℕ) (d a : SeatView)
    (ps : List Seen) → get_elem? seats id ≡ some d → a.view ≡ d.view
    → IsRule initial max words (map shown seats) →
    IsRule initial max words (map shown (set seats id a ++ holder ps ∷ []))
with_spent initial max words seats id d a ps me same rule =
    let is : map shown (set seats id a ++ holder ps ∷ []) ≡ map shown seats ++ spent ∷ [] =
    map-append shown (set seats id a) (holder ps ∷ [])
    ∙ ap (λ l. l ++ spent ∷ [])
    (map-set shown seats id a ∙ ap (λ v. set (map shown seats) id v) same
    ∙ set_again (map shown seats) id d.view (at_map shown seats id d me)) in
    subst (IsRule initial max words) (sym is) (spawned initial max words (map shown seats) rule)

module _ (k : Lists) (words : FileWords) (seats : List SeatView) (id : ℕ) (d : SeatView)
    (me : get_elem? seats id ≡ some d) (o : History k words seats) where
  -- some of the buckets stay, and the others go to a seat of their own
  pub cut_off : (low high : List Seen) → ((P : Seen → Type 0) → Each d.parts P → Each low P × Each high P) →
      ((c : ℕ) → owners_in c low + owners_in c high ≡ owners c d)
      → History k words (set seats id (record d { parts = low }) ++ holder high ∷ [])
  cut_off low high each counts =
      let a : SeatView = record d { parts = low } in
      let b : SeatView = holder high in
      let S : ℕ = buckets_of words.root in
      let every =
      λ (P : SeatView → Type 0) (all : Each seats P) (l : P a) (r : P b).
      each_snoc P (set seats id a) b (each_set P seats id a all l) r in
      let moves : S + total moves_in seats ≡ S + total moves_in (set seats id a ++ b ∷ []) =
      (let c = total-cut moves_in seats id d a b me in omega arith) in
      record {
        log = o.log;
        size_is = o.size_is;
        legal = o.legal;
        stamped = every (λ u. u.view.stamps ≡ stamps_in u.entries) o.stamped (o.stamped id d me) refl;
        stand = every (λ u. Each u.entries (StandsIn o.log)) o.stand (o.stand id d me) (each_none (StandsIn o.log));
        logs = every (λ u. Each u.logs (Begins o.log)) o.logs (o.logs id d me) (each_none (Begins o.log));
        mirror =
            let both = each (Mirrors (left_after (map_in k) o.log)) (o.mirror id d me) in
            every (λ u. Each u.parts (Mirrors (left_after (map_in k) o.log))) o.mirror both.0 both.1;
        one = λ c. omega (arith, total-cut (owners c) seats id d a b me, counts c, o.one c);
        placed =
            subst (λ (x : ℕ). Each (set seats id a ++ b ∷ []) (λ u. Each u.parts (IsPlacedIn k.config.initial x))) moves
            (let both = each (IsPlacedIn k.config.initial (S + total moves_in seats)) (o.placed id d me) in
            every (λ u. Each u.parts (IsPlacedIn k.config.initial (S + total moves_in seats))) o.placed both.0 both.1);
        movers = every (λ u. moves_in u ≤ rights_of u.view) o.movers (o.movers id d me) (omega arith);
      }

  -- a seat takes in the buckets of another that is no hand's
  taken_in : (other : ℕ) (ps : List Seen) → other ≢ id →
      get_elem? (set seats id (with_parts d (holder ps))) other ≡ some (holder ps)
      → History k words (set (set seats id (with_parts d (holder ps))) other (holder []))
  taken_in other ps apart it =
      let a : SeatView = with_parts d (holder ps) in
      let b : SeatView = holder [] in
      let t : SeatView = holder ps in
      let S : ℕ = buckets_of words.root in
      let itself : get_elem? seats other ≡ some t = was_there seats id other a t apart it in
      let every =
      λ (P : SeatView → Type 0) (all : Each seats P) (l : P a) (r : P b).
      each_set P (set seats id a) other b (each_set P seats id a all l) r in
      let moves : S + total moves_in seats ≡ S + total moves_in (set (set seats id a) other b) =
      (let c = total-glue moves_in seats id other d t a b me it in omega arith) in
      record {
        log = o.log;
        size_is = o.size_is;
        legal = o.legal;
        stamped = every (λ u. u.view.stamps ≡ stamps_in u.entries) o.stamped (o.stamped id d me) refl;
        stand = every (λ u. Each u.entries (StandsIn o.log)) o.stand (o.stand id d me) (each_none (StandsIn o.log));
        logs = every (λ u. Each u.logs (Begins o.log)) o.logs (o.logs id d me) (each_none (Begins o.log));
        mirror =
            every (λ u. Each u.parts (Mirrors (left_after (map_in k) o.log))) o.mirror
            (each_append (Mirrors (left_after (map_in k) o.log)) d.parts ps (o.mirror id d me)
            (o.mirror other t itself)) (each_none (Mirrors (left_after (map_in k) o.log)));
        one =
            λ c.
            omega (arith, total-glue (owners c) seats id other d t a b me it, owners_in-append c d.parts ps, o.one c);
        placed =
            subst (λ (x : ℕ). Each (set (set seats id a) other b) (λ u. Each u.parts (IsPlacedIn k.config.initial x)))
            moves
            (every (λ u. Each u.parts (IsPlacedIn k.config.initial (S + total moves_in seats))) o.placed
            (each_append (IsPlacedIn k.config.initial (S + total moves_in seats)) d.parts ps (o.placed id d me)
            (o.placed other t itself)) (each_none (IsPlacedIn k.config.initial (S + total moves_in seats))));
        movers = every (λ u. moves_in u ≤ rights_of u.view) o.movers (o.movers id d me) (omega arith);
      }

module _ (traced : Bool) (k : Lists) where
  -- the buckets go to a seat of their own
  pub backs : (id : ℕ) (d : SeatView) → Splits (IsFileTable traced k) id d (partless d) (holder_of d)
  backs id d s o me = record {
    wide = o.wide;
    rule = with_spent k.config.initial k.config.max (words_of s.words) s.views id d (partless d) d.parts me refl o.rule;
    history =
        λ on.
        cut_off k (words_of s.words) s.views id d me (o.history on) [] d.parts (λ P all. (each_none P, all))
        (λ c. omega arith);
  }

  -- a hand takes a bucket's seat in
  pub takes : (id other : ℕ) (d : SeatView) (ps : List Seen) →
      Joins (IsFileTable traced k) id d other (holder ps) (with_parts d (holder ps)) (holder [])
  takes id other d ps s o me apart it = let a : SeatView = with_parts d (holder ps) in
      let itself : get_elem? s.views other ≡ some (holder ps) = was_there s.views id other a (holder ps) apart it in
      let same : map shown (set (set s.views id a) other (holder [])) ≡ map shown s.views =
      map-set shown (set s.views id a) other (holder [])
      ∙ ap (λ l. set l other spent)
      (map-set shown s.views id a ∙ set_again (map shown s.views) id d.view (at_map shown s.views id d me))
      ∙ set_again (map shown s.views) other spent (at_map shown s.views other (holder ps) itself) in record {
        wide = o.wide;
        rule = subst (IsRule k.config.initial k.config.max (words_of s.words)) (sym same) o.rule;
        history = λ on. taken_in k (words_of s.words) s.views id d me (o.history on) other ps apart it;
      }
