-- A division of a hand, a union of two, and the opening keep the rule
use Rattle.std.proofs.Common.{◌≡◌, ◌≢◌, ℕ, ◌+◌, ◌*◌, ◌<◌, ◌≤◌, ◌⊎◌, Bool, true, false, List, [], ◌∷◌, ◌++◌, length, map}
use Rattle.std.proofs.Common.{set, sym, refl, ap, ◌∙◌, subst, inl, inr, ⊎_elim, arith, length-append, replicate}
use Rattle.std.proofs.lemmas.Bool.{false≢true}
use Rattle.std.proofs.lemmas.List.{map-append}
use mathlib.Core.Option.{some}
use lib.ListN.{get_elem?}
use Rattle.atomic_table.specs.Table.{Splits, Joins, opening}
use Rattle.atomic_table.proofs.Lists.{at_map, at_set}
use Rattle.lh_addr.specs.RootWord.{buckets_of}
use Rattle.lh_bucket.specs.Listing.{Lists, size}
use Rattle.lh_words.specs.Sums.{total, times}
use Rattle.lh_words.specs.Rule.{Each, rights_of, HasLimits, IsRule, words_of}
use Rattle.lh_words.specs.Seats.{sizes_of, first_seat, holder, lessened_seat, branch_seat, joined_seats}
use Rattle.lh_words.specs.Table.{shown, IsFileTable}
use Rattle.lh_words.specs.Views.{first_view, spent, lessened, branch, joined_views}
use Rattle.lh_words.specs.declared.numbers.FileWords.{FileWords}
use Rattle.lh_words.specs.declared.offsets.TheConstants.{ROOT, WIDTH}
use Rattle.lh_words.specs.declared.seat_view.SeatView.{SeatView}
use Rattle.lh_words.specs.declared.view.View.{View}
use Rattle.lh_words.specs.SumLaws.{total-append, total-set, times-append, once-no}
use Rattle.lh_words.proofs.OfHistory.Dividing as history
use Rattle.lh_words.proofs.OfHistory.Dividing.{shares}
use Rattle.lh_words.specs.EachLaws.{map-set, each_set, each_snoc, each_one}
use Rattle.lh_words.proofs.OfWords.Changes.{limits_of, rights-none}

-- a sum over the views, after one was divided
divided : (g : View → ℕ) (l : List View) (id : ℕ) (v a b : View) → get_elem? l id ≡ some v →
    total g (set l id a ++ b ∷ []) + g v ≡ total g l + g a + g b
divided g l id v a b me = omega (arith, total-append g (set l id a) (b ∷ []), total-set g l id v a me)

-- a sum over the views, after two became one
united : (g : View → ℕ) (l : List View) (id other : ℕ) (v w a b : View) → get_elem? l id ≡ some v →
    get_elem? (set l id a) other ≡ some w → total g (set (set l id a) other b) + g v + g w ≡ total g l + g a + g b
united g l id other v w a b me it = omega (arith, total-set g l id v a me, total-set g (set l id a) other w b it)

module _ (initial max : ℕ) where
  divides : (words : FileWords) (views : List View) (id calls : ℕ) (v : View) → IsRule initial max words views →
      get_elem? views id ≡ some v → 0 < v.initial → calls ≤ v.left
      → IsRule initial max words (set views id (lessened calls v) ++ branch calls v ∷ [])
  divides words vs id calls v o me live enough =
      let has : HasLimits initial max v = limits_of initial max words vs o id v me live in
      let a : View = lessened calls v in
      let b : View = branch calls v in
      let size : ℕ = buckets_of words.root in
      let every =
      λ (P : View → Type 0) (all : Each vs P) (l : P a) (r : P b).
      each_snoc P (set vs id a) b (each_set P vs id a all l) r in
      record {
        least = o.least;
        greatest = o.greatest;
        known = every (λ u. u.known ≤ size) o.known (o.known id v me) (o.known id v me);
        right = omega (arith, divided rights_of vs id v a b me, o.right);
        exact =
            every (λ u. u.has_right ≡ true → u.known ≡ size) o.exact (o.exact id v me)
            (λ (no : false ≡ true). absurd (cc));
        limits = every (λ u. (u ≡ spent) ⊎ HasLimits initial max u) o.limits (inr has) (inr has);
        once = λ x. omega (arith, divided (λ (u : View). times x u.stamps) vs id v a b me, o.once x);
        drawn = omega (arith, divided (λ (u : View). length u.stamps) vs id v a b me, o.drawn);
        budget = omega (arith, divided (λ (u : View). u.left) vs id v a b me, o.budget);
        inserts = omega (arith, divided (λ (u : View). u.inserted) vs id v a b me, o.inserts);
        deletes = omega (arith, divided (λ (u : View). u.deleted) vs id v a b me, o.deletes);
        few = every (λ u. u.inserted + u.deleted ≤ length u.stamps) o.few (o.few id v me) (omega arith);
        floors = every (λ u. u.floor ≤ words.stamps) o.floors (o.floors id v me) (o.floors id v me);
      }

  unites : (words : FileWords) (views : List View) (id other : ℕ) (v w : View) → IsRule initial max words views →
      get_elem? views id ≡ some v → other ≢ id
      → get_elem? (set views id (joined_views v w)) other ≡ some w → 0 < v.initial → w.has_right ≡ false →
      IsRule initial max words (set (set views id (joined_views v w)) other spent)
  unites words vs id other v w o me apart it live none_there =
      let a : View = joined_views v w in let size : ℕ = buckets_of words.root in
      let itself : get_elem? vs other ≡ some w =
      ⊎_elim (λ (t : (other ≡ id) × (a ≡ w)). absurd (apart t.0))
      (λ (t : (other ≢ id) × (get_elem? vs other ≡ some w)). t.1) (at_set vs id other a w it) in
      let every =
      λ (P : View → Type 0) (all : Each vs P) (l : P a) (r : P spent).
      each_set P (set vs id a) other spent (each_set P vs id a all l) r in
      let no_right = rights-none w none_there in
      let kv = o.known id v me in
      let kw = o.known other w itself in
      let fv = o.few id v me in
      let fw = o.few other w itself in
      let len = length-append v.stamps w.stamps in record {
        least = o.least;
        greatest = o.greatest;
        known = every (λ u. u.known ≤ size) o.known (omega arith) (omega arith);
        right = omega (arith, united rights_of vs id other v w a spent me it, o.right);
        exact =
            every (λ u. u.has_right ≡ true → u.known ≡ size) o.exact (λ has. let e = o.exact id v me has in omega arith)
            (λ (no : false ≡ true). absurd (cc));
        limits =
            every (λ u. (u ≡ spent) ⊎ HasLimits initial max u) o.limits
            (inr (limits_of initial max words vs o id v me live)) (inl refl);
        once =
            λ x.
            omega (
              arith,
              united (λ (u : View). times x u.stamps) vs id other v w a spent me it,
              times-append x v.stamps w.stamps,
              o.once x,
            );
        drawn = omega (arith, united (λ (u : View). length u.stamps) vs id other v w a spent me it, o.drawn);
        budget = omega (arith, united (λ (u : View). u.left) vs id other v w a spent me it, o.budget);
        inserts = omega (arith, united (λ (u : View). u.inserted) vs id other v w a spent me it, o.inserts);
        deletes = omega (arith, united (λ (u : View). u.deleted) vs id other v w a spent me it, o.deletes);
        few = every (λ u. u.inserted + u.deleted ≤ length u.stamps) o.few (omega arith) (omega arith);
        floors =
            every (λ u. u.floor ≤ words.stamps) o.floors
            (let a = o.floors id v me in let b = o.floors other w itself in omega arith) (omega arith);
      }

module _ (traced : Bool) (k : Lists) where
  -- the rule allows to divide a hand,
  pub splits : (calls id : ℕ) (d : SeatView) → 0 < d.view.initial → calls ≤ d.view.left →
      Splits (IsFileTable traced k) id d (lessened_seat calls d) (branch_seat calls d)
  splits calls id d live enough s o me = record {
    wide = o.wide;
    rule = subst (IsRule k.config.initial k.config.max (words_of s.words))
        (sym
        (map-append shown (set s.views id (lessened_seat calls d)) (branch_seat calls d ∷ [])
        ∙ ap (λ l. l ++ branch calls d.view ∷ []) (map-set shown s.views id (lessened_seat calls d))))
        (divides k.config.initial k.config.max (words_of s.words) (map shown s.views) id calls d.view o.rule
        (at_map shown s.views id d me) live enough);
    history = λ on. shares k (words_of s.words) s.views id d me (o.history on) calls;
  }

  -- to join two,
  pub joins : (id other : ℕ) (d e : SeatView) → 0 < d.view.initial → e.view.has_right ≡ false → e.moved ≡ false →
      Joins (IsFileTable traced k) id d other e (joined_seats d e) (holder [])
  joins id other d e live none_there unmoved s o me apart it =
      let a : SeatView = joined_seats d e in
      let there : get_elem? (set (map shown s.views) id (joined_views d.view e.view)) other ≡ some e.view =
      subst (λ l. get_elem? l other ≡ some e.view) (map-set shown s.views id a)
      (at_map shown (set s.views id a) other e it) in
      record {
        wide = o.wide;
        rule = subst (IsRule k.config.initial k.config.max (words_of s.words))
            (sym
            (map-set shown (set s.views id a) other (holder [])
            ∙ ap (λ l. set l other spent) (map-set shown s.views id a)))
            (unites k.config.initial k.config.max (words_of s.words) (map shown s.views) id other d.view e.view o.rule
            (at_map shown s.views id d me) apart there live none_there);
        history = λ on. history.unites k (words_of s.words) s.views id d me (o.history on) other e unmoved apart it;
      }

-- a file's words when it is opened
opened : (k : Lists) → k.config.initial ≤ size k → size k ≤ k.config.max →
    IsRule k.config.initial k.config.max (record { root = 2 * size k; stamps = 0; inserts = 0; deletes = 0 })
    (first_view (sizes_of k) ∷ [])
opened k low high = record {
  least = omega arith;
  greatest = omega arith;
  known = each_one (λ (u : View). u.known ≤ buckets_of (2 * size k)) (first_view (sizes_of k)) (omega arith);
  right = omega arith;
  exact =
      each_one (λ (u : View). u.has_right ≡ true → u.known ≡ buckets_of (2 * size k)) (first_view (sizes_of k))
      (λ (no : false ≡ true). absurd (cc));
  limits =
      each_one (λ (u : View). (u ≡ spent) ⊎ HasLimits k.config.initial k.config.max u) (first_view (sizes_of k))
      (inr (refl, refl));
  once = λ x. sym (once-no x 0 (omega arith));
  drawn = refl;
  budget = refl;
  inserts = refl;
  deletes = refl;
  few = each_one (λ (u : View). u.inserted + u.deleted ≤ length u.stamps) (first_view (sizes_of k)) (omega arith);
  floors = each_one (λ (u : View). u.floor ≤ 0) (first_view (sizes_of k)) (omega arith);
}

-- and holds of a file that is opened
pub opens : (k : Lists) (word : ℕ) → word ≡ 2 * size k → k.config.initial ≤ size k → size k ≤ k.config.max →
    IsFileTable false k (opening (set (replicate WIDTH 0) ROOT word) [] (first_seat false k))
opens k word is low high = record {
  wide = refl;
  rule =
      subst
      (λ (n : ℕ).
      IsRule k.config.initial k.config.max (record { root = n; stamps = 0; inserts = 0; deletes = 0 })
      (first_view (sizes_of k) ∷ [])) (sym is) (opened k low high);
  history = λ on. absurd (false≢true on);
}
