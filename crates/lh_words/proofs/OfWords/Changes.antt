-- What a step may change of the words and of one hand, and that the rule outlives it
use Rattle.std.proofs.Common.{◌≡◌, ℕ, ◌+◌, ◌%◌, ◌<◌, ◌≤◌, ◌≢◌, ◌⊎◌, Bool, true, false, List, length, map, set, sym}
use Rattle.std.proofs.Common.{refl, ap, ◌∙◌, subst, inr, ⊎_elim, arith, cond, length-set, get_or-set_other}
use Rattle.std.proofs.Common.{get_or-set_same}
use mathlib.Core.Option.{some}
use lib.ListN.{get_elem?}
use Rattle.atomic_table.specs.Table.{State, keeps, stepped}
use Rattle.atomic_table.proofs.Lists.{at_map, at_set}
use Rattle.lh_addr.specs.RootWord.{buckets_of}
use Rattle.lh_bucket.specs.Listing.{Lists}
use Rattle.lh_words.specs.History.History.{History}
use Rattle.lh_words.specs.Sums.{times, once_below}
use Rattle.lh_words.specs.Rule.{rights_of, HasLimits, IsRule, words_of}
use Rattle.lh_words.specs.Table.{shown, IsFileTable}
use Rattle.lh_words.specs.Plays.{Seated}
use Rattle.lh_words.specs.Views.{spent}
use Rattle.lh_words.specs.declared.numbers.FileWords.{FileWords}
use Rattle.lh_words.specs.declared.offsets.TheConstants.{ROOT, STAMPS, INSERTS, DELETES, WIDTH}
use Rattle.lh_words.specs.declared.seat_view.SeatView.{SeatView}
use Rattle.lh_words.specs.declared.view.View.{View}
use Rattle.lh_words.specs.EachLaws.{map-set, each_set}
use Rattle.lh_words.specs.SumLaws.{total-set, terms_le}

abbrev pub Words : Type 0
Words = State (Unit {0}) SeatView

-- the words go from `old` to `new`, and one hand's view from v to w
pub record Change (initial max : ℕ) (old new : FileWords) (v w : View) : Type 0 where
  pub least : initial ≤ buckets_of new.root
  pub greatest : buckets_of new.root + new.root % 2 ≤ max
  pub rises : buckets_of old.root ≤ buckets_of new.root
  pub known : w.known ≤ buckets_of new.root
  pub right : rights_of w + old.root % 2 ≡ new.root % 2 + rights_of v
  pub exact : w.has_right ≡ true → w.known ≡ buckets_of new.root
  -- another hand's size stays, unless this one has the right
  pub alone : (buckets_of new.root ≡ buckets_of old.root) ⊎ (v.has_right ≡ true)
  pub live : 0 < v.initial
  pub limits : (w.initial ≡ v.initial) × (w.max ≡ v.max)
  pub once : (x : ℕ) → times x w.stamps + once_below x old.stamps ≡ once_below x new.stamps + times x v.stamps
  pub drawn : length w.stamps + old.stamps ≡ new.stamps + length v.stamps
  pub budget : new.stamps + w.left ≡ old.stamps + v.left
  pub inserts : w.inserted + old.inserts ≡ new.inserts + v.inserted
  pub deletes : w.deleted + old.deletes ≡ new.deletes + v.deleted
  pub few : w.inserted + w.deleted ≤ length w.stamps
  pub more : old.stamps ≤ new.stamps
  pub floor : w.floor ≤ new.stamps

-- the right as a number
pub rights-one : (v : View) → v.has_right ≡ true → rights_of v ≡ 1
rights-one v e = ap (λ b. cond b 1 0) e

-- a view that hasn't the right to split has no rights
pub rights-none : (v : View) → v.has_right ≡ false → rights_of v ≡ 0
rights-none v e = ap (λ b. cond b 1 0) e

none_left : (b : Bool) (n : ℕ) → n ≡ cond b 1 0 → n ≡ 0 → b ≡ false
none_left true n e z = absurd (omega arith)
none_left false n e z = refl

-- a view that has no rights hasn't the right to split
pub no_right : (v : View) → rights_of v ≡ 0 → v.has_right ≡ false
no_right v z = none_left v.has_right (rights_of v) refl z

module _ (initial max : ℕ) where
  -- what the rule says of a live hand's limits
  pub limits_of : (words : FileWords) (views : List View) → IsRule initial max words views → (id : ℕ) (v : View) →
      get_elem? views id ≡ some v → 0 < v.initial → HasLimits initial max v
  limits_of words views rule id v me live = ⊎_elim
      (λ (e : v ≡ spent). let z = ap (λ (u : View). u.initial) e in absurd (omega arith))
      (λ (h : HasLimits initial max v). h)
      (rule.limits id v me)

  -- a change within these bounds keeps the rule
  pub changed : (old new : FileWords) (views : List View) (id : ℕ) (v w : View) → IsRule initial max old views →
      get_elem? views id ≡ some v
      → Change initial max old new v w → IsRule initial max new (set views id w)
  changed old new views id v w rule me c = record {
    least = c.least;
    greatest = c.greatest;
    known =
        λ j u e. ⊎_elim (λ (t : (j ≡ id) × (w ≡ u)). subst (λ (z : View). z.known ≤ buckets_of new.root) t.1 c.known)
        (λ (t : (j ≢ id) × (get_elem? views j ≡ some u)).
        let low = rule.known j u t.1 in let up = c.rises in omega arith)
        (at_set views id j w u e);
    right = let a = total-set rights_of views id v w me in let b = rule.right in let r = c.right in omega arith;
    exact =
        λ j u e has.
        ⊎_elim
        (λ (t : (j ≡ id) × (w ≡ u)).
        subst (λ (z : View). z.has_right ≡ true → z.known ≡ buckets_of new.root) t.1 c.exact has)
        (λ (t : (j ≢ id) × (get_elem? views j ≡ some u)).
        ⊎_elim (λ (same : buckets_of new.root ≡ buckets_of old.root). rule.exact j u t.1 has ∙ sym same)
        (λ (mine : v.has_right ≡ true).
        let two = terms_le rights_of views id j v u t.0 me t.1 in
        let p = rights-one v mine in
        let q = rights-one u has in
        let r = rule.right in
        absurd (omega arith))
        c.alone)
        (at_set views id j w u e);
    limits = each_set (λ u. (u ≡ spent) ⊎ HasLimits initial max u) views id w rule.limits
        (let had = limits_of old views rule id v me c.live in inr (c.limits.0 ∙ had.0, c.limits.1 ∙ had.1));
    once =
        λ x.
        let a = total-set (λ (u : View). times x u.stamps) views id v w me in
        let b = rule.once x in
        let d = c.once x in
        omega arith;
    drawn =
        let a = total-set (λ (u : View). length u.stamps) views id v w me in
        let b = rule.drawn in
        let d = c.drawn in
        omega arith;
    budget =
        let a = total-set (λ (u : View). u.left) views id v w me in
        let b = rule.budget in
        let d = c.budget in
        omega arith;
    inserts =
        let a = total-set (λ (u : View). u.inserted) views id v w me in
        let b = rule.inserts in
        let d = c.inserts in
        omega arith;
    deletes =
        let a = total-set (λ (u : View). u.deleted) views id v w me in
        let b = rule.deletes in
        let d = c.deletes in
        omega arith;
    few = each_set (λ u. u.inserted + u.deleted ≤ length u.stamps) views id w rule.few c.few;
    floors =
        each_set (λ u. u.floor ≤ new.stamps) views id w
        (λ j u e. let low = rule.floors j u e in let up = c.more in omega arith) c.floor;
  }

-- one word of the table is stored, and the others stay
pub root_stored : (ws : List ℕ) (n m : ℕ) → length ws ≡ WIDTH → n ≡ m →
    words_of (set ws ROOT n) ≡ record (words_of ws) { root = m }
root_stored ws n m wide e i = record {
  root = (get_or-set_same ws ROOT n 0 (omega arith) ∙ e) i;
  stamps = get_or-set_other ws ROOT STAMPS n 0 (λ e. omega arith) i;
  inserts = get_or-set_other ws ROOT INSERTS n 0 (λ e. omega arith) i;
  deletes = get_or-set_other ws ROOT DELETES n 0 (λ e. omega arith) i;
}

-- a word that is set, by its name
pub stamps_stored : (ws : List ℕ) (n m : ℕ) → length ws ≡ WIDTH → n ≡ m →
    words_of (set ws STAMPS n) ≡ record (words_of ws) { stamps = m }
stamps_stored ws n m wide e i = record {
  root = get_or-set_other ws STAMPS ROOT n 0 (λ e. omega arith) i;
  stamps = (get_or-set_same ws STAMPS n 0 (omega arith) ∙ e) i;
  inserts = get_or-set_other ws STAMPS INSERTS n 0 (λ e. omega arith) i;
  deletes = get_or-set_other ws STAMPS DELETES n 0 (λ e. omega arith) i;
}

-- the count of inserts is stored, and the other words stay
pub inserts_stored : (ws : List ℕ) (n m : ℕ) → length ws ≡ WIDTH → n ≡ m →
    words_of (set ws INSERTS n) ≡ record (words_of ws) { inserts = m }
inserts_stored ws n m wide e i = record {
  root = get_or-set_other ws INSERTS ROOT n 0 (λ e. omega arith) i;
  stamps = get_or-set_other ws INSERTS STAMPS n 0 (λ e. omega arith) i;
  inserts = (get_or-set_same ws INSERTS n 0 (omega arith) ∙ e) i;
  deletes = get_or-set_other ws INSERTS DELETES n 0 (λ e. omega arith) i;
}

-- the same of the count of deletes
pub deletes_stored : (ws : List ℕ) (n m : ℕ) → length ws ≡ WIDTH → n ≡ m →
    words_of (set ws DELETES n) ≡ record (words_of ws) { deletes = m }
deletes_stored ws n m wide e i = record {
  root = get_or-set_other ws DELETES ROOT n 0 (λ e. omega arith) i;
  stamps = get_or-set_other ws DELETES STAMPS n 0 (λ e. omega arith) i;
  inserts = get_or-set_other ws DELETES INSERTS n 0 (λ e. omega arith) i;
  deletes = (get_or-set_same ws DELETES n 0 (omega arith) ∙ e) i;
}

-- the rule holds of a table after a step on the word i that stores n and changes one seat, where the history outlives
-- it
module _ (traced : Bool) (k : Lists) where
  -- a step that makes such a change leaves the table one of the file
  pub after_step : (s : Words) (o : IsFileTable traced k s) (i id n : ℕ) (m : Seated) (d : SeatView) (new : FileWords)
      → get_elem? s.views id ≡ some m.0 → words_of (set s.words i n) ≡ new →
      Change k.config.initial k.config.max (words_of s.words) new m.0.view d.view
      → (traced ≡ true → History k (words_of s.words) s.views → History k new (set s.views id d))
      → IsFileTable traced k (stepped s i n id m.1 d keeps)
  after_step s o i id n m d new me is c past = record {
    wide = length-set s.words i n ∙ o.wide;
    rule = subst (λ (z : FileWords). IsRule k.config.initial k.config.max z (map shown (set s.views id d))) (sym is)
        (subst (IsRule k.config.initial k.config.max new) (sym (map-set shown s.views id d))
        (changed k.config.initial k.config.max (words_of s.words) new (map shown s.views) id m.0.view d.view o.rule
        (at_map shown s.views id m.0 me) c));
    history = λ on. subst (λ (z : FileWords). History k z (set s.views id d)) (sym is) (past on (o.history on));
  }
