-- The history outlives a step that draws no stamp
use Rattle.std.proofs.Common.{◌≡◌, ℕ, ◌+◌, ◌≤◌, true, false, List, [], ◌∷◌, ◌++◌, set, append-nil, sym, ap, ◌∙◌, subst}
use Rattle.std.proofs.Common.{arith}
use mathlib.Core.Option.{some}
use lib.ListN.{get_elem?}
use Rattle.lh_addr.specs.RootWord.{buckets_of}
use Rattle.lh_bucket.specs.Listing.{Lists}
use Rattle.lh_settling.specs.Settled.{map_in}
use Rattle.lh_words.specs.History.Buckets.{bit, Mirrors, IsPlacedIn}
use Rattle.lh_words.specs.History.History.{owners, moves_in, History}
use Rattle.lh_words.specs.History.Log.{left_after, stamps_in, StandsIn, Begins}
use Rattle.lh_words.specs.Rule.{Each, rights_of}
use Rattle.lh_words.specs.Seats.{with_view}
use Rattle.lh_words.specs.Sums.{total}
use Rattle.lh_words.specs.declared.seat_view.Entry.{Entry}
use Rattle.lh_words.specs.declared.numbers.FileWords.{FileWords}
use Rattle.lh_words.specs.declared.seat_view.SeatView.{SeatView}
use Rattle.lh_words.specs.declared.view.View.{View}
use Rattle.lh_words.specs.EachLaws.{each_set, each_snoc}
use Rattle.lh_words.specs.SumLaws.{total-set}

module _ (k : Lists) (old new : FileWords) (seats : List SeatView) (id : ℕ) (d : SeatView)
    (me : get_elem? seats id ≡ some d) (drawn : new.stamps ≡ old.stamps) where
  -- the words and a view change in what the history doesn't read, and the hand may be told of beginnings of the log
  heard : (w : View) (told : List (List Entry)) → buckets_of new.root ≡ buckets_of old.root → w.stamps ≡ d.view.stamps →
      (moves_in d ≤ rights_of d.view → moves_in d ≤ rights_of w)
      → (o : History k old seats) → Each told (Begins o.log) →
      History k new (set seats id (record d { view = w; logs = told }))
  heard w told size stamps rights o begin = let e : SeatView = record d { view = w; logs = told } in
      let sum : buckets_of old.root + total moves_in seats ≡ buckets_of new.root + total moves_in (set seats id e) =
      (let a = total-set moves_in seats id d e me in omega arith) in
      record {
        log = o.log;
        size_is = o.size_is ∙ sym drawn;
        legal = o.legal;
        stamped =
            each_set (λ (u : SeatView). u.view.stamps ≡ stamps_in u.entries) seats id e o.stamped
            (stamps ∙ o.stamped id d me);
        stand = each_set (λ (u : SeatView). Each u.entries (StandsIn o.log)) seats id e o.stand (o.stand id d me);
        logs = each_set (λ (u : SeatView). Each u.logs (Begins o.log)) seats id e o.logs begin;
        mirror =
            each_set (λ (u : SeatView). Each u.parts (Mirrors (left_after (map_in k) o.log))) seats id e o.mirror
            (o.mirror id d me);
        one = λ c. let a = total-set (owners c) seats id d e me in let b = o.one c in omega arith;
        placed = subst (λ (x : ℕ). Each (set seats id e) (λ u. Each u.parts (IsPlacedIn k.config.initial x))) sum
            (each_set
            (λ (u : SeatView).
            Each u.parts (IsPlacedIn k.config.initial (buckets_of old.root + total moves_in seats))) seats id e
            o.placed (o.placed id d me));
        movers =
            each_set (λ (u : SeatView). moves_in u ≤ rights_of u.view) seats id e o.movers (rights (o.movers id d me));
      }

  -- a step that draws no stamp and moves no pointer leaves the history as it is
  pub quiet : (w : View) → buckets_of new.root ≡ buckets_of old.root → w.stamps ≡ d.view.stamps →
      (moves_in d ≤ rights_of d.view → moves_in d ≤ rights_of w)
      → History k old seats → History k new (set seats id (with_view d w))
  quiet w size stamps rights o = heard w d.logs size stamps rights o (o.logs id d me)

  -- the hand is told of the log
  pub hears : (w : View) → buckets_of new.root ≡ buckets_of old.root → w.stamps ≡ d.view.stamps →
      (moves_in d ≤ rights_of d.view → moves_in d ≤ rights_of w)
      → (o : History k old seats) → History k new (set seats id (record d { view = w; logs = d.logs ++ o.log ∷ [] }))
  hears w size stamps rights o =
      heard w (d.logs ++ o.log ∷ []) size stamps rights o
      (each_snoc (Begins o.log) d.logs o.log (o.logs id d me) ([], append-nil o.log))

  -- the pointer goes on after the records have moved: the size is what it was with the move
  pub passes : (w : View) → buckets_of new.root ≡ buckets_of old.root + 1 → w.stamps ≡ d.view.stamps → d.moved ≡ true
      → History k old seats → History k new (set seats id (record d { view = w; moved = false }))
  passes w size stamps moved o = let e : SeatView = record d { view = w; moved = false } in
      let sum : buckets_of old.root + total moves_in seats ≡ buckets_of new.root + total moves_in (set seats id e) =
      (let a = total-set moves_in seats id d e me in let b = ap bit moved in omega arith) in
      record {
        log = o.log;
        size_is = o.size_is ∙ sym drawn;
        legal = o.legal;
        stamped =
            each_set (λ (u : SeatView). u.view.stamps ≡ stamps_in u.entries) seats id e o.stamped
            (stamps ∙ o.stamped id d me);
        stand = each_set (λ (u : SeatView). Each u.entries (StandsIn o.log)) seats id e o.stand (o.stand id d me);
        logs = each_set (λ (u : SeatView). Each u.logs (Begins o.log)) seats id e o.logs (o.logs id d me);
        mirror =
            each_set (λ (u : SeatView). Each u.parts (Mirrors (left_after (map_in k) o.log))) seats id e o.mirror
            (o.mirror id d me);
        one = λ c. let a = total-set (owners c) seats id d e me in let b = o.one c in omega arith;
        placed = subst (λ (x : ℕ). Each (set seats id e) (λ u. Each u.parts (IsPlacedIn k.config.initial x))) sum
            (each_set
            (λ (u : SeatView).
            Each u.parts (IsPlacedIn k.config.initial (buckets_of old.root + total moves_in seats))) seats id e
            o.placed (o.placed id d me));
        movers = each_set (λ (u : SeatView). moves_in u ≤ rights_of u.view) seats id e o.movers (omega arith);
      }
