-- A division of a hand and a union of two keep the history
use Rattle.std.proofs.Common.{◌≡◌, ◌≢◌, ℕ, ◌+◌, ◌≤◌, false, List, [], ◌∷◌, ◌++◌, set, refl, sym, ap, ◌∙◌, subst, arith}
use mathlib.Core.Option.{some}
use lib.ListN.{get_elem?}
use Rattle.lh_addr.specs.RootWord.{buckets_of}
use Rattle.lh_bucket.specs.Bucket.{Seen}
use Rattle.lh_bucket.specs.Listing.{Lists}
use Rattle.lh_settling.specs.Settled.{map_in}
use Rattle.lh_words.specs.History.Buckets.{bit, owns, owners_in, Mirrors, IsPlacedIn}
use Rattle.lh_words.specs.History.History.{owners, moves_in, History}
use Rattle.lh_words.specs.History.Log.{left_after, stamps_in, StandsIn, Begins}
use Rattle.lh_words.specs.Rule.{Each, rights_of}
use Rattle.lh_words.specs.Seats.{holder, lessened_seat, branch_seat, joined_seats}
use Rattle.lh_words.specs.Sums.{total}
use Rattle.lh_words.specs.declared.numbers.FileWords.{FileWords}
use Rattle.lh_words.specs.declared.seat_view.SeatView.{SeatView}
use Rattle.lh_words.specs.History.LogLaws.{stamps_in-append}
use Rattle.lh_words.specs.EachLaws.{each_set, each_snoc, each_none, each_append, total-cut, total-glue, was_there}
use Rattle.lh_words.specs.SumLaws.{total-append}

-- owners of a code in two lists
pub owners_in-append : (c : ℕ) (l m : List Seen) → owners_in c (l ++ m) ≡ owners_in c l + owners_in c m
owners_in-append c l m = total-append (λ p. bit (owns c p)) l m

module _ (k : Lists) (words : FileWords) (seats : List SeatView) (id : ℕ) (d : SeatView)
    (me : get_elem? seats id ≡ some d) (o : History k words seats) where
  -- some calls go to a new hand
  pub shares : (calls : ℕ) → History k words (set seats id (lessened_seat calls d) ++ branch_seat calls d ∷ [])
  shares calls =
      let a : SeatView = lessened_seat calls d in
      let b : SeatView = branch_seat calls d in
      let S : ℕ = buckets_of words.root in
      let every =
      λ (P : SeatView → Type 0) (all : Each seats P) (l : P a) (r : P b).
      each_snoc P (set seats id a) b (each_set P seats id a all l) r in
      let moves : S + total moves_in seats ≡ S + total moves_in (set seats id a ++ b ∷ []) =
      (let c = total-cut moves_in seats id d a b me in omega arith) in
      record {
        log = o.log;
        size_is = o.size_is;
        legal = o.legal;
        stamped = every (λ u. u.view.stamps ≡ stamps_in u.entries) o.stamped (o.stamped id d me) refl;
        stand = every (λ u. Each u.entries (StandsIn o.log)) o.stand (o.stand id d me) (each_none (StandsIn o.log));
        logs = every (λ u. Each u.logs (Begins o.log)) o.logs (o.logs id d me) (each_none (Begins o.log));
        mirror =
            every (λ u. Each u.parts (Mirrors (left_after (map_in k) o.log))) o.mirror (o.mirror id d me)
            (each_none (Mirrors (left_after (map_in k) o.log)));
        one = λ c. omega (arith, total-cut (owners c) seats id d a b me, o.one c);
        placed =
            subst (λ (x : ℕ). Each (set seats id a ++ b ∷ []) (λ u. Each u.parts (IsPlacedIn k.config.initial x))) moves
            (every (λ u. Each u.parts (IsPlacedIn k.config.initial (S + total moves_in seats))) o.placed
            (o.placed id d me) (each_none (IsPlacedIn k.config.initial (S + total moves_in seats))));
        movers = every (λ u. moves_in u ≤ rights_of u.view) o.movers (o.movers id d me) (omega arith);
      }

  -- two hands become one
  pub unites : (other : ℕ) (e : SeatView) → e.moved ≡ false → other ≢ id →
      get_elem? (set seats id (joined_seats d e)) other ≡ some e
      → History k words (set (set seats id (joined_seats d e)) other (holder []))
  unites other e unmoved apart it =
      let a : SeatView = joined_seats d e in let b : SeatView = holder [] in let S : ℕ = buckets_of words.root in
      let itself : get_elem? seats other ≡ some e = was_there seats id other a e apart it in
      let every =
      λ (P : SeatView → Type 0) (all : Each seats P) (l : P a) (r : P b).
      each_set P (set seats id a) other b (each_set P seats id a all l) r in
      let moves : S + total moves_in seats ≡ S + total moves_in (set (set seats id a) other b) =
      (let c = total-glue moves_in seats id other d e a b me it in let z = ap bit unmoved in omega arith) in
      record {
        log = o.log;
        size_is = o.size_is;
        legal = o.legal;
        stamped =
            every (λ u. u.view.stamps ≡ stamps_in u.entries) o.stamped
            ((λ i. o.stamped id d me i ++ o.stamped other e itself i) ∙ sym (stamps_in-append d.entries e.entries))
            refl;
        stand =
            every (λ u. Each u.entries (StandsIn o.log)) o.stand
            (each_append (StandsIn o.log) d.entries e.entries (o.stand id d me) (o.stand other e itself))
            (each_none (StandsIn o.log));
        logs =
            every (λ u. Each u.logs (Begins o.log)) o.logs
            (each_append (Begins o.log) d.logs e.logs (o.logs id d me) (o.logs other e itself))
            (each_none (Begins o.log));
        mirror =
            every (λ u. Each u.parts (Mirrors (left_after (map_in k) o.log))) o.mirror
            (each_append (Mirrors (left_after (map_in k) o.log)) d.parts e.parts (o.mirror id d me)
            (o.mirror other e itself)) (each_none (Mirrors (left_after (map_in k) o.log)));
        one =
            λ c.
            omega (
              arith,
              total-glue (owners c) seats id other d e a b me it,
              owners_in-append c d.parts e.parts,
              o.one c,
            );
        placed =
            subst (λ (x : ℕ). Each (set (set seats id a) other b) (λ u. Each u.parts (IsPlacedIn k.config.initial x)))
            moves
            (every (λ u. Each u.parts (IsPlacedIn k.config.initial (S + total moves_in seats))) o.placed
            (each_append (IsPlacedIn k.config.initial (S + total moves_in seats)) d.parts e.parts (o.placed id d me)
            (o.placed other e itself)) (each_none (IsPlacedIn k.config.initial (S + total moves_in seats))));
        movers = every (λ u. moves_in u ≤ rights_of u.view) o.movers (o.movers id d me) (omega arith);
      }
