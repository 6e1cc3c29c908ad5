-- Records that stay are moved together at the front of their list, one record on.
use Rattle.std.proofs.Common.{◌≡◌, ◌≢◌, ℕ, ◌+◌, ◌<◌, ◌≤◌, Bool, true, false, List, length, take, get_or, set, sym}
use Rattle.std.proofs.Common.{slice_index, ap, ◌∙◌, inl, inr, arith}
use Rattle.std.specs.List.{filter}
use Rattle.std.proofs.lemmas.Bool.{cases_eq}
use Rattle.std.proofs.lemmas.List.{get_or-set_other, length-set, take_more_set}
use Rattle.lh_page.specs.declared.pair.Pair.{Pair}
use Rattle.lh_page.specs.Mark.{mark_of}
use Rattle.lh_page.specs.Marks.{marked_room, IsMarkedAt}
use Rattle.lh_page.specs.Records.{no_pair, key_at}
use Rattle.lh_page.proofs.Parts.{filter_taken, filter_left}

-- of the records before a place those that stay stand at the front, and the others from there on are as they were
pub record IsMoved (test : Pair → Bool) (old now : List Pair) (marks : List ℕ) (kept place : ℕ) : Type 0 where
  pub few : kept ≤ place
  pub long : length now ≡ length old
  pub front : take kept now ≡ filter test (take place old)
  pub behind : (i : ℕ) → place ≤ i → get_or now i no_pair ≡ get_or old i no_pair
  pub marked : (i : ℕ) → i < marked_room → i < kept → slice_index marks i ≡ mark_of (key_at now i)
  pub unmoved : (i : ℕ) → i < marked_room → place ≤ i → i < length old → slice_index marks i ≡ mark_of (key_at old i)

-- the record at the place is moved behind those that have stayed
pub moved_on : (test : Pair → Bool) (old now new : List Pair) (marks marks' : List ℕ) (kept place : ℕ) →
    place < length old → IsMoved test old now marks kept place → test (get_or old place no_pair) ≡ true →
    new ≡ set now kept (get_or now place no_pair) → IsMarkedAt marks marks' new kept →
    IsMoved test old new marks' (kept + 1) (place + 1)
moved_on test old now new marks marks' kept place within h stays is at =
    let x = get_or old place no_pair in
    let few : kept ≤ place = h.few in
    let room : kept < length now = omega (arith, h.long) in
    let moved : new ≡ set now kept x = is ∙ ap (set now kept) (h.behind place (omega arith)) in
    let long : length new ≡ length old = ap length is ∙ length-set now kept (get_or now place no_pair) ∙ h.long in
    record {
      few = omega arith;
      long = long;
      front =
          filter_taken test old place (take kept now) (take (kept + 1) new) within h.front stays
          (ap (take (kept + 1)) moved ∙ take_more_set now kept x room);
      behind = λ i behind.
          let other : i ≢ kept = omega arith in
          ap (λ (list : List Pair). get_or list i no_pair) moved
          ∙ (get_or-set_other now kept i x no_pair other ∙ h.behind i (omega arith));
      marked = λ i low below. elim (cases_eq i kept) [
        | inl here ↦ rw here (at.marked (rw here at low) (omega (arith, long)))
        | inr other ↦
            at.others i other
            ∙ (h.marked i low (omega arith)
            ∙ ap mark_of (ap (λ (p : Pair). p.key) (sym
            (ap (λ (list : List Pair). get_or list i no_pair) moved ∙ get_or-set_other now kept i x no_pair other))))
      ];
      unmoved = λ i low behind below.
          let other : i ≢ kept = omega arith in
          at.others i other ∙ h.unmoved i low (omega arith) below;
    }

-- a record that goes is passed over
pub moved_past : (test : Pair → Bool) (old now : List Pair) (marks : List ℕ) (kept place : ℕ) → place < length old →
    IsMoved test old now marks kept place → test (get_or old place no_pair) ≡ false →
    IsMoved test old now marks kept (place + 1)
moved_past test old now marks kept place within h goes = record {
  few = omega (arith, h.few);
  long = h.long;
  front = filter_left test old place (take kept now) within h.front goes;
  behind = λ i behind. h.behind i (omega arith);
  marked = h.marked;
  unmoved = λ i low behind below. h.unmoved i low (omega arith) below;
}
