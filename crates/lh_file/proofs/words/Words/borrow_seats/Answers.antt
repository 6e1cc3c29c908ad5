use Rattle.std.proofs.Common.{[], ◌∷◌, ◌++◌, List, map, take, ap, ◌∙◌}
use Rattle.std.specs.Sync.RwLock.{read_guard_value}
use Rattle.lh_bucket.specs.Bucket.{Seen}
use Rattle.lh_words.specs.Plays.{Seated}
use Rattle.lh_words.specs.Seats.{holder, with_parts}
use Rattle.lh_file.proofs.OfSnapshots.Held.{row_taken}
use Rattle.lh_file.proofs.words.Words.borrow_seats.Goals as goal

pub loop-place-preserved : goal.loop-place-preserved
loop-place-preserved g c =
    let guards = c.args.guards.now in
    let n = c.loop-place.place in
    let v = c.index-guards-place.result in
    let old : Seated = c.args.seat.now.me in (
      c.borrow_seat.ensures.at ∙ c.loop-place.invariant.0,
      c.borrow_seat.ensures.taken c.if-not-borrow_seat.false
          ∙ ap (λ (m : Seated). (with_parts m.0 (holder (c.deref.result.now ∷ [])), m.1)) c.loop-place.invariant.1
          ∙ ap (λ (ps : List Seen). (record (old.0) { parts = ps }, old.1))
          (ap (λ (b : Seen). take n (map read_guard_value guards) ++ b ∷ []) c.deref.ensures
          ∙ row_taken read_guard_value guards n v c.loop-place-test.true c.index-guards-place.is),
    )
