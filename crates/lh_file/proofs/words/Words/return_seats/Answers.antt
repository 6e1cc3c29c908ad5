use Rattle.std.proofs.Common.{[], ◌∷◌, List, sym, ap, ◌∙◌, lit<}
use Rattle.std.specs.Sync.RwLock.{read_guard_value}
use Rattle.lh_bucket.specs.Bucket.{Seen}
use Rattle.lh_words.specs.Dealing.{first_bucket_of, other_buckets_of, dealt_seat}
use Rattle.lh_words.specs.Plays.{Seated}
use Rattle.lh_file.proofs.OfSnapshots.Held.{row_left}
use Rattle.lh_file.proofs.words.Words.return_seats.Goals as goal

pub return_seat-requires : goal.return_seat-requires
return_seat-requires g c =
    let first =
    ap (λ (m : Seated). first_bucket_of m.0.parts) c.loop-place.invariant.1
    ∙ ap first_bucket_of
    (row_left read_guard_value c.args.guards.now c.loop-place.place c.index-guards-place.result
    c.loop-place-test.true c.index-guards-place.is)
    ∙ ap (λ (b : Seen). b ∷ []) (sym c.deref.ensures) in
    (lit< tt, (c.loop-place.invariant.0 ∙ c.requires.at, (c.requires.brand, first)))

pub loop-place-preserved : goal.loop-place-preserved
loop-place-preserved g c = let old : Seated = c.args.seat.now.me in (
  c.return_seat.ensures.at ∙ c.loop-place.invariant.0,
  c.return_seat.ensures.left
      ∙ ap (λ (m : Seated). (dealt_seat m.0, m.1)) c.loop-place.invariant.1
      ∙ ap (λ (ps : List Seen). (record (old.0) { parts = other_buckets_of ps }, old.1))
      (row_left read_guard_value c.args.guards.now c.loop-place.place c.index-guards-place.result c.loop-place-test.true
      c.index-guards-place.is),
)
