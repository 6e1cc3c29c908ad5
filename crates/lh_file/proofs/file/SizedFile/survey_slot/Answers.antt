use Rattle.std.proofs.Common.{[], ◌∷◌, ◌++◌, List, refl, sym, ap, ◌∙◌}
use Rattle.lh_bucket.specs.Bucket.{Seen}
use Rattle.lh_file.specs.FileState.{FileState}
use Rattle.lh_file.specs.HashFile.{Shared}
use Rattle.lh_words.specs.Dealing.{dealt_seat, other_buckets_of}
use Rattle.lh_words.specs.Plays.{Seated}
use Rattle.lh_words.specs.Seats.{told_seat}
use Rattle.lh_file.proofs.OfSnapshots.Moments.{surveyed_as}
use Rattle.lh_file.proofs.file.SizedFile.survey_slot.Goals as goal

pub returns-clause-told : goal.returns-clause-told
returns-clause-told g c =
    let old : Seated = c.args.seat.now.me in
    let stamps = c.survey-stamps.result in
    let told = c.survey-stamps.ensures.told in
    let joined = c.borrow_seat.ensures.taken c.if-not-borrow_seat.false in (
      told.0,
      c.return_seat.ensures.left
          ∙ ap (λ (m : Seated). (dealt_seat m.0, m.1))
          (told.1 ∙ ap (λ (m : Seated). (told_seat stamps told.0 m.0, m.1)) joined)
          ∙ ap
          (λ (ps : List Seen). (
            record (told_seat stamps told.0 old.0) { parts = other_buckets_of (ps ++ c.args.slot.now ∷ []) },
            old.1,
          )) c.requires.bucketless
          ∙ ap (λ (ps : List Seen). (record (told_seat stamps told.0 old.0) { parts = ps }, old.1))
          (sym c.requires.bucketless),
      λ on.
          surveyed_as _ _ _ _ _ _ _ _ _ _ told.0
          (ap (λ (f : FileState). f.listing) c.words.view_is
          ∙ ap (λ (s : Shared). s.state.listing) c.self.view_is)
          refl
          (ap (λ (m : Seated). m.0.entries) joined) (ap (λ (m : Seated). m.0.logs) joined)
          (ap (λ (m : Seated). m.0.parts) joined
          ∙ ap (λ (ps : List Seen). ps ++ c.args.slot.now ∷ []) c.requires.bucketless) (told.2 on),
    )
