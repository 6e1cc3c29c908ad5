use Rattle.std.proofs.Common.{arith, sym, ap, ◌∙◌, subst, ◌∷◌, []}
use Rattle.atomic_table.specs.Table.{Joins}
use Rattle.lh_words.specs.TableState.{TableState}
use Rattle.lh_words.specs.Plays.{Seated}
use Rattle.lh_words.specs.Seats.{holder, with_parts}
use Rattle.lh_words.specs.Table.{IsFileTable}
use Rattle.lh_words.specs.declared.seat_view.SeatView.{SeatView}
use Rattle.lh_words.proofs.OfHistory.BucketSeats.{takes, backs}
use Rattle.lh_words.proofs.OfWords.Fields.{has_word}
use Rattle.lh_words.proofs.table.WordTable.enter.Goals as goal

pub join_seat-requires : goal.join_seat-requires
join_seat-requires g c =
    let s = c.requires.serves in let k = c.self.inside.words.shared.key in let d = c.args.seat.now.me.0 in
    let same = ap (λ (f : TableState). f.id) c.self.view_is in (
      c.requires.at ∙ sym same,
      c.taken-bucket_seat.ensures.table ∙ (c.requires.there ∙ sym same),
      ap (λ (m : Seated). m.1) c.taken-bucket_seat.ensures.me,
      has_word c.self.inside c.self.invariant _ (omega arith),
      subst
          (λ (t : SeatView).
          Joins (IsFileTable g.M.Mode.traced k) c.args.seat.now.id d c.taken-bucket_seat.result.id t (with_parts d t)
          (holder [])) (sym (ap (λ (m : Seated). m.0) c.taken-bucket_seat.ensures.me ∙ s.1))
          (takes g.M.Mode.traced k c.args.seat.now.id c.taken-bucket_seat.result.id d (s.0 ∷ [])),
    )

pub split_seat-requires : goal.split_seat-requires
split_seat-requires g c = (
  c.enter_deed-stamp.ensures.at
      ∙ (c.join_seat.ensures.0 ∙ (c.requires.at ∙ sym (ap (λ (f : TableState). f.id) c.self.view_is))),
  has_word c.self.inside c.self.invariant _ (omega arith),
  backs g.M.Mode.traced c.self.inside.words.shared.key _ c.enter_deed-stamp.new.seat.me.0,
)
