use Rattle.std.proofs.Common.{arith, sym, ap, ◌∙◌, subst, ◌∷◌, []}
use Rattle.atomic_table.specs.Table.{Joins}
use Rattle.lh_words.specs.TableState.{TableState}
use Rattle.lh_words.specs.Plays.{Seated}
use Rattle.lh_words.specs.Seats.{holder, with_parts}
use Rattle.lh_words.specs.Table.{IsFileTable}
use Rattle.lh_words.specs.declared.seat_view.SeatView.{SeatView}
use Rattle.lh_words.proofs.OfHistory.BucketSeats.{takes}
use Rattle.lh_words.proofs.OfWords.Fields.{has_word}
use Rattle.lh_words.proofs.table.WordTable.take_in.Goals as goal

pub join_seat-requires : goal.join_seat-requires
join_seat-requires g c = let k = c.self.inside.words.shared.key in let d = c.args.seat.now.me.0 in
    let same = ap (λ (f : TableState). f.id) c.self.view_is in (
      c.requires.at ∙ sym same,
      c.requires.there ∙ sym same,
      ap (λ (m : Seated). m.1) c.requires.bucket_seat,
      has_word c.self.inside c.self.invariant _ (omega arith),
      subst
          (λ (t : SeatView).
          Joins (IsFileTable g.M.Mode.traced k) c.args.seat.now.id d c.args.bucket_seat.id t (with_parts d t)
          (holder []))
          (sym (ap (λ (m : Seated). m.0) c.requires.bucket_seat))
          (takes g.M.Mode.traced k c.args.seat.now.id c.args.bucket_seat.id d (c.args._bucket.now ∷ [])),
    )

pub returns-clause-taken : goal.returns-clause-taken
returns-clause-taken g c =
    c.join_seat.ensures.2
    ∙ ap (λ (t : SeatView). (with_parts c.args.seat.now.me.0 t, c.args.seat.now.me.1))
    (ap (λ (m : Seated). m.0) c.requires.bucket_seat)
