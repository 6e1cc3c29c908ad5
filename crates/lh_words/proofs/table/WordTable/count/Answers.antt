use Rattle.std.proofs.Common.{arith, refl, sym, ap, ◌∙◌}
use Rattle.lh_words.specs.TableState.{TableState}
use Rattle.lh_words.specs.Plays.{Seated}
use Rattle.lh_words.specs.declared.seat_view.SeatView.{SeatView}
use Rattle.lh_words.proofs.OfWords.CountSteps.{counts_insert, counts_delete}
use Rattle.lh_words.proofs.OfWords.Fields.{has_word, with_counts-change}
use Rattle.lh_words.proofs.table.WordTable.count.Goals as goal

pub fetch_add-requires : goal.fetch_add-requires
fetch_add-requires g c = (
  c.requires.at ∙ sym (ap (λ (f : TableState). f.id) c.self.view_is),
  has_word c.self.inside c.self.invariant _ (omega arith),
  counts_insert g.M.Mode.traced c.self.inside.words.shared.key _ _ c.args.seat.now.me c.requires.live c.requires.room,
)

pub fetch_add-requires-in-Deleted : goal.fetch_add-requires-in-Deleted
fetch_add-requires-in-Deleted g c = (
  c.requires.at ∙ sym (ap (λ (f : TableState). f.id) c.self.view_is),
  has_word c.self.inside c.self.invariant _ (omega arith),
  counts_delete g.M.Mode.traced c.self.inside.words.shared.key _ _ c.args.seat.now.me c.requires.live c.requires.room,
)

pub returns-in_default : goal.returns-in_default
returns-in_default g c = let with : SeatView → Seated = λ seat. (seat, c.args.seat.now.me.1) in record {
  at = refl;
  counted =
      ap with (with_counts-change c.args.reply c.args.seat.now.me.0 c.in_default.not-Inserted c.in_default.not-Deleted);
}
