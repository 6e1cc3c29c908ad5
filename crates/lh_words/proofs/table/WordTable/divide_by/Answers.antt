use Rattle.std.proofs.Common.{arith, sym, ap, ◌∙◌}
use Rattle.lh_words.specs.TableState.{TableState}
use Rattle.lh_words.proofs.OfWords.Dividing.{splits}
use Rattle.lh_words.proofs.OfWords.Fields.{has_word}
use Rattle.lh_words.proofs.table.WordTable.divide_by.Goals as goal

pub split_seat-requires : goal.split_seat-requires
split_seat-requires g c = (
  c.requires.at ∙ sym (ap (λ (f : TableState). f.id) c.self.view_is),
  has_word c.self.inside c.self.invariant _ (omega arith),
  splits g.M.Mode.traced c.self.inside.words.shared.key g.A.Amount.calls _ c.args.seat.now.me.0 c.requires.live
      c.requires.enough,
)
