use Rattle.std.proofs.Common.{arith, sym, ap, ◌∙◌}
use Rattle.lh_words.specs.TableState.{TableState}
use Rattle.lh_words.proofs.OfHistory.Opening.{deals}
use Rattle.lh_words.proofs.OfWords.Fields.{has_word}
use Rattle.lh_words.proofs.table.WordTable.deal_out.Goals as goal

pub split_seat-requires : goal.split_seat-requires
split_seat-requires g c = (
  c.requires ∙ sym (ap (λ (f : TableState). f.id) c.self.view_is),
  has_word c.self.inside c.self.invariant _ (omega arith),
  deals g.M.Mode.traced c.self.inside.words.shared.key _ c.args.seat.now.me.0,
)
