use Rattle.std.proofs.Common.{arith, sym, ap, ◌∙◌}
use Rattle.lh_words.specs.TableState.{TableState}
use Rattle.lh_words.proofs.OfWords.RootSteps.{moves_pointer}
use Rattle.lh_words.proofs.OfWords.Fields.{has_word, small}
use Rattle.lh_words.proofs.table.WordTable.move_pointer.Goals as goal

pub fetch_add-requires : goal.fetch_add-requires
fetch_add-requires g c = (
  c.requires.at ∙ sym (ap (λ (f : TableState). f.id) c.self.view_is),
  has_word c.self.inside c.self.invariant _ (omega arith),
  moves_pointer g.M.Mode.traced c.self.inside.words.shared.key _ _ c.args.seat.now.me c.requires.live c.requires.right
      c.requires.moved (small c.self.inside c.self.invariant),
)
