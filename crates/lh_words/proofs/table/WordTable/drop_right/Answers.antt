use Rattle.std.proofs.Common.{arith, sym, ap, ◌∙◌}
use Rattle.lh_words.specs.TableState.{TableState}
use Rattle.lh_words.proofs.OfWords.Fields.{has_word, small}
use Rattle.lh_words.proofs.OfWords.RootSteps.{drops_right}
use Rattle.lh_words.proofs.table.WordTable.drop_right.Goals as goal

pub fetch_sub-requires : goal.fetch_sub-requires
fetch_sub-requires g c = (
  c.requires.at ∙ sym (ap (λ (t : TableState). t.id) c.self.view_is),
  has_word c.self.inside c.self.invariant _ (omega arith),
  drops_right g.M.Mode.traced c.self.inside.words.shared.key _ _ c.args.seat.now.me c.requires.live c.requires.right
      c.requires.unmoved (small c.self.inside c.self.invariant),
)
