use Rattle.std.proofs.Common.{arith, sym, ap, ◌∙◌}
use Rattle.lh_words.specs.TableState.{TableState}
use Rattle.lh_words.proofs.OfWords.Fields.{has_word}
use Rattle.lh_words.proofs.OfWords.RootSteps.{loads_root}
use Rattle.lh_words.proofs.table.WordTable.root_word.Goals as goal

pub load-requires : goal.load-requires
load-requires g c = (
  c.requires.at ∙ sym (ap (λ (t : TableState). t.id) c.self.view_is),
  has_word c.self.inside c.self.invariant _ (omega arith),
  loads_root g.M.Mode.traced c.self.inside.words.shared.key _ _ c.args.seat.now.me c.requires.live,
)
