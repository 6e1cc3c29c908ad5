use Rattle.std.proofs.Common.{arith, sym, ap, ◌∙◌}
use Rattle.lh_words.specs.TableState.{TableState}
use Rattle.lh_words.proofs.OfWords.Fields.{has_word}
use Rattle.lh_words.proofs.OfWords.RootSteps.{claims_right}
use Rattle.lh_words.proofs.table.WordTable.claim_right.Goals as goal

pub compare_exchange-requires : goal.compare_exchange-requires
compare_exchange-requires g c = (
  c.requires.at ∙ sym (ap (λ (t : TableState). t.id) c.self.view_is),
  has_word c.self.inside c.self.invariant _ (omega arith),
  claims_right g.M.Mode.traced c.self.inside.words.shared.key _ _ c.args.seat.now.me c.args.word c.new-claimed.result
      c.requires.live c.requires.even c.requires.below
      (let n = c.new-claimed.ensures in let b = c.buckets_of.ensures in let e = c.requires.even in omega arith),
)
