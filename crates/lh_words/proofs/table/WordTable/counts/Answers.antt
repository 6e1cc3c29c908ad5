use Rattle.std.proofs.Common.{arith, sym, ap, ◌∙◌}
use Rattle.lh_words.specs.Plays.{Seated}
use Rattle.lh_words.specs.TableState.{TableState}
use Rattle.lh_words.proofs.OfWords.CountSteps.{loads_inserts, loads_deletes}
use Rattle.lh_words.proofs.OfWords.Fields.{has_word, still_live}
use Rattle.lh_words.proofs.table.WordTable.counts.Goals as goal

pub load-inserted-requires : goal.load-inserted-requires
load-inserted-requires g c = (
  c.requires.at ∙ sym (ap (λ (t : TableState). t.id) c.self.view_is),
  has_word c.self.inside c.self.invariant _ (omega arith),
  loads_inserts g.M.Mode.traced c.self.inside.words.shared.key _ _ c.args.seat.now.me c.requires.live,
)

pub load-deleted-requires : goal.load-deleted-requires
load-deleted-requires g c = (
  c.load-inserted.ensures.0 ∙ (c.requires.at ∙ sym (ap (λ (t : TableState). t.id) c.self.view_is)),
  has_word c.self.inside c.self.invariant _ (omega arith),
  loads_deletes g.M.Mode.traced c.self.inside.words.shared.key _ _ c.load-inserted.new.seat.me
      (still_live _ _ (ap (λ (m : Seated). m.0.view.initial) c.load-inserted.ensures.2.3) c.requires.live),
)
