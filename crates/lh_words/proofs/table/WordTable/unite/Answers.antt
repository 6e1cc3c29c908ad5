use Rattle.std.proofs.Common.{arith, sym, ap, ◌∙◌}
use Rattle.lh_words.specs.Plays.{Seated}
use Rattle.lh_words.specs.TableState.{TableState}
use Rattle.lh_words.proofs.OfWords.CountSteps.{loads_inserts}
use Rattle.lh_words.proofs.OfWords.Dividing.{joins}
use Rattle.lh_words.proofs.OfWords.Fields.{has_word, still_live}
use Rattle.lh_words.proofs.table.WordTable.unite.Goals as goal

pub join_seat-requires : goal.join_seat-requires
join_seat-requires g c = let same = ap (λ (t : TableState). t.id) c.self.view_is in (
  c.requires.first ∙ sym same,
  c.requires.second ∙ sym same,
  c.requires.free,
  has_word c.self.inside c.self.invariant _ (omega arith),
  joins g.M.Mode.traced c.self.inside.words.shared.key _ _ c.args.seat.now.me.0 c.args.other.me.0 c.requires.live
      c.requires.right c.requires.unmoved,
)

pub load-requires : goal.load-requires
load-requires g c = (
  c.join_seat.ensures.0 ∙ (c.requires.first ∙ sym (ap (λ (t : TableState). t.id) c.self.view_is)),
  has_word c.self.inside c.self.invariant _ (omega arith),
  loads_inserts g.M.Mode.traced c.self.inside.words.shared.key _ _ c.join_seat.new.seat.me
      (still_live _ _ (ap (λ (m : Seated). m.0.view.initial) c.join_seat.ensures.2) c.requires.live),
)
