use Rattle.std.proofs.Common.{◌∙◌}
use Rattle.lh_words.specs.Sums.{times}
use Rattle.lh_words.specs.declared.view.View.{View}
use Rattle.lh_words.specs.SumLaws.{once-yes, once-no}
use Rattle.lh_words.proofs.OfWords.SingleHands.{in-one, in-none}
use Rattle.lh_words.proofs.laws.stamps_are_drawn_once.Goals as goal

pub returns-clause-below : goal.returns-clause-below
returns-clause-below c initial max words views rule x low =
    in-one (λ (v : View). times x v.stamps) views (rule.once x ∙ once-yes x words.stamps low)

pub returns-clause-above : goal.returns-clause-above
returns-clause-above c initial max words views rule x high =
    in-none (λ (v : View). times x v.stamps) views (rule.once x ∙ once-no x words.stamps high)
