use Rattle.std.proofs.Common.{◌∙◌}
use Rattle.lh_words.specs.Rule.{rights_of}
use Rattle.lh_words.proofs.OfWords.Changes.{no_right}
use Rattle.lh_words.proofs.OfWords.SingleHands.{in-one, in-none}
use Rattle.lh_words.proofs.laws.right_is_one_hands.Goals as goal

pub returns-clause-odd : goal.returns-clause-odd
returns-clause-odd c initial max words views rule odd = in-one rights_of views (rule.right ∙ odd)

pub returns-clause-even : goal.returns-clause-even
returns-clause-even c initial max words views rule even id v at =
    no_right v (in-none rights_of views (rule.right ∙ even) id v at)
