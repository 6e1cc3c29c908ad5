use Rattle.std.proofs.Common.{◌*◌, ◌+◌, ◌%◌, ◌∷◌, ◌∙◌, ap, sym}
use Rattle.std.specs.Option.{option_map}
use Rattle.lh_script.specs.Hexadecimal.{pairs}
use Rattle.lh_script.proofs.Pairs.{pair_good}
use Rattle.lh_script.proofs.Splitting.{part_from}
use Rattle.lh_script.proofs.hexadecimal.first_byte.Goals as goal

pub returns-clause-good : goal.returns-clause-good
returns-clause-good c = λ m.
    pair_good c.args.text.now c.digit_value-high.result c.digit_value-low.result c.requires
    c.digit_value-high.ensures.value c.digit_value-low.ensures.value m
    ∙ ap
    (λ behind.
    option_map (λ bytes. (16 * (c.digit_value-high.result % 16) + c.digit_value-low.result % 16) ∷ bytes)
    (pairs behind)) (sym (part_from 2 c.args.text.now))
