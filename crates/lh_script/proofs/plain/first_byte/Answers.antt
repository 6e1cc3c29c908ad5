use Rattle.std.proofs.Common.{◌∙◌, ap, drop, sym, arith}
use Rattle.lh_script.specs.PlainTexts.{characters, in_front}
use Rattle.lh_script.proofs.Characters.{escape_first, literal_first, short_escape}
use Rattle.lh_script.proofs.Splitting.{part_from}
use Rattle.lh_script.proofs.plain.first_byte.Goals as goal

pub returns-then-is_literal_byte-clause-byte : goal.returns-then-is_literal_byte-clause-byte
returns-then-is_literal_byte-clause-byte c =
    rw part_from (literal_first c.args.text.now c.requires (sym c.if-is_literal_byte.ensures))

pub returns-then-text-lt3-clause-byte : goal.returns-then-text-lt3-clause-byte
returns-then-text-lt3-clause-byte c =
    short_escape c.args.text.now c.requires (omega arith) (sym c.if-is_literal_byte.ensures)

pub returns-in_err-byte-clause-byte : goal.returns-in_err-byte-clause-byte
returns-in_err-byte-clause-byte c =
    rw c.from_residual.ensures
    (escape_first c.args.text.now (omega arith) (sym c.if-is_literal_byte.ensures)
    ∙ ap (λ b. in_front b (characters (drop 3 c.args.text.now))) (sym c.in_err-byte.ensures))

pub returns-clause-byte : goal.returns-clause-byte
returns-clause-byte c =
    rw part_from
    (escape_first c.args.text.now (omega arith) (sym c.if-is_literal_byte.ensures)
    ∙ ap (λ b. in_front b (characters (drop 3 c.args.text.now))) (sym c.in_ok-byte.ensures))
