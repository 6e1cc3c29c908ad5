use Rattle.std.proofs.Common.{sym}
use Rattle.lh_script.proofs.Characters.{one_more, three_more}
use Rattle.lh_script.proofs.plain.put_character.Goals as goal

pub returns-then-is_literal_byte-clause-bytes : goal.returns-then-is_literal_byte-clause-bytes
returns-then-is_literal_byte-clause-bytes c =
    one_more _ _ c.args.byte (sym c.if-is_literal_byte.ensures) c.put.ensures.bytes

pub returns-clause-bytes : goal.returns-clause-bytes
returns-clause-bytes c =
    three_more _ _ _ _ c.args.byte _ _ (sym c.if-is_literal_byte.ensures) c.put-used.ensures.bytes
    c.put-used-2.ensures.bytes c.put-2.ensures.bytes (search) (search)
