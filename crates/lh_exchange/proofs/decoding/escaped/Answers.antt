use Rattle.std.proofs.Common.{◌∙◌, ap, drop, sym, arith}
use Rattle.lh_exchange.specs.DbTexts.{byte_before, printed}
use Rattle.lh_exchange.proofs.LineCuts.{part_from}
use Rattle.lh_exchange.proofs.Printed.{escape, two_backslashes}
use Rattle.lh_exchange.proofs.decoding.escaped.Goals as goal

pub returns-then-text-eq92-clause-byte : goal.returns-then-text-eq92-clause-byte
returns-then-text-eq92-clause-byte c =
    rw part_from (two_backslashes c.args.text.now (omega arith) c.if-text-ne92.false c.if-text-eq92.true)

pub returns-in_err-byte-clause-byte : goal.returns-in_err-byte-clause-byte
returns-in_err-byte-clause-byte c =
    rw c.from_residual.ensures
    (escape c.args.text.now (omega arith) c.if-text-ne92.false c.if-text-eq92.false
    ∙ ap (λ b. byte_before b (printed (drop 3 c.args.text.now))) (sym c.in_err-byte.ensures))

pub returns-clause-byte : goal.returns-clause-byte
returns-clause-byte c =
    rw part_from
    (escape c.args.text.now (omega arith) c.if-text-ne92.false c.if-text-eq92.false
    ∙ ap (λ b. byte_before b (printed (drop 3 c.args.text.now))) (sym c.in_ok-byte.ensures))
