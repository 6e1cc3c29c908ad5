use Rattle.std.proofs.Common.{subst, sym}
use Rattle.std.specs.Str.{IsUtf8}
use Rattle.lh_page.proofs.Digits.{IsUtf8-encode_lower}
use Rattle.lh_page.proofs.texts.hexadecimal.Goals as goal

pub unreachable-requires-in-Err : goal.unreachable-requires-in-Err
unreachable-requires-in-Err c =
    c.in-Err.ensures.cases.0 (subst IsUtf8 (sym c.in-Ok.ensures.written) (IsUtf8-encode_lower c.args.bytes.now))
