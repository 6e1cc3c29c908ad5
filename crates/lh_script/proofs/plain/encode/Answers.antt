use Rattle.std.proofs.Common.{subst, sym}
use Rattle.std.specs.Str.{IsUtf8}
use Rattle.lh_script.proofs.Characters.{characters_utf8}
use Rattle.lh_script.proofs.plain.encode.Goals as goal

pub unreachable-requires : goal.unreachable-requires
unreachable-requires c =
    c.in-Err.ensures.cases.0 (subst IsUtf8 (sym c.put_all-used.ensures.bytes) (characters_utf8 c.args.bytes.now))
