use Rattle.std.proofs.Common.{◌≡◌, IfSome, map, subst}
use Rattle.std.specs.String.{string_bytes}
use Rattle.lh_subcommands.specs.Get.{EndsFound, found_of}
use Rattle.lh_subcommands.proofs.Getting.{with_keys, without_keys}
use Rattle.lh_subcommands.proofs.get.answer_get.Goals as goal

pub returns-in-Ok : goal.returns-in-Ok
returns-in-Ok g c =
    let same : c.as_slice.result.now ≡ c.in-Ok.keys.items = search in
    with_keys c.args.notation (map string_bytes c.args.words.now) c.in-Ok.keys.items _ _ _ _ _ c.in-Ok.ensures
    (subst
    (λ keys.
    IfSome (g.R.Read.remaining c.args.reader.now)
    (λ input.
    EndsFound c.args.notation c.get_keys.result (found_of input keys) (g.W.Write.contents c.args.writer.now)
    (g.W.Write.contents c.get_keys.new.writer))) same c.get_keys.ensures)

pub returns-in-Err : goal.returns-in-Err
returns-in-Err g c = without_keys c.args.notation (map string_bytes c.args.words.now) _ _ _ c.in-Err.ensures
