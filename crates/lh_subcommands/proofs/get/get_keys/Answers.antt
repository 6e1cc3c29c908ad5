use Rattle.std.proofs.Common.{◌≡◌, ◌∙◌, ◌⊎◌, ap, subst, sym}
use Rattle.std.specs.Prelude.{Err, Ok}
use Rattle.lh_image.specs.declared.fault.ImageFault.TheVariants.{Memory as NoMemory}
use Rattle.lh_subcommands.specs.Get.{found_of}
use Rattle.lh_subcommands.proofs.Getting.{found_read, unfound_read}
use Rattle.lh_subcommands.proofs.get.get_keys.Goals as goal

pub returns-in-Ok-find_all : goal.returns-in-Ok-find_all
returns-in-Ok-find_all g c =
    let same : c.as_slice.result.now ≡ c.in-Ok.bytes.items = search in
    let replies : c.as_slice-in-Ok-find_all.result.now ≡ c.in-Ok-find_all.replies.items = search in
    found_read c.args.notation c.tell_found.result _ c.in-Ok.bytes.items c.args.keys.now _ _ _ c.in-Ok.ensures
    (ap (λ b. found_of b c.args.keys.now) (sym same) ∙ c.in-Ok-find_all.ensures.ok ∙ ap (λ rs. Ok rs) (sym replies))
    c.tell_found.ensures

pub returns : goal.returns
returns g c =
    let same : c.as_slice.result.now ≡ c.in-Ok.bytes.items = search in
    unfound_read c.args.notation c.in-Err.fault c.unreadable.result c.in-Ok.bytes.items c.args.keys.now _ _
    c.in-Ok.ensures
    c.unreadable.ensures
    (subst (λ b. (c.in-Err.fault ≡ NoMemory) ⊎ (found_of b c.args.keys.now ≡ Err c.in-Err.fault)) same
    c.in-Err.ensures.err)
