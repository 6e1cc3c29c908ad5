use Rattle.std.proofs.Common.{List, subst}
use Rattle.lh_bucket.specs.declared.call.Call.{Call}
use Rattle.lh_subcommands.specs.Images.{IsLedTo}
use Rattle.lh_subcommands.proofs.Building.{built_whole, built_not}
use Rattle.lh_subcommands.proofs.images.answer_build.Goals as goal

pub returns-in-Ok-write_in : goal.returns-in-Ok-write_in
returns-in-Ok-write_in g c =
    let led =
    subst (λ (calls : List Call). IsLedTo c.args.config calls c.in-Ok-file_after.listing) c.as_slice.ensures.value
    c.in-Ok-file_after.ensures in
    built_whole c.args.notation c.args.version c.args.config c.in-Ok.calls.items c.in-Ok-file_after.listing _ _ _
    c.in-Ok.ensures led
    c.in-Ok-write_in.ensures

pub returns : goal.returns
returns g c =
    let led =
    subst (λ (calls : List Call). IsLedTo c.args.config calls c.in-Ok-file_after.listing) c.as_slice.ensures.value
    c.in-Ok-file_after.ensures in
    built_not c.args.notation c.args.version c.args.config c.in-Ok.calls.items c.in-Ok-file_after.listing
    c.in-Err-write_in.fault _ _ _
    _
    c.unwritten.ensures c.in-Ok.ensures led c.in-Err-write_in.ensures
