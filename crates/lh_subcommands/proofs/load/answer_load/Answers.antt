use Rattle.std.proofs.Common.{List, subst}
use Rattle.lh_bucket.specs.declared.call.Call.{Call}
use Rattle.std.specs.Prelude.{Err, Ok}
use Rattle.lh_subcommands.specs.Loading.{LoadsCalls}
use Rattle.lh_subcommands.proofs.Loading.{loaded_not, loaded_whole, not_filed, unloaded}
use Rattle.lh_subcommands.proofs.load.answer_load.Goals as goal

pub returns-in-Err : goal.returns-in-Err
returns-in-Err g c = unloaded c.args.version c.args.config _ _ _ c.in-Err.ensures

pub returns-in-Err-file_of : goal.returns-in-Err-file_of
returns-in-Err-file_of g c =
    not_filed c.args.version c.args.config _ c.in-Ok.calls _ _ c.in-Ok.ensures
    (subst (λ (calls : List Call). LoadsCalls c.args.config calls (Err c.in-Err-file_of.status))
    c.as_slice.ensures.value c.in-Err-file_of.ensures)

pub returns-in-Ok-write_in : goal.returns-in-Ok-write_in
returns-in-Ok-write_in g c =
    loaded_whole c.args.version c.args.config c.in-Ok.calls c.in-Ok-file_of.listing _ _ _ c.in-Ok.ensures
    (subst (λ (calls : List Call). LoadsCalls c.args.config calls (Ok c.in-Ok-file_of.listing))
    c.as_slice.ensures.value c.in-Ok-file_of.ensures)
    c.in-Ok-write_in.ensures

pub returns : goal.returns
returns g c =
    loaded_not c.args.version c.args.config c.in-Ok.calls c.in-Ok-file_of.listing c.in-Err-write_in.fault _ _ _ _
    c.unwritten.ensures c.in-Ok.ensures
    (subst (λ (calls : List Call). LoadsCalls c.args.config calls (Ok c.in-Ok-file_of.listing))
    c.as_slice.ensures.value c.in-Ok-file_of.ensures)
    c.in-Err-write_in.ensures
