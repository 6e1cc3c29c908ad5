use Rattle.std.proofs.Common.{◌∙◌}
use Rattle.lh_subcommands.proofs.Inspecting.{unchecked, checked, check_begun}
use Rattle.lh_subcommands.proofs.images.answer_check.Goals as goal

pub returns-in-Err : goal.returns-in-Err
returns-in-Err g c = unchecked c.in-Err.fault _ _ _ c.unreadable.ensures c.in-Err.ensures.exact

pub returns-in-Ok-write_all : goal.returns-in-Ok-write_all
returns-in-Ok-write_all g c =
    checked c.in-Ok.census _ _ _ _ c.in-Ok.ensures.exact (c.as_bytes.ensures.value ∙ c.in-Ok-to_string.ensures.ok)
    c.in-Ok-write_all.ensures.ok

pub returns : goal.returns
returns g c =
    check_begun c.in-Ok.census _ _ _ _ c.in-Ok.ensures.exact (c.as_bytes.ensures.value ∙ c.in-Ok-to_string.ensures.ok)
    c.in-Err-write_all.ensures.err
