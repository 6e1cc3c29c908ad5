use Rattle.std.proofs.Common.{◌∙◌, subst}
use Rattle.lhash.specs.DrivingShards.{IsDrivenShards}
use Rattle.lhash.proofs.Driving.{unrun, undriven_memory, undriven_so, totals_told, totals_begun}
use Rattle.lhash.proofs.drive_shards.answer_drive_shards.Goals as goal

pub returns-in-Err : goal.returns-in-Err
returns-in-Err g c = unrun _ _ _ c.in-Err.status _ _ c.in-Err.ensures

pub returns-in-Err-drive_shards_with : goal.returns-in-Err-drive_shards_with
returns-in-Err-drive_shards_with g c =
    undriven_so _ _ _ c.in-Ok.calls.items c.in-Err-drive_shards_with.fault _ _ _ c.in-Ok.ensures
    c.in-Err-drive_shards_with.ensures.err c.undriven.ensures

pub returns-in_default : goal.returns-in_default
returns-in_default g c = undriven_memory _ _ _ _ _

pub returns-in-Ok-write_all : goal.returns-in-Ok-write_all
returns-in-Ok-write_all g c =
    let driven =
    subst (λ calls. IsDrivenShards c.args.config c.args.shards calls c.in-Ok-drive_shards_with.driven)
    c.as_slice-calls.ensures.value c.in-Ok-drive_shards_with.ensures.ok in
    totals_told _ _ _ c.in-Ok.calls.items _ _ _ _ c.in-Ok.ensures
    (c.in-Ok-drive_shards_with.driven, driven, c.as_bytes.ensures.value ∙ c.in-Ok-format.ensures.ok)
    c.in-Ok-write_all.ensures.ok

pub returns : goal.returns
returns g c =
    let driven =
    subst (λ calls. IsDrivenShards c.args.config c.args.shards calls c.in-Ok-drive_shards_with.driven)
    c.as_slice-calls.ensures.value c.in-Ok-drive_shards_with.ensures.ok in
    totals_begun _ _ _ c.in-Ok.calls.items _ _ _ _ c.in-Ok.ensures
    (c.in-Ok-drive_shards_with.driven, driven, c.as_bytes.ensures.value ∙ c.in-Ok-format.ensures.ok)
    c.in-Err-write_all.ensures.err
