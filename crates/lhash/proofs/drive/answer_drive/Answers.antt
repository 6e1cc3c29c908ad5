use Rattle.std.proofs.Common.{◌∙◌, subst}
use Rattle.lhash.specs.Driving.{IsDrivenWith}
use Rattle.lhash.proofs.Driving.{unrun, undriven_memory, undriven_so, totals_told, totals_begun}
use Rattle.lhash.proofs.drive.answer_drive.Goals as goal

pub returns-in-Err : goal.returns-in-Err
returns-in-Err g c = unrun _ _ _ c.in-Err.status _ _ c.in-Err.ensures

pub returns-in-Err-drive_with_snapshots : goal.returns-in-Err-drive_with_snapshots
returns-in-Err-drive_with_snapshots g c =
    undriven_so _ _ _ c.in-Ok.calls.items c.in-Err-drive_with_snapshots.fault _ _ _
    c.in-Ok.ensures c.in-Err-drive_with_snapshots.ensures.err c.undriven.ensures

pub returns-in_default : goal.returns-in_default
returns-in_default g c = undriven_memory _ _ _ _ _

pub returns-in-Ok-write_all : goal.returns-in-Ok-write_all
returns-in-Ok-write_all g c =
    let driven =
    subst (λ calls. IsDrivenWith c.args.config calls c.args.snapshots c.in-Ok-drive_with_snapshots.driven)
    c.as_slice-calls.ensures.value c.in-Ok-drive_with_snapshots.ensures.ok in
    totals_told _ _ _ c.in-Ok.calls.items _ _ _ _ c.in-Ok.ensures
    (c.in-Ok-drive_with_snapshots.driven, driven, c.as_bytes.ensures.value ∙ c.in-Ok-format.ensures.ok)
    c.in-Ok-write_all.ensures.ok

pub returns : goal.returns
returns g c =
    let driven =
    subst (λ calls. IsDrivenWith c.args.config calls c.args.snapshots c.in-Ok-drive_with_snapshots.driven)
    c.as_slice-calls.ensures.value c.in-Ok-drive_with_snapshots.ensures.ok in
    totals_begun _ _ _ c.in-Ok.calls.items _ _ _ _ c.in-Ok.ensures
    (c.in-Ok-drive_with_snapshots.driven, driven, c.as_bytes.ensures.value ∙ c.in-Ok-format.ensures.ok)
    c.in-Err-write_all.ensures.err
