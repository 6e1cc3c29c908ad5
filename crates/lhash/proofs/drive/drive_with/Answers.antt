use Rattle.std.proofs.lemmas.Result.{IfErr-weaker, IfOk-weaker}
use Rattle.lhash.proofs.Driving.{none_taken}
use Rattle.lhash.proofs.drive.drive_with.Goals as goal

pub returns-clause-ok : goal.returns-clause-ok
returns-clause-ok g c =
    IfOk-weaker c.drive_with_snapshots.result _ _ (λ d h. h.driven) c.drive_with_snapshots.ensures.ok

pub returns-clause-err : goal.returns-clause-err
returns-clause-err g c =
    IfErr-weaker c.drive_with_snapshots.result _ _ (none_taken c.args.config) c.drive_with_snapshots.ensures.err
