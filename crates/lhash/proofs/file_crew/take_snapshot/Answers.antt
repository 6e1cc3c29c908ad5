use Rattle.std.proofs.Common.{refl}
use Rattle.lhash.proofs.Looking.{looked_surveyed, taken_now}
use Rattle.lhash.proofs.file_crew.take_snapshot.Goals as goal

pub returns-in_err-snapshot-clause-hand : goal.returns-in_err-snapshot-clause-hand
returns-in_err-snapshot-clause-hand g c =
    looked_surveyed _ _ _ _ c.snapshot.ensures.surveyed c.snapshot.ensures.of c.await_acts.ensures

pub returns-clause-hand : goal.returns-clause-hand
returns-clause-hand g c = looked_surveyed _ _ _ _ c.snapshot.ensures.surveyed c.snapshot.ensures.of c.await_acts.ensures

pub returns-clause-taken : goal.returns-clause-taken
returns-clause-taken g c =
    let is = c.in_ok-snapshot.ensures in
    taken_now c.args.file.now.state c.await_acts.new.hand c.snapshot.new.hand c.in_ok-snapshot.field-0 is.told.0
    is.told.1 is.config is.whole.even is.told.2 (is.told.3 refl)
