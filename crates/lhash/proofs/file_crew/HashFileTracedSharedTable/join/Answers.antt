use Rattle.lhash.proofs.HandCalls.{joined}
use Rattle.lhash.proofs.Looking.{joined_knows, taken_kept}
use Rattle.lhash.proofs.file_crew.HashFileTracedSharedTable.join.Goals as goal

pub returns-in-Ok-clause-both : goal.returns-in-Ok-clause-both
returns-in-Ok-clause-both g c =
    joined c.hands_keep_their_shares.ensures.joined c.args.self.now.state c.args.first c.args.second c.in-Ok.joined
    c.in-Ok.ensures.united.ok

pub returns-in-Ok-clause-first_saw : goal.returns-in-Ok-clause-first_saw
returns-in-Ok-clause-first_saw g c snapshots taken saw = record {
  count = saw.count;
  each = taken_kept _ _ _ _ (joined_knows c.args.first c.args.second c.in-Ok.joined c.in-Ok.ensures.united.ok).0
      saw.each;
}

pub returns-in-Ok-clause-second_saw : goal.returns-in-Ok-clause-second_saw
returns-in-Ok-clause-second_saw g c snapshots taken saw = record {
  count = saw.count;
  each = taken_kept _ _ _ _ (joined_knows c.args.first c.args.second c.in-Ok.joined c.in-Ok.ensures.united.ok).1
      saw.each;
}
