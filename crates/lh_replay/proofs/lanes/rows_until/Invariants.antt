use Rattle.std.proofs.Common.{◌≡◌, ◌+◌, ◌-◌, drop}
use Rattle.lh_replay.specs.Lanes.{rows_until}
use Rattle.lh_replay.proofs.lanes.rows_until.Given as goal

abbrev pub invariant-loop-row : goal.invariant-loop-row
invariant-loop-row l =
    rows_until l.is_lock l.lane (drop l.from l.events) (drop l.from l.entries)
    ≡ rows_until l.is_lock l.lane (drop l.row l.events) (drop l.row l.entries) + (l.row - l.from)
