use Rattle.std.proofs.Common.{◌≡◌, ◌+◌, ◌≤◌, take}
use Rattle.std.specs.Prelude.{fold, max}
use Rattle.lh_replay.specs.Lanes.{lane_of}
use Rattle.lh_replay.proofs.lanes.lane_count.Given as goal

abbrev pub invariant-loop-event : goal.invariant-loop-event
invariant-loop-event l =
    (l.lanes ≡ fold (λ lanes event. max lanes (lane_of event + 1)) 1 (take l.event-index l.events)) × (l.lanes ≤ 257)
