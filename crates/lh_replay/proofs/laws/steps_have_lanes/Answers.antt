use Rattle.lh_replay.proofs.Meanings.{lane_law}
use Rattle.lh_replay.proofs.laws.steps_have_lanes.Goals as goal

pub returns : goal.returns
returns c = lane_law
