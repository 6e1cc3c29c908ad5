use Rattle.lhash.proofs.Serving.{serves_replay}
use Rattle.lhash.proofs.laws.replay_is_served.Goals as goal

pub returns : goal.returns
returns c = serves_replay
