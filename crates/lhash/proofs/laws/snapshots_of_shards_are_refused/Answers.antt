use Rattle.lhash.proofs.Serving.{refuses_snapshots}
use Rattle.lhash.proofs.laws.snapshots_of_shards_are_refused.Goals as goal

pub returns : goal.returns
returns c = refuses_snapshots
