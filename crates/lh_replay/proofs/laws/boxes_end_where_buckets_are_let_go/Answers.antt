use Rattle.lh_replay.proofs.Meanings.{reach_law}
use Rattle.lh_replay.proofs.laws.boxes_end_where_buckets_are_let_go.Goals as goal

pub returns : goal.returns
returns c = reach_law
