use Rattle.lh_settling.proofs.Placed.{filled_placed}
use Rattle.lh_settling.proofs.laws.full_buckets_are_placed.Goals as goal

pub returns : goal.returns
returns c initial size records lists within = filled_placed initial size records lists within
