use Rattle.lh_settling.proofs.Sorting.{order_of}
use Rattle.lh_settling.proofs.laws.acts_have_an_order.Goals as goal

pub returns : goal.returns
returns c = order_of
