use Rattle.std.proofs.Common.{rules}
use Rattle.std.proofs.lemmas.Iterator.{YieldsList-from_map, YieldsList-from_slice, items_from_collect}
use Rattle.std.proofs.lemmas.Iterator.Consumers.{YieldsList-at, YieldsList-from_enumerate}
use Rattle.lh_settling.proofs.order.stamps.Goals as goal

-- src/order.rt:13:1
pub returns : goal.returns
returns c =
    items_from_collect _ c.collect.ensures.ran
    (YieldsList-from_map _ (λ e. (e.1.stamp, e.0))
    (YieldsList-at c.map.ensures.source (YieldsList-from_enumerate (YieldsList-from_slice c.args.acts.now (cc)) (cc)))
    c.map.ensures.closure (λ x r q k. search rules))
