use Rattle.std.proofs.Common.{refl}
use Rattle.lhash.proofs.ShardHands.{call_made, call_refused}
use Rattle.lhash.proofs.shards_crew.ShardsTracedSharedTable.make.Goals as goal

pub returns-in-Search-clause-made : goal.returns-in-Search-clause-made
returns-in-Search-clause-made g c =
    call_made c.hands_keep_their_shares.ensures.served c.hands_keep_their_shares-2.ensures.called
    c.hands_keep_their_shares-2.ensures.same _ _ _ _ _ c.search.result c.search.ensures.of c.search.ensures.served
    (c.search.ensures.entered refl)

pub returns-in-Insert-clause-made : goal.returns-in-Insert-clause-made
returns-in-Insert-clause-made g c =
    call_made c.hands_keep_their_shares.ensures.served c.hands_keep_their_shares-2.ensures.called
    c.hands_keep_their_shares-2.ensures.same _ _ _ _ _ c.insert.result c.insert.ensures.of c.insert.ensures.served
    (c.insert.ensures.entered refl)

pub returns-in-Delete-clause-made : goal.returns-in-Delete-clause-made
returns-in-Delete-clause-made g c =
    call_made c.hands_keep_their_shares.ensures.served c.hands_keep_their_shares-2.ensures.called
    c.hands_keep_their_shares-2.ensures.same _ _ _ _ _ c.delete.result c.delete.ensures.of c.delete.ensures.served
    (c.delete.ensures.entered refl)

pub returns-in-Replace-clause-made : goal.returns-in-Replace-clause-made
returns-in-Replace-clause-made g c =
    call_made c.hands_keep_their_shares.ensures.served c.hands_keep_their_shares-2.ensures.called
    c.hands_keep_their_shares-2.ensures.same _ _ _ _ _ c.replace.result c.replace.ensures.of c.replace.ensures.served
    (c.replace.ensures.entered refl)

pub returns-in-Search-clause-err : goal.returns-in-Search-clause-err
returns-in-Search-clause-err g c =
    call_refused _ _ _ _ _ c.search.result _ _ c.requires.2 c.requires.3 c.search.ensures.served

pub returns-in-Insert-clause-err : goal.returns-in-Insert-clause-err
returns-in-Insert-clause-err g c =
    call_refused _ _ _ _ _ c.insert.result _ _ c.requires.2 c.requires.3 c.insert.ensures.served

pub returns-in-Delete-clause-err : goal.returns-in-Delete-clause-err
returns-in-Delete-clause-err g c =
    call_refused _ _ _ _ _ c.delete.result _ _ c.requires.2 c.requires.3 c.delete.ensures.served

pub returns-in-Replace-clause-err : goal.returns-in-Replace-clause-err
returns-in-Replace-clause-err g c =
    call_refused _ _ _ _ _ c.replace.result _ _ c.requires.2 c.requires.3 c.replace.ensures.served
