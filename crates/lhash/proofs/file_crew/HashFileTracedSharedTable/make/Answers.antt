use Rattle.std.proofs.Common.{refl}
use Rattle.lhash.proofs.HandCalls.{call_made}
use Rattle.lhash.proofs.file_crew.HashFileTracedSharedTable.make.Goals as goal

pub returns-in-Search-clause-made : goal.returns-in-Search-clause-made
returns-in-Search-clause-made g c =
    call_made c.hands_keep_their_shares.ensures.served c.args.self.now.state _ c.search.result c.args.hand.now
    c.search.new.hand c.search.ensures.served (c.search.ensures.entered refl)

pub returns-in-Insert-clause-made : goal.returns-in-Insert-clause-made
returns-in-Insert-clause-made g c =
    call_made c.hands_keep_their_shares.ensures.served c.args.self.now.state _ c.insert.result c.args.hand.now
    c.insert.new.hand c.insert.ensures.served (c.insert.ensures.entered refl)

pub returns-in-Delete-clause-made : goal.returns-in-Delete-clause-made
returns-in-Delete-clause-made g c =
    call_made c.hands_keep_their_shares.ensures.served c.args.self.now.state _ c.delete.result c.args.hand.now
    c.delete.new.hand c.delete.ensures.served (c.delete.ensures.entered refl)

pub returns-in-Replace-clause-made : goal.returns-in-Replace-clause-made
returns-in-Replace-clause-made g c =
    call_made c.hands_keep_their_shares.ensures.served c.args.self.now.state _ c.replace.result c.args.hand.now
    c.replace.new.hand c.replace.ensures.served (c.replace.ensures.entered refl)
