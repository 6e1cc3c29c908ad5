use Rattle.lh_settling.proofs.Tables.{inserted}
use Rattle.lh_settling.proofs.plain_map.add.Goals as goal

pub returns : goal.returns
returns c =
    inserted c.args.records.now.entries c.insert.new.self.entries c.args.key c.args.value
    c.in_ok-insert.ensures.updates.0
