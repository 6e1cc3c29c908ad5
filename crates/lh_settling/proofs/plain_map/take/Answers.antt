use Rattle.std.proofs.Common.{◌∙◌, sym}
use Rattle.lh_settling.proofs.Tables.{get-map_of_entries, taken}
use Rattle.lh_settling.proofs.plain_map.take.Goals as goal

pub returns-clause-value : goal.returns-clause-value
returns-clause-value c = c.remove.ensures.value ∙ sym (get-map_of_entries c.args.records.now.entries c.args.key.now)

pub returns-clause-left : goal.returns-clause-left
returns-clause-left c =
    taken c.args.records.now.entries c.remove.new.self.entries c.args.key.now c.remove.result c.remove.ensures.updates.0
    c.remove.ensures.unchanged
