use Rattle.std.proofs.Common.{◌∙◌, sym}
use Rattle.lh_settling.proofs.Tables.{get-map_of_entries}
use Rattle.lh_settling.proofs.plain_map.value_at.Goals as goal

pub returns : goal.returns
returns c = c.copied.ensures ∙ c.get.ensures.value ∙ sym (get-map_of_entries c.args.records.now.entries c.args.key.now)
