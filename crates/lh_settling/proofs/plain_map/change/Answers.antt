use Rattle.std.proofs.Common.{rules, ◌∙◌, sym, ap, is_some}
use Rattle.lh_settling.proofs.Tables.{get-map_of_entries, inserted}
use Rattle.lh_settling.proofs.plain_map.change.Goals as goal

pub returns-in-Some-clause-found : goal.returns-in-Some-clause-found
returns-in-Some-clause-found c =
    ap is_some (c.in-Some.ensures.value ∙ sym (get-map_of_entries c.args.records.now.entries c.args.key.now))

pub returns-in-Some-clause-changed : goal.returns-in-Some-clause-changed
returns-in-Some-clause-changed c =
    inserted c.args.records.now.entries (c.get_mut.follows.lender c.args.value).entries c.args.key.now c.args.value
    ((c.get_mut.follows.holds c.args.value).3 (search rules)).0

pub returns-in-None-clause-found : goal.returns-in-None-clause-found
returns-in-None-clause-found c =
    ap is_some (c.in-None.ensures.value ∙ sym (get-map_of_entries c.args.records.now.entries c.args.key.now))
