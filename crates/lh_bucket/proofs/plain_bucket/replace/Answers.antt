use Rattle.std.proofs.Common.{rules, ◌∙◌, sym, ap, is_some}
use Rattle.lh_bucket.proofs.PlainBuckets.{get-pairs_of_entries, inserted}
use Rattle.lh_bucket.proofs.plain_bucket.replace.Goals as goal

pub returns-in-Some-clause-found : goal.returns-in-Some-clause-found
returns-in-Some-clause-found c =
    ap is_some (c.in-Some.ensures.value ∙ sym (get-pairs_of_entries c.args.records.now.entries c.args.key.now))

pub returns-in-Some-clause-changed : goal.returns-in-Some-clause-changed
returns-in-Some-clause-changed c =
    inserted c.args.records.now.entries (c.get_mut.follows.lender c.args.value).entries c.args.key.now c.args.value
    ((c.get_mut.follows.holds c.args.value).3 (search rules)).0

pub returns-in-None-clause-found : goal.returns-in-None-clause-found
returns-in-None-clause-found c =
    ap is_some (c.in-None.ensures.value ∙ sym (get-pairs_of_entries c.args.records.now.entries c.args.key.now))
