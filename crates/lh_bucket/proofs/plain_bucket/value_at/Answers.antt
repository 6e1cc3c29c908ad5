use Rattle.std.proofs.Common.{◌∙◌, sym}
use Rattle.lh_bucket.proofs.PlainBuckets.{get-pairs_of_entries}
use Rattle.lh_bucket.proofs.plain_bucket.value_at.Goals as goal

pub returns : goal.returns
returns c =
    c.copied.ensures ∙ c.get.ensures.value ∙ sym (get-pairs_of_entries c.args.records.now.entries c.args.key.now)
