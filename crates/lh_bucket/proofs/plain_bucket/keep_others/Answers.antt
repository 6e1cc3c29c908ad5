use Rattle.std.proofs.Common.{rules}
use Rattle.std.proofs.lemmas.Map.Made.{filter_same_pairs}
use Rattle.lh_bucket.specs.Leaving.{leads_to}
use Rattle.lh_bucket.proofs.PlainBuckets.{map_of-kept}
use Rattle.lh_bucket.proofs.plain_bucket.keep_others.Goals as goal

pub returns-clause-map : goal.returns-clause-map
returns-clause-map c =
    let stays = leads_to c.args.leaving.now.initial c.args.leaving.now.level c.args.leaving.now.number in
    map_of-kept stays c.args.records.now.entries c.retain.new.self.entries
    (filter_same_pairs _ (λ e. stays e.0) _ (λ k v b w f' t. search rules) _ _ c.retain.ensures.filtered)
