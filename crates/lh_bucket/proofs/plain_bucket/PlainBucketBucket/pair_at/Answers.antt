use Rattle.std.proofs.Common.{◌∙◌, ℕ, List, sym, ap}
use Rattle.std.specs.Option.{option_map}
use Rattle.std.specs.List.{slice_get}
use Rattle.std.specs.Map.Iter.{deref_pair}
use Rattle.std.proofs.lemmas.Option.{slice_get-map}
use Rattle.std.proofs.lemmas.Iterator.Consumers.{nth_from_yields_List, YieldsList-from_rest}
use Rattle.lh_page.specs.declared.pair.Pair.{Pair}
use Rattle.lh_bucket.specs.Bucket.{Seen}
use Rattle.lh_bucket.proofs.plain_bucket.PlainBucketBucket.pair_at.Goals as goal

pub returns-clause-value : goal.returns-clause-value
returns-clause-value c =
    let as_pair : List ℕ × List ℕ → Pair = λ e. record { key = e.0; value = e.1 } in
    let entries = c.self.inside.records.entries in
    ap (λ (s : Seen). slice_get s.pairs c.args.place) (sym c.self.view_is)
    ∙ slice_get-map as_pair entries c.args.place
    ∙ ap (option_map as_pair)
    (sym
    (nth_from_yields_List c.nth.result c.nth.new.self c.args.place c.nth.ensures.ran
    (YieldsList-from_rest entries c.iter.ensures.rest)))
    ∙ ap (λ r. option_map as_pair (option_map deref_pair r)) c.in-Some.is
