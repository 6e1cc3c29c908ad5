use Rattle.std.proofs.Common.{ℕ, ◌∙◌, ap}
use Rattle.lh_draw.specs.Columns.{lists_between, tally_of, whole_tally}
use Rattle.lh_draw.proofs.columns.whole_tally.Goals as goal

pub returns-clause-value : goal.returns-clause-value
unfolding whole_tally
returns-clause-value c =
    let l = c.args.listing.now in
    c.counted_between.ensures.value
    ∙ ap (λ (n : ℕ). tally_of l.config.capacity (lists_between l 0 n)) c.buckets.ensures.value
