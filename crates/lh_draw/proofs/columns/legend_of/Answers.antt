use Rattle.std.proofs.Common.{◌≡◌, ◌∙◌, ap}
use Rattle.lh_addr.specs.Growth.{level}
use Rattle.lh_bucket.specs.Listing.{size}
use Rattle.lh_draw.specs.Columns.{group_size}
use Rattle.lh_draw.specs.Drawing.{legend_of}
use Rattle.lh_draw.proofs.columns.legend_of.Goals as goal

pub returns-clause-value : goal.returns-clause-value
unfolding legend_of
returns-clause-value c =
    let level_is : c.level-level.result ≡ level c.args.listing.now.config.initial (size c.args.listing.now) =
    c.level-level.ensures.value ∙ ap (λ r. level r.initial r.buckets) c.root.ensures.value in
    let group_is : c.group_size.result ≡ group_size (size c.args.listing.now) =
    c.group_size.ensures.value ∙ ap group_size c.buckets.ensures.value in
    λ i. record { level = level_is i; next = c.level_above.ensures.value i; group = group_is i }
