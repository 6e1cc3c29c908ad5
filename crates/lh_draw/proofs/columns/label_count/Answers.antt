use Rattle.std.proofs.Common.{◌≡◌, ◌∙◌, ◌+◌, ◌-◌, ◌/◌, ap}
use Rattle.lh_bucket.specs.Listing.{size}
use Rattle.lh_draw.specs.Columns.{column_count, label_step}
use Rattle.lh_draw.specs.Drawing.{label_count}
use Rattle.lh_draw.proofs.columns.label_count.Goals as goal

pub returns : goal.returns
unfolding label_count
returns c =
    let columns_are : c.column_count.result ≡ column_count (size c.args.listing.now) =
    c.column_count.ensures.value ∙ ap column_count c.buckets-buckets.ensures.value in
    let step_is : c.label_step.result ≡ label_step (size c.args.listing.now) =
    c.label_step.ensures.value ∙ ap label_step c.buckets-buckets.ensures.value in
    λ i. (columns_are i - 1) / step_is i + 1
