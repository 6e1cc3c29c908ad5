use Rattle.std.proofs.Common.{◌≡◌, ◌∙◌, ℕ, ◌*◌, ◌/◌, ap}
use Rattle.std.specs.Prelude.{min}
use Rattle.lh_bucket.specs.Listing.{size}
use Rattle.lh_draw.specs.Columns.{column_count, left, whole_tally}
use Rattle.lh_draw.specs.Drawing.{cuts_of}
use Rattle.lh_draw.specs.Sizes.{most_drawn, page_step}
use Rattle.lh_draw.proofs.columns.cuts_of.Goals as goal

pub returns : goal.returns
unfolding cuts_of
returns c =
    let buckets : ℕ = size c.args.listing.now in
    let left_is : c.left-width.result ≡ left buckets (column_count buckets) =
    c.left-width.ensures.value ∙ ap (left c.buckets-buckets.result) c.column_count.ensures.value
    ∙ ap (λ (n : ℕ). left n (column_count n)) c.buckets-buckets.ensures.value in
    let shown : c.min.result ≡ min (whole_tally c.args.listing.now).longest most_drawn =
    c.min.ensures ∙ ap (λ (n : ℕ). min n most_drawn) c.requires in
    λ i. record { middle = left_is i / 2; width = left_is i; height = page_step * shown i }
