use Rattle.std.proofs.Common.{◌≡◌, ◌∙◌, ℕ, ◌+◌, ap}
use Rattle.std.specs.Prelude.{max}
use Rattle.lh_bucket.specs.Listing.{size}
use Rattle.lh_draw.specs.Columns.{column_count, left, whole_tally}
use Rattle.lh_draw.specs.Drawing.{canvas_of, floor_of}
use Rattle.lh_draw.proofs.columns.canvas_of.Goals as goal

pub returns : goal.returns
unfolding canvas_of
returns c =
    let buckets : ℕ = size c.args.listing.now in
    let left_is : c.left.result ≡ left buckets (column_count buckets) =
    c.left.ensures.value ∙ ap (left c.buckets-buckets.result) c.column_count.ensures.value
    ∙ ap (λ (n : ℕ). left n (column_count n)) c.buckets-buckets.ensures.value in
    let width_is : c.max.result ≡ max (left buckets (column_count buckets)) 600 =
    c.max.ensures ∙ ap (λ (n : ℕ). max n 600) left_is in
    let floor_is : c.from.result ≡ floor_of (whole_tally c.args.listing.now).longest =
    c.from.ensures ∙ (c.floor_of.ensures.value ∙ ap floor_of c.requires) in
    λ i. record { width = 48 + width_is i; height = floor_is i + 56 }
