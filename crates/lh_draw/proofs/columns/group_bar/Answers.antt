use Rattle.std.proofs.Common.{◌≡◌, ◌∙◌, ℕ, ◌-◌, ◌*◌, ap}
use Rattle.std.specs.Prelude.{min}
use Rattle.lh_bucket.specs.Listing.{size}
use Rattle.lh_draw.specs.Columns.{bar_width, end_bucket, first_bucket, is_next_level, left, lists_between, tally_of}
use Rattle.lh_draw.specs.Drawing.{filling_of, group_bar, group_tally}
use Rattle.lh_draw.specs.Sizes.{most_drawn, page_gap, page_step}
use Rattle.lh_draw.proofs.columns.group_bar.Goals as goal

pub returns : goal.returns
unfolding group_bar
returns c =
    let l = c.args.listing.now in
    let column = c.args.column in
    let size_is = c.buckets-buckets.ensures.value in
    let left_is : c.left.result ≡ left (size l) column = c.left.ensures.value ∙ ap (λ (n : ℕ). left n column) size_is in
    let width_is : c.bar_width.result ≡ bar_width (size l) = c.bar_width.ensures.value ∙ ap bar_width size_is in
    let first_is : c.first_bucket-first.result ≡ first_bucket (size l) column =
    c.first_bucket-first.ensures.value ∙ ap (λ (n : ℕ). first_bucket n column) size_is in
    let end_is : c.end_bucket-end.result ≡ end_bucket (size l) column =
    c.end_bucket-end.ensures.value ∙ ap (λ (n : ℕ). end_bucket n column) size_is in
    let tally_is : c.counted_between-tally.result ≡ group_tally l column =
    c.counted_between-tally.ensures.value
    ∙ (λ i. tally_of l.config.capacity (lists_between l (first_is i) (end_is i))) in
    let shown : c.min.result ≡ min (group_tally l column).longest most_drawn =
    c.min.ensures ∙ (λ i. min (tally_is i).longest most_drawn) in
    let capacity_is : c.from.result ≡ l.config.capacity =
    c.from.ensures ∙ (c.capacity.ensures.value ∙ ap (λ s. s.capacity) c.config.ensures.value) in
    let count_is : c.from-2.result ≡ end_bucket (size l) column - first_bucket (size l) column =
    c.from-2.ensures ∙ (λ i. end_is i - first_is i) in
    let filling_is : c.filling_of.result
    ≡
    filling_of (group_tally l column).records
    (l.config.capacity * (end_bucket (size l) column - first_bucket (size l) column))
    (page_step * min (group_tally l column).longest most_drawn - page_gap) =
    c.filling_of.ensures
    ∙ (λ i. filling_of (tally_is i).records (capacity_is i * count_is i) (page_step * shown i - page_gap)) in
    let next_is = c.is_next_level.ensures ∙ ap (is_next_level l) first_is in
    λ i.
    record {
      left = left_is i;
      foot = 0;
      width = width_is i;
      height = page_step * shown i - page_gap;
      used = filling_is i;
      is_next = next_is i;
    }
