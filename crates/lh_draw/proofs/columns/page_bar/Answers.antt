use Rattle.std.proofs.Common.{◌≡◌, ◌∙◌, ℕ, ◌-◌, ◌*◌, length, ap, arith}
use Rattle.std.specs.Prelude.{min}
use Rattle.lh_bucket.specs.Listing.{list_at, size}
use Rattle.lh_draw.specs.Columns.{bar_width, left}
use Rattle.lh_draw.specs.Drawing.{page_bar, part_of}
use Rattle.lh_draw.specs.Sizes.{page_height, page_step}
use Rattle.lh_draw.proofs.ColumnPlaces.{column_each}
use Rattle.lh_draw.proofs.columns.page_bar.Goals as goal

pub left-requires-clause-column : goal.left-requires-clause-column
left-requires-clause-column c =
    let is = c.buckets-buckets.ensures.value in
    column_each c.buckets-buckets.result c.args.bucket (omega (arith, is, c.requires.few))
    (omega (arith, is, c.requires.bucket)) (omega (arith, is, c.requires.bucket))

pub returns : goal.returns
unfolding page_bar
returns c =
    let l = c.args.listing.now in
    let left_is : c.left.result ≡ left (size l) c.args.bucket =
    c.left.ensures.value ∙ ap (λ (n : ℕ). left n c.args.bucket) c.buckets-buckets.ensures.value in
    let width_is : c.bar_width.result ≡ bar_width (size l) =
    c.bar_width.ensures.value ∙ ap bar_width c.buckets-buckets.ensures.value in
    let capacity_is : c.capacity-capacity.result ≡ l.config.capacity =
    c.capacity-capacity.ensures.value ∙ ap (λ s. s.capacity) c.config.ensures.value in
    let behind_is : c.saturating_sub-behind.result ≡
    length (list_at l.lists c.args.bucket) - l.config.capacity * c.args.page =
    c.saturating_sub-behind.ensures ∙ (λ i. c.len_of.ensures.value i - capacity_is i * c.args.page) in
    let used_is : c.min.result ≡
    min (length (list_at l.lists c.args.bucket) - l.config.capacity * c.args.page) l.config.capacity =
    c.min.ensures ∙ (λ i. min (behind_is i) (capacity_is i)) in
    let part_is : c.part_of.result ≡
    part_of page_height
    (min (length (list_at l.lists c.args.bucket) - l.config.capacity * c.args.page) l.config.capacity)
    l.config.capacity =
    c.part_of.ensures ∙ (λ i. part_of page_height (used_is i) (capacity_is i)) in
    λ i.
    record {
      left = left_is i;
      foot = page_step * c.args.page;
      width = width_is i;
      height = page_height;
      used = part_is i;
      is_next = c.is_next_level.ensures i;
    }
