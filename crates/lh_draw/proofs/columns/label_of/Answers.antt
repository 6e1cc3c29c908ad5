use Rattle.std.proofs.Common.{◌≡◌, ◌∙◌, ℕ, ◌*◌, ◌<◌, ◌≤◌, ap, sym, subst, arith}
use Rattle.lh_bucket.specs.Listing.{size}
use Rattle.lh_draw.specs.Columns.{centre, column_count, first_bucket, label_step}
use Rattle.lh_draw.specs.Drawing.{label_of}
use Rattle.lh_draw.proofs.ColumnPlaces.{columns_few, has_most, has_some, label_column}
use Rattle.lh_draw.proofs.columns.label_of.Goals as goal

pub overflow_mul-column : goal.overflow_mul-column
overflow_mul-column c =
    let l = c.args.listing.now in
    let step_is : c.label_step.result ≡ label_step (size l) =
    c.label_step.ensures.value ∙ ap label_step c.buckets-buckets.ensures.value in
    let here : c.args.place * c.label_step.result < column_count (size l) =
    subst (λ (n : ℕ). c.args.place * n < column_count (size l)) (sym step_is)
    (label_column l c.args.place (has_some l c.buckets-buckets.ensures.kept) c.requires) in
    omega (
      arith,
      columns_few (size l) (c.args.place * c.label_step.result) (has_some l c.buckets-buckets.ensures.kept) here,
      has_most l c.buckets-buckets.ensures.kept,
    )

pub first_bucket-requires-clause-column : goal.first_bucket-requires-clause-column
first_bucket-requires-clause-column c =
    let l = c.args.listing.now in
    let step_is : c.label_step.result ≡ label_step (size l) =
    c.label_step.ensures.value ∙ ap label_step c.buckets-buckets.ensures.value in
    let here : c.args.place * c.label_step.result < column_count (size l) =
    subst (λ (n : ℕ). c.args.place * n < column_count (size l)) (sym step_is)
    (label_column l c.args.place (has_some l c.buckets-buckets.ensures.kept) c.requires) in
    subst (λ (n : ℕ). c.args.place * c.label_step.result < column_count n) (sym c.buckets-buckets.ensures.value) here

pub centre-requires-clause-column : goal.centre-requires-clause-column
centre-requires-clause-column c =
    let l = c.args.listing.now in
    let step_is : c.label_step.result ≡ label_step (size l) =
    c.label_step.ensures.value ∙ ap label_step c.buckets-buckets.ensures.value in
    let here : c.args.place * c.label_step.result < column_count (size l) =
    subst (λ (n : ℕ). c.args.place * n < column_count (size l)) (sym step_is)
    (label_column l c.args.place (has_some l c.buckets-buckets.ensures.kept) c.requires) in
    subst (λ (n : ℕ). c.args.place * c.label_step.result ≤ column_count n) (sym c.buckets-buckets.ensures.value)
    (omega (arith, here))

pub returns : goal.returns
unfolding label_of
returns c =
    let l = c.args.listing.now in
    let step_is : c.label_step.result ≡ label_step (size l) =
    c.label_step.ensures.value ∙ ap label_step c.buckets-buckets.ensures.value in
    let column_is : c.args.place * c.label_step.result ≡ c.args.place * label_step (size l) =
    ap (λ (n : ℕ). c.args.place * n) step_is in
    let centre_is : c.centre.result ≡ centre (size l) (c.args.place * label_step (size l)) =
    c.centre.ensures ∙ ap (centre c.buckets-buckets.result) column_is
    ∙ ap (λ (n : ℕ). centre n (c.args.place * label_step (size l))) c.buckets-buckets.ensures.value in
    let first_is : c.first_bucket.result ≡ first_bucket (size l) (c.args.place * label_step (size l)) =
    c.first_bucket.ensures.value ∙ ap (first_bucket c.buckets-buckets.result) column_is
    ∙ ap (λ (n : ℕ). first_bucket n (c.args.place * label_step (size l))) c.buckets-buckets.ensures.value in
    λ i. record { centre = centre_is i; bucket = first_is i }
