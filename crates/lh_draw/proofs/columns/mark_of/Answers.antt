use Rattle.std.proofs.Common.{◌≡◌, ◌∙◌, ℕ, ◌/◌, ◌≤◌, ap, sym, subst, arith}
use Rattle.lh_addr.specs.Growth.{pointer}
use Rattle.lh_bucket.specs.Listing.{size}
use Rattle.lh_draw.specs.Columns.{centre, column_count, group_size}
use Rattle.lh_draw.specs.Drawing.{pointer_mark_of}
use Rattle.lh_draw.proofs.ColumnPlaces.{column_of, has_some, pointer_within}
use Rattle.lh_draw.proofs.columns.mark_of.Goals as goal

pub centre-requires-clause-column : goal.centre-requires-clause-column
centre-requires-clause-column c =
    let l = c.args.listing.now in
    let n : ℕ = c.pointer-pointer.result in
    let pointer_is : n ≡ pointer l.config.initial (size l) =
    c.pointer-pointer.ensures ∙ ap (λ r. pointer r.initial r.buckets) c.root.ensures.value in
    let within : n ≤ c.buckets-buckets.result =
    omega (arith, pointer_is, c.buckets-buckets.ensures.value, pointer_within l.config.initial (size l)) in
    let some : 1 ≤ c.buckets-buckets.result =
    omega (arith, c.buckets-buckets.ensures.value, has_some l c.buckets-buckets.ensures.kept) in
    subst (λ (g : ℕ). n / g ≤ column_count c.buckets-buckets.result) (sym c.group_size.ensures.value)
    (column_of c.buckets-buckets.result n some within)

pub returns : goal.returns
unfolding pointer_mark_of
returns c =
    let l = c.args.listing.now in
    let pointer_is : c.pointer-pointer.result ≡ pointer l.config.initial (size l) =
    c.pointer-pointer.ensures ∙ ap (λ r. pointer r.initial r.buckets) c.root.ensures.value in
    let group_is : c.group_size.result ≡ group_size (size l) =
    c.group_size.ensures.value ∙ ap group_size c.buckets-buckets.ensures.value in
    let centre_is : c.centre.result ≡ centre (size l) (pointer l.config.initial (size l) / group_size (size l)) =
    c.centre.ensures ∙ (λ i. centre (c.buckets-buckets.ensures.value i) (pointer_is i / group_is i)) in
    λ i. record { centre = centre_is i; pointer = pointer_is i }
