use Rattle.std.proofs.Common.{◌≡◌, ◌∙◌, ℕ, ap, arith}
use Rattle.lh_bucket.specs.Listing.{size}
use Rattle.lh_draw.specs.Columns.{centre}
use Rattle.lh_draw.specs.Drawing.{more_of}
use Rattle.lh_draw.proofs.ColumnPlaces.{column_each}
use Rattle.lh_draw.proofs.columns.more_of.Goals as goal

pub centre-requires-clause-column : goal.centre-requires-clause-column
centre-requires-clause-column c =
    let is = c.buckets.ensures.value in
    column_each c.buckets.result c.args.bucket (omega (arith, is, c.requires.few))
    (omega (arith, is, c.requires.bucket)) (omega (arith, is, c.requires.bucket))

pub returns : goal.returns
unfolding more_of
returns c =
    let centre_is : c.centre.result ≡ centre (size c.args.listing.now) c.args.bucket =
    c.centre.ensures ∙ ap (λ (n : ℕ). centre n c.args.bucket) c.buckets.ensures.value in
    λ i. record { centre = centre_is i; pages = c.chain_length.ensures.value i }
