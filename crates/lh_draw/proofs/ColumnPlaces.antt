-- How the columns of a drawing lie.
use Rattle.std.proofs.Common.{◌≡◌, ℕ, ◌+◌, ◌-◌, ◌*◌, ◌/◌, ◌<◌, ◌≤◌, ap, arith}
use Rattle.std.proofs.Math.Nat.{div-mul-le_self, mul-div-le, mul-le-mul_left}
use Rattle.std.proofs.lemmas.Nat.{le-div}
use Rattle.lh_addr.specs.Growth.{pointer}
use Rattle.lh_bucket.specs.Listing.{IsListing, Lists, size}
use Rattle.lh_draw.specs.Columns.{column_count, first_bucket, group_size, label_step}
use Rattle.lh_draw.specs.Drawing.{label_count}

-- a column's first bucket is one of the file's
pub column_within : (buckets column : ℕ) → 1 ≤ buckets → column < column_count buckets →
    first_bucket buckets column < buckets
unfolding column_count
column_within buckets column some h =
    let g : ℕ = group_size buckets in
    let all : g * ((buckets + g - 1) / g) ≤ buckets + g - 1 = mul-div-le (buckets + g - 1) g in
    let next : g * (column + 1) ≤ g * ((buckets + g - 1) / g) = mul-le-mul_left g (omega (arith, h)) in
    omega (arith, all, next, some)

-- a number of buckets leads to no column behind the last
pub column_of : (buckets bucket : ℕ) → 1 ≤ buckets → bucket ≤ buckets →
    bucket / group_size buckets ≤ column_count buckets
unfolding column_count
column_of buckets bucket some h =
    let g : ℕ = group_size buckets in
    let low : 0 < g = omega (arith, some) in
    le-div (bucket / g) (buckets + g - 1) g low (omega (arith, h, low, div-mul-le_self bucket g))

-- where there are few buckets, each has a column
pub column_each : (buckets bucket : ℕ) → buckets ≤ 128 → 1 ≤ buckets → bucket ≤ buckets → bucket ≤ column_count buckets
unfolding column_count
column_each buckets bucket few some h =
    let g : ℕ = group_size buckets in
    let one : g ≡ 1 = omega (arith, few, some) in
    le-div bucket (buckets + g - 1) g (omega (arith, one)) (omega (arith, h, one, ap (λ (n : ℕ). bucket * n) one))

-- the split pointer is not behind the buckets
pub pointer_within : (initial buckets : ℕ) → pointer initial buckets ≤ buckets
unfolding pointer
pointer_within initial buckets = omega arith

column_some : (buckets : ℕ) → 1 ≤ buckets → 1 ≤ column_count buckets
unfolding column_count
column_some buckets some =
    let g : ℕ = group_size buckets in
    let low : 0 < g = omega (arith, some) in
    le-div 1 (buckets + g - 1) g low (omega (arith, some, low))

-- columns are no more than buckets
pub columns_few : (buckets column : ℕ) → 1 ≤ buckets → column < column_count buckets → column < buckets
columns_few buckets column some h =
    let g : ℕ = group_size buckets in
    let low : 1 ≤ g = omega (arith, some) in
    let more : column * 1 ≤ column * g = mul-le-mul_left column low in
    omega (arith, more, column_within buckets column some h)

-- a label's column is one of the file's
pub label_within : (columns step place : ℕ) → 1 ≤ columns → place < (columns - 1) / step + 1 → place * step < columns
label_within columns step place some h =
    let all : (columns - 1) / step * step ≤ columns - 1 = div-mul-le_self (columns - 1) step in
    let here : step * place ≤ step * ((columns - 1) / step) = mul-le-mul_left step (omega (arith, h)) in
    omega (arith, all, here, some)

-- a file has a bucket at least, and 65,536 at most
pub has_some : (l : Lists) → IsListing l → 1 ≤ size l
has_some l h = omega (arith, h.config.initial.0, h.shape.from_initial)

-- a file has 65,536 buckets at most
pub has_most : (l : Lists) → IsListing l → size l ≤ 65536
has_most l h = omega (arith, h.config.max.1, h.shape.to_max)

-- each label stands at one of the file's columns
pub label_column : (l : Lists) (place : ℕ) → 1 ≤ size l → place < label_count l →
    place * label_step (size l) < column_count (size l)
unfolding label_count
label_column l place some h =
    label_within (column_count (size l)) (label_step (size l)) place (column_some (size l) some) h
