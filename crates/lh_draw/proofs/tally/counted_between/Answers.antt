use Rattle.std.proofs.Common.{◌≡◌, ◌+◌, ◌-◌, ◌*◌, ◌/◌, ◌<◌, ◌≤◌, ℕ, length, sym, ap, arith}
use Rattle.std.specs.Prelude.{sum_by}
use Rattle.lh_bucket.specs.Listing.{count_of, list_at, size}
use Rattle.lh_draw.specs.Columns.{chain_length, longest_of}
use Rattle.lh_draw.proofs.Tallies.{count_more, lists_none, longest_more, pages_more, slots_enough}
use Rattle.lh_draw.proofs.tally.counted_between.Goals as goal

pub loop-bucket-init : goal.loop-bucket-init
unfolding longest_of
loop-bucket-init c =
    let none = sym (lists_none c.args.listing.now c.args.first) in
    let capacity = c.args.listing.now.config.capacity in (
      ap count_of none,
      ap (sum_by (chain_length capacity)) none,
      ap (longest_of capacity) none,
      omega arith,
      omega arith,
      λ h. absurd (omega (arith, h)),
      omega arith,
    )

pub loop-bucket-preserved : goal.loop-bucket-preserved
loop-bucket-preserved c =
    let l = c.args.listing.now in
    let capacity = l.config.capacity in
    let first = c.args.first in
    let bucket = c.loop-bucket.bucket in
    let before = c.loop-bucket.invariant in
    let low : first ≤ bucket = c.loop-bucket.auto.bucket in
    let high : bucket < size l = omega (arith, c.loop-bucket-test.true, c.requires.within) in
    let n : ℕ = length (list_at l.lists bucket) in
    let some : 1 ≤ capacity = c.chain_length-pages.ensures.kept.config.capacity.0 in
    let slots : capacity * c.chain_length-pages.result ≡ capacity * ((n - 1) / capacity + 1) =
    ap (λ (k : ℕ). capacity * k) c.chain_length-pages.ensures.value in (
      omega (arith, before.0, c.len_of.ensures.value, count_more l first bucket low high),
      omega (arith, before.1, c.chain_length-pages.ensures.value, pages_more l capacity first bucket low high),
      omega (
        arith,
        before.2,
        c.max.ensures,
        c.chain_length-pages.ensures.value,
        longest_more l capacity first bucket low high,
      ),
      omega (arith, before.3, c.chain_length-pages.type_inv),
      omega (arith, before.4, c.chain_length-pages.ensures.some),
      λ h. omega (arith, c.max.ensures, c.chain_length-pages.ensures.some),
      omega (arith, before.6, c.len_of.ensures.value, slots, slots_enough capacity n some),
    )
