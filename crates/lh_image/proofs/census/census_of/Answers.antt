use Rattle.std.proofs.Common.{◌≡◌, ◌-◌, ◌∙◌, ap, arith}
use Rattle.lh_addr.specs.Growth.{level, pointer}
use Rattle.lh_bucket.specs.Listing.{size, count_of}
use Rattle.lh_image.specs.Canonical.{page_total}
use Rattle.lh_image.specs.Census.{longest_before}
use Rattle.lh_image.proofs.Writes.Counting.{records_few}
use Rattle.lh_image.proofs.Writes.Counted.{longest_low}
use Rattle.lh_image.proofs.census.census_of.Goals as goal

pub returns : goal.returns
returns c few =
    let total : c.page_total-pages.result ≡ page_total c.args.listing.now =
    omega (arith, few, c.page_total-pages.ensures) in
    let size_is : c.buckets-buckets.result ≡ size c.args.listing.now = c.buckets-buckets.ensures.value in
    let level_is : c.level.result ≡ level c.args.listing.now.config.initial (size c.args.listing.now) =
    c.level.ensures.value ∙ ap (λ r. level r.initial r.buckets) c.root-root.ensures.value in
    let pointer_is : c.pointer.result ≡ pointer c.args.listing.now.config.initial (size c.args.listing.now) =
    c.pointer.ensures ∙ ap (λ r. pointer r.initial r.buckets) c.root-root.ensures.value in
    let records_is : c.len.result ≡ count_of c.args.listing.now.lists =
    omega (
      arith,
      c.len.ensures,
      records_few c.args.listing.now c.pages_are_pieces.ensures c.buckets-buckets.ensures.kept.config.capacity few,
    ) in
    let pages_is : c.below_2_32.result ≡ page_total c.args.listing.now =
    c.below_2_32.ensures (omega (arith, few, total)) ∙ total in
    let rest : c.page_total-pages.result - 1 - c.from.result ≡
    page_total c.args.listing.now - 1 - size c.args.listing.now =
    omega (arith, total, size_is, c.from.ensures) in
    let overflow_is : c.below_2_32-2.result ≡ page_total c.args.listing.now - 1 - size c.args.listing.now =
    c.below_2_32-2.ensures (omega (arith, few, rest)) ∙ rest in
    let longest_is : c.below_2_32-3.result ≡ longest_before c.args.listing.now (size c.args.listing.now) =
    c.below_2_32-3.ensures
    (omega (arith, few, c.longest_chain.ensures, longest_low c.args.listing.now (size c.args.listing.now)))
    ∙ c.longest_chain.ensures in
    λ i. record {
      buckets = size_is i;
      level = level_is i;
      pointer = pointer_is i;
      records = records_is i;
      pages = pages_is i;
      overflow = overflow_is i;
      longest = longest_is i;
    }
