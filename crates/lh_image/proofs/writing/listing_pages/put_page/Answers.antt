use Rattle.std.proofs.Common.{◌≡◌, ◌+◌, ◌*◌, ◌≤◌, ◌∙◌, length, sym, ap, subst, cond, eqb, take, drop, [], get_or, arith}
use Rattle.lh_addr.specs.Growth.{level_of}
use Rattle.lh_bucket.specs.Listing.{size, list_at}
use Rattle.lh_image.specs.Canonical.{page_count_in, pages_in}
use Rattle.lh_image.proofs.Writes.Counting.{overflow_within, page_starts}
use Rattle.lh_image.proofs.Writes.Writable.{writable_page}
use Rattle.lh_image.proofs.writing.listing_pages.put_page.Goals as goal

pub next_page-next-requires-clause-fits : goal.next_page-next-requires-clause-fits
next_page-next-requires-clause-fits c =
    omega (
      arith,
      c.requires.few,
      c.requires.following,
      c.requires.page,
      overflow_within c.args.listing.now c.args.bucket (size c.args.listing.now) c.requires.bucket,
    )

pub put_pairs-requires-clause-start : goal.put_pairs-requires-clause-start
put_pairs-requires-clause-start c =
    let b : c.capacity.result ≡ c.args.listing.now.config.capacity =
    c.capacity.ensures.value ∙ ap (λ s. s.capacity) c.config.ensures.value in
    let at : c.args.k * c.args.listing.now.config.capacity ≤ length (list_at c.args.listing.now.lists c.args.bucket) =
    (page_starts c.args.listing.now c.args.bucket c.args.k c.pages_are_pieces.ensures
    c.config.ensures.kept.config.capacity.0 c.requires.page).0 in
    subst (λ n. c.args.k * n ≤ length (list_at c.args.listing.now.lists c.args.bucket)) (sym b) at

pub returns-clause-value : goal.returns-clause-value
returns-clause-value c =
    let b : c.capacity.result ≡ c.args.listing.now.config.capacity =
    c.capacity.ensures.value ∙ ap (λ s. s.capacity) c.config.ensures.value in
    let level = c.level_of-level.ensures.value ∙ ap (λ r. level_of r.initial r.buckets c.args.bucket) c.requires.root in
    let next =
    c.next_page-next.ensures
    ∙ ap (λ n. cond (eqb (c.args.k + 1) (page_count_in c.args.listing.now c.args.bucket)) 0 (n + c.args.k))
    c.requires.following in
    let pairs : c.put_pairs.new.pairs ≡ get_or (pages_in c.args.listing.now c.args.bucket) c.args.k [] =
    c.put_pairs.ensures
    ∙ ap
    (λ n.
    take c.args.listing.now.config.capacity
    (drop (c.args.k * n) (list_at c.args.listing.now.lists c.args.bucket))) b
    ∙ sym
    (page_starts c.args.listing.now c.args.bucket c.args.k c.pages_are_pieces.ensures
    c.config.ensures.kept.config.capacity.0 c.requires.page).1 in
    λ i.
    record {
      kind = c.kind_of-kind.ensures i;
      level = level i;
      bucket = c.args.bucket;
      next = next i;
      pairs = pairs i;
    }

pub returns-clause-writable : goal.returns-clause-writable
returns-clause-writable c version fits =
    rw (returns-clause-value c)
    (writable_page c.pages_are_pieces.ensures version c.args.listing.now c.config.ensures.kept fits c.requires.few
    c.args.bucket c.args.k c.requires.bucket c.requires.page)
