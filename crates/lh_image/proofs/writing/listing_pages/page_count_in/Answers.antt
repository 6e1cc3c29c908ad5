use Rattle.std.proofs.Common.{◌≡◌, ◌≤◌, ◌∙◌, sym, ap}
use Rattle.lh_page.specs.PackedList.{pages_needed}
use Rattle.lh_image.proofs.Writes.Counting.{page_count_is}
use Rattle.lh_image.proofs.writing.listing_pages.page_count_in.Goals as goal

pub returns-clause-value : goal.returns-clause-value
returns-clause-value c =
    let some : 1 ≤ c.args.listing.now.config.capacity = c.config.ensures.kept.config.capacity.0 in
    let b : c.capacity.result ≡ c.args.listing.now.config.capacity =
    c.capacity.ensures.value ∙ ap (λ s. s.capacity) c.config.ensures.value in
    c.pages_needed.ensures ∙ ap (λ x. pages_needed x c.len_of.result) b
    ∙ ap (pages_needed c.args.listing.now.config.capacity) c.len_of.ensures.value
    ∙ sym (page_count_is c.args.listing.now c.args.bucket c.pages_are_pieces.ensures some)
