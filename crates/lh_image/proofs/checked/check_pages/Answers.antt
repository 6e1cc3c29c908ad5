use Rattle.std.proofs.lemmas.Result.{err_from_is_err_and}
use Rattle.lh_image.proofs.Looking.Checked.{checked_fault, checked_image}
use Rattle.lh_image.proofs.checked.check_pages.Goals as goal

pub returns-in_err-listing_of_pages-clause-fault : goal.returns-in_err-listing_of_pages-clause-fault
returns-in_err-listing_of_pages-clause-fault c =
    let p =
    err_from_is_err_and c.from_residual-in_err-listing_of_pages.result
    c.from_residual-in_err-listing_of_pages.ensures.1 in
    rw (p.1, p.2)
    (checked_fault c.args.bytes.now c.args.header.now c.args.root.now c.in_ok-table.table.entries.items
    c.in_ok-table.table.pairs.items c.in_ok-table.faults c.requires.opened c.in_ok-table.ensures.come
    c.in_err-listing_of_pages.field-0.0 c.in_err-listing_of_pages.ensures.late c.in_err-listing_of_pages.ensures.exact)

pub returns-clause-checked : goal.returns-clause-checked
returns-clause-checked c = record {
  opened = c.requires.opened;
  pages = c.put_index.ensures;
  image =
      checked_image c.args.bytes.now c.args.header.now c.args.root.now c.in_ok-table.table.entries.items
      c.in_ok-table.table.pairs.items c.in_ok-table.faults c.requires.opened c.in_ok-table.ensures.come
      c.faultless_bytes_are_an_image.ensures c.image_is_of_only_listing.ensures c.in_ok-listing_of_pages.field-0
      c.in_ok-listing_of_pages.ensures.exact;
}

pub put_index-requires-clause-image : goal.put_index-requires-clause-image
put_index-requires-clause-image c =
    checked_image c.args.bytes.now c.args.header.now c.args.root.now c.in_ok-table.table.entries.items
    c.in_ok-table.table.pairs.items c.in_ok-table.faults c.requires.opened c.in_ok-table.ensures.come
    c.faultless_bytes_are_an_image.ensures c.image_is_of_only_listing.ensures c.in_ok-listing_of_pages.field-0
    c.in_ok-listing_of_pages.ensures.exact
