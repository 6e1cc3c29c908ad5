use Rattle.std.proofs.Common.{◌∙◌, length-set, arith}
use Rattle.lh_image.specs.Image.{listing_of}
use Rattle.lh_image.specs.Layout.{view_of}
use Rattle.lh_image.proofs.Looking.Checked.{entry_set, image_page}
use Rattle.lh_image.proofs.Looking.Steps.{format_is, page_size_is}
use Rattle.lh_image.proofs.checked.index.put_index.Goals as goal

pub index_of-requires-clause-size : goal.index_of-requires-clause-size
index_of-requires-clause-size c =
    page_size_is c.args.header.now.version c.format-format.result _ c.page_at.ensures.size c.format-format.ensures

pub index_of-requires-clause-few : goal.index_of-requires-clause-few
index_of-requires-clause-few c =
    (image_page c.image_is_of_only_listing.ensures c.args.bytes.now c.args.header.now c.args.root.now
    (listing_of (view_of c.args.bytes.now)) c.requires.opened c.requires.image c.loop-page.page (omega arith)
    (omega arith)
    c.format-format.result c.page_at.result.now c.format-format.ensures c.page_at.ensures.page).0

pub index_of-requires-clause-good : goal.index_of-requires-clause-good
index_of-requires-clause-good c =
    (image_page c.image_is_of_only_listing.ensures c.args.bytes.now c.args.header.now c.args.root.now
    (listing_of (view_of c.args.bytes.now)) c.requires.opened c.requires.image c.loop-page.page (omega arith)
    (omega arith)
    c.format-format.result c.page_at.result.now c.format-format.ensures c.page_at.ensures.page).1

pub loop-page-preserved : goal.loop-page-preserved
loop-page-preserved c = record {
  size = length-set c.loop-page.index c.loop-page.page c.index_of.result ∙ c.loop-page.invariant.size;
  pages =
      entry_set c.args.bytes.now c.loop-page.index c.loop-page.page c.index_of.result c.format-format.result
      c.page_at.result.now
      (format_is c.args.bytes.now c.args.header.now c.args.root.now c.requires.opened c.format-format.result
      c.format-format.ensures) c.page_at.ensures.page
      (omega (arith, c.loop-page.invariant.size, c.requires.size)) c.loop-page.invariant.pages c.index_of.ensures;
}

pub returns : goal.returns
returns c = record {
  size = c.loop-page.invariant.size ∙ c.requires.size;
  pages = λ p low high. c.loop-page.invariant.pages p low (omega (arith, high));
}
