use Rattle.std.proofs.Common.{arith}
use Rattle.lh_image.proofs.Looking.Steps.{page_fits, page_is}
use Rattle.lh_image.proofs.image.walk.page_at.Goals as goal

pub slice_bounds-result-end : goal.slice_bounds-result-end
slice_bounds-result-end c =
    page_fits c.args.bytes.now c.args.header.now c.args.root.now c.requires.opened c.page_bytes-size.result
    c.args.number c.page_bytes-size.ensures.value c.requires.below

pub returns-clause-page : goal.returns-clause-page
returns-clause-page c =
    page_is c.args.bytes.now c.args.header.now c.args.root.now c.requires.opened c.page_bytes-size.result c.args.number
    _ c.page_bytes-size.ensures.value (omega arith)
