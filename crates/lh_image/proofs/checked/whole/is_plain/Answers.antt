use Rattle.std.proofs.Common.{◌∙◌, arith}
use Rattle.lh_image.proofs.Looking.Sound.{checked_is, index_is}
use Rattle.lh_image.proofs.Looking.Steps.{pages_is}
use Rattle.lh_image.proofs.checked.whole.is_plain.Goals as goal

pub returns-then-are_plain-clause-checked : goal.returns-then-are_plain-clause-checked
returns-then-are_plain-clause-checked c all =
    let bytes = c.args.bytes.now in
    let plain = c.are_plain.ensures.plain c.if-are_plain.true in
    let size = c.are_plain.ensures.size ∙ c.requires.size in
    let is = index_is bytes c.args.header.now c.args.root.now c.are_plain.new.index c.requires.opened plain size in
    checked_is bytes c.args.header.now c.args.root.now c.are_plain.new.index c.requires.opened plain size
    (c.are_apart.ensures is (size ∙ pages_is bytes c.args.header.now c.args.root.now c.requires.opened) all)
    c.faultless_bytes_are_an_image.ensures (λ i. omega (arith, c.type_inv.bytes i))
