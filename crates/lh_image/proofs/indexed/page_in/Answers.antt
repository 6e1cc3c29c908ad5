use Rattle.std.proofs.Common.{◌+◌, ◌-◌, ◌*◌, ◌≡◌, take, drop, ap, ◌∙◌, arith}
use Rattle.lh_image.specs.Layout.{page}
use Rattle.lh_image.specs.Version.{page_bytes, version_of}
use Rattle.lh_image.proofs.indexed.page_in.Goals as goal

pub returns-clause-page : goal.returns-clause-page
unfolding page
returns-clause-page c same =
    let bytes = c.args.bytes.now in
    let w = c.page_bytes-size.ensures.value ∙ ap page_bytes same in
    let size = c.page_bytes-size.result in
    let all : size * c.args.number + size - size * c.args.number ≡ size = omega arith in
    ap (λ m. take m (drop (size * c.args.number) bytes)) (all ∙ w)
    ∙ ap (λ m. take (page_bytes (version_of bytes)) (drop (m * c.args.number) bytes)) w
