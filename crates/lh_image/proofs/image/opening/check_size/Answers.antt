use Rattle.std.proofs.Common.{◌*◌, ap, ◌∙◌, arith}
use Rattle.lh_image.specs.declared.header.Header.{Header}
use Rattle.lh_image.specs.Version.{page_bytes}
use Rattle.lh_image.proofs.Bytes.Header.{version_shown}
use Rattle.lh_image.proofs.Looking.Openings.{size_short, size_trailing, size_whole}
use Rattle.lh_image.proofs.image.opening.check_size.Goals as goal

pub returns-then-bytes-size-clause-fault : goal.returns-then-bytes-size-clause-fault
returns-then-bytes-size-clause-fault c =
    let all =
    ap (λ n. n * c.args.header.now.pages)
    (c.page_bytes.ensures.value
    ∙ ap page_bytes (ap (λ (h : Header). h.version) c.requires.fields ∙ version_shown c.args.bytes.now)) in
    size_short c.args.bytes.now c.args.header.now (c.page_bytes.result * c.args.header.now.pages) c.requires.fields
    c.requires.in_range all c.if-bytes-size.true

pub returns-then-bytes-size-2-clause-fault : goal.returns-then-bytes-size-2-clause-fault
returns-then-bytes-size-2-clause-fault c =
    let all =
    ap (λ n. n * c.args.header.now.pages)
    (c.page_bytes.ensures.value
    ∙ ap page_bytes (ap (λ (h : Header). h.version) c.requires.fields ∙ version_shown c.args.bytes.now)) in
    size_trailing c.args.bytes.now c.args.header.now (c.page_bytes.result * c.args.header.now.pages) c.requires.fields
    c.requires.in_range all c.if-bytes-size-2.true

pub returns-clause-fault : goal.returns-clause-fault
returns-clause-fault c =
    let all =
    ap (λ n. n * c.args.header.now.pages)
    (c.page_bytes.ensures.value
    ∙ ap page_bytes (ap (λ (h : Header). h.version) c.requires.fields ∙ version_shown c.args.bytes.now)) in
    size_whole c.args.bytes.now c.args.header.now (c.page_bytes.result * c.args.header.now.pages) c.requires.fields
    c.requires.in_range all (omega (arith, c.if-bytes-size.false, c.if-bytes-size-2.false))

pub returns-clause-size : goal.returns-clause-size
returns-clause-size c =
    let all =
    ap (λ n. n * c.args.header.now.pages)
    (c.page_bytes.ensures.value
    ∙ ap page_bytes (ap (λ (h : Header). h.version) c.requires.fields ∙ version_shown c.args.bytes.now)) in
    omega (arith, all, c.if-bytes-size.false, c.if-bytes-size-2.false)
