use Rattle.std.proofs.Common.{take, sym, ap, ◌∙◌, arith}
use Rattle.lh_image.specs.Version.{page_bytes}
use Rattle.lh_image.proofs.Bytes.Versions.{least_page, version-front}
use Rattle.lh_image.proofs.Looking.Openings.{opening_magic, opening_short, opens_header}
use Rattle.lh_image.proofs.image.opening.header_in.Goals as goal

pub returns-in_default-clause-header : goal.returns-in_default-clause-header
returns-in_default-clause-header c = opening_magic c.args.bytes.now c.in_default.ensures.none

pub returns-then-bytes-page_bytes-clause-header : goal.returns-then-bytes-page_bytes-clause-header
returns-then-bytes-page_bytes-clause-header c =
    let size = c.page_bytes.ensures.value ∙ ap page_bytes c.in-Some.ensures.version in
    opening_short c.args.bytes.now c.in-Some.ensures.some (omega (arith, size, c.if-bytes-page_bytes.true))

pub header_of-requires-clause-version : goal.header_of-requires-clause-version
header_of-requires-clause-version c =
    c.in-Some.ensures.version
    ∙ sym
    (version-front c.page_bytes-2.result c.args.bytes.now
    (omega (arith, c.page_bytes-2.ensures.value, least_page c.in-Some.version)))

pub returns-clause-header : goal.returns-clause-header
returns-clause-header c =
    let size = c.page_bytes.ensures.value ∙ ap page_bytes c.in-Some.ensures.version in
    let size2 = c.page_bytes-2.ensures.value ∙ ap page_bytes c.in-Some.ensures.version in
    opens_header c.args.bytes.now (take c.page_bytes-2.result c.args.bytes.now) c.header_of.result
    (ap (λ n. take n c.args.bytes.now) size2)
    c.in-Some.ensures.some (omega (arith, size, c.if-bytes-page_bytes.false)) c.header_of.ensures.header
    c.header_of.ensures.fault
