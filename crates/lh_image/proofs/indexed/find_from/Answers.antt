use Rattle.std.proofs.Common.{◌<◌, ap, sym, subst, ◌∙◌, arith}
use Rattle.std.proofs.lemmas.Bool.{false≢true}
use Rattle.lh_addr.specs.Growth.{address}
use Rattle.lh_addr.specs.Fnv.{code_of}
use Rattle.lh_image.specs.Image.{listing_of}
use Rattle.lh_image.specs.Layout.{view_of}
use Rattle.lh_image.specs.Version.{format_of, page_bytes}
use Rattle.lh_image.proofs.Looking.Checked.{never_past}
use Rattle.lh_image.proofs.Looking.Indexed.{ends_there, found_there, good_page, leads_on}
use Rattle.lh_image.proofs.Looking.Steps.{IsOnItsWay, begins, home_found, page_fits, page_size_is, version_is}
use Rattle.lh_image.proofs.indexed.find_from.Goals as goal

pub loop-init : goal.loop-init
loop-init c header root same checked start =
    subst (λ n. IsOnItsWay (view_of c.args.bytes.now) c.args.key.now header.pages 0 n) (sym start.page)
    (begins c.args.bytes.now header root checked.opened c.args.key.now
    (address root.initial root.buckets (code_of c.args.key.now))
    (home_found c.args.bytes.now header root checked.opened c.args.key.now) start.within)

pub returns-in_default-clause-found : goal.returns-in_default-clause-found
returns-in_default-clause-found c header root same checked start =
    let way = c.loop.invariant header root same checked start in
    absurd
    (false≢true
    (c.in_default.ensures.there
    (page_fits c.args.bytes.now header root checked.opened (page_bytes c.args.version) c.loop.number
    (ap page_bytes same) way.below)))

pub place_in-requires-clause-size : goal.place_in-requires-clause-size
place_in-requires-clause-size c =
    page_size_is c.args.version c.format-format.result _ c.in-Some.ensures.size c.format-format.ensures

pub value_at-requires-clause-size : goal.value_at-requires-clause-size
value_at-requires-clause-size c =
    page_size_is c.args.version c.format-format.result _ c.in-Some.ensures.size c.format-format.ensures

pub returns-in-Ok-clause-found : goal.returns-in-Ok-clause-found
returns-in-Ok-clause-found c header root same checked start =
    let bytes = c.args.bytes.now in
    let law = c.what_is_found_stands_there.ensures.map in
    let way = c.loop.invariant header root same checked start in
    let more : c.loop.counter < header.pages = omega (arith, checked.pages.size, c.loop-test.true) in
    let fe = c.format-format.ensures ∙ ap format_of same in
    let pe = c.in-Some.ensures.page (same ∙ version_is bytes header root checked.opened) in
    let good =
    good_page law bytes c.args.key.now header root c.args.index.now checked c.loop.counter c.loop.number way
    more c.format-format.result c.in-Some.page.now fe pe in
    found_there law bytes c.args.key.now header root c.args.index.now checked c.loop.counter c.loop.number way
    more c.format-format.result c.in-Some.page.now fe pe c.in-Some-place_in.place c.in-Ok.value.now
    (c.in-Some-place_in.ensures.found good start.mark) c.in-Ok.ensures.value

pub returns-in-Err-clause-found : goal.returns-in-Err-clause-found
returns-in-Err-clause-found c header root same checked start =
    let bytes = c.args.bytes.now in
    let law = c.what_is_found_stands_there.ensures.map in
    let way = c.loop.invariant header root same checked start in
    let more : c.loop.counter < header.pages = omega (arith, checked.pages.size, c.loop-test.true) in
    let fe = c.format-format.ensures ∙ ap format_of same in
    let pe = c.in-Some.ensures.page (same ∙ version_is bytes header root checked.opened) in
    let good =
    good_page law bytes c.args.key.now header root c.args.index.now checked c.loop.counter c.loop.number way
    more c.format-format.result c.in-Some.page.now fe pe in
    absurd (false≢true (c.in-Err.ensures.fits (c.in-Some-place_in.ensures.found good start.mark).1))

pub returns-then-entry-eq0-clause-found : goal.returns-then-entry-eq0-clause-found
returns-then-entry-eq0-clause-found c header root same checked start =
    let bytes = c.args.bytes.now in
    let law = c.what_is_found_stands_there.ensures.map in
    let way = c.loop.invariant header root same checked start in
    let more : c.loop.counter < header.pages = omega (arith, checked.pages.size, c.loop-test.true) in
    let fe = c.format-format.ensures ∙ ap format_of same in
    let pe = c.in-Some.ensures.page (same ∙ version_is bytes header root checked.opened) in
    let good =
    good_page law bytes c.args.key.now header root c.args.index.now checked c.loop.counter c.loop.number way
    more c.format-format.result c.in-Some.page.now fe pe in
    ends_there law bytes c.args.key.now header root c.args.index.now checked c.loop.counter c.loop.number way
    more c.format-format.result c.in-Some.page.now fe pe (c.in_default-place_in.ensures.found good start.mark)
    c.if-entry-eq0.true

pub loop-preserved : goal.loop-preserved
loop-preserved c header root same checked start =
    let bytes = c.args.bytes.now in
    let law = c.what_is_found_stands_there.ensures.map in
    let way = c.loop.invariant header root same checked start in
    let more : c.loop.counter < header.pages = omega (arith, checked.pages.size, c.loop-test.true) in
    let fe = c.format-format.ensures ∙ ap format_of same in
    let pe = c.in-Some.ensures.page (same ∙ version_is bytes header root checked.opened) in
    let good =
    good_page law bytes c.args.key.now header root c.args.index.now checked c.loop.counter c.loop.number way
    more c.format-format.result c.in-Some.page.now fe pe in
    leads_on law bytes c.args.key.now header root c.args.index.now checked c.loop.counter c.loop.number way
    more c.format-format.result c.in-Some.page.now fe pe (c.in_default-place_in.ensures.found good start.mark)
    c.if-entry-eq0.false

pub returns-clause-found : goal.returns-clause-found
returns-clause-found c header root same checked start =
    let v = view_of c.args.bytes.now in
    never_past v c.args.key.now header.pages c.loop.counter c.loop.number _
    (c.loop.invariant header root same checked start)
    (omega (arith, checked.pages.size, c.loop-test.false))
    (c.what_is_found_stands_there.ensures.map c.args.bytes.now (listing_of v) c.args.key.now checked.image)
