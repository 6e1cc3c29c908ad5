use Rattle.std.proofs.Common.{◌≡◌, ◌+◌, ◌-◌, sym, ap, subst, ◌∙◌, arith}
use Rattle.std.proofs.lemmas.Result.{err_from_is_err_and}
use Rattle.lh_addr.specs.Growth.{address}
use Rattle.lh_image.specs.Layout.{page, view_of}
use Rattle.lh_image.specs.LookUp.{IsSlotOf, found_from}
use Rattle.lh_image.specs.Version.{format_of, version_of}
use Rattle.lh_image.proofs.Looking.Steps.{begins, found_end, found_twice, goes_on, home_found, place_is, step_fault}
use Rattle.lh_image.proofs.Looking.Steps.{step_next}
use Rattle.lh_image.proofs.image.walk.place_of.Goals as goal

pub loop-init : goal.loop-init
loop-init c =
    let code = c.fnv1a.ensures ∙ ap Rattle.lh_addr.specs.Fnv.code_of c.bytes.ensures.value in
    begins c.args.bytes.now c.args.header.now c.args.root.now c.requires c.args.key.now c.address-home.result
    (c.address-home.ensures.value ∙ ap (address c.args.root.now.initial c.args.root.now.buckets) code
    ∙ home_found c.args.bytes.now c.args.header.now c.args.root.now c.requires c.args.key.now)
    c.address-home.ensures.within

pub look_at-requires-clause-home : goal.look_at-requires-clause-home
look_at-requires-clause-home c =
    let code = c.fnv1a.ensures ∙ ap Rattle.lh_addr.specs.Fnv.code_of c.bytes.ensures.value in
    c.address-home.ensures.value ∙ ap (address c.args.root.now.initial c.args.root.now.buckets) code
    ∙ home_found c.args.bytes.now c.args.header.now c.args.root.now c.requires c.args.key.now

pub returns-in_err-place : goal.returns-in_err-place
returns-in_err-place c =
    let p = err_from_is_err_and c.from_residual.result c.from_residual.ensures.1 in
    rw (p.1, p.2)
    (step_fault (view_of c.args.bytes.now) c.args.key.now c.args.header.now.pages c.loop.counter c.loop.number
    c.loop.invariant (omega arith) c.in_err-place.field-0.0 c.in_err-place.ensures)

pub returns-in-Some : goal.returns-in-Some
returns-in-Some c =
    place_is c.args.bytes.now c.args.header.now c.args.root.now c.requires c.args.key.now c.loop.counter c.loop.number
    c.loop.invariant (omega arith) c.in-Some.place c.in_ok-place.ensures.0
    (subst
    (λ o.
    IsSlotOf (format_of (version_of c.args.bytes.now)) (page c.args.bytes.now c.loop.number) c.args.key.now
    ((view_of c.args.bytes.now).records c.loop.number) o) c.in-Some.is c.in_ok-place.ensures.2)

pub returns-then-next-eq0 : goal.returns-then-next-eq0
returns-then-next-eq0 c =
    let v = view_of c.args.bytes.now in
    let none =
    subst
    (λ o.
    IsSlotOf (format_of (version_of c.args.bytes.now)) (page c.args.bytes.now c.loop.number) c.args.key.now
    (v.records c.loop.number) o) c.in_default.is c.in_ok-place.ensures.2 in
    step_next v c.args.key.now c.args.header.now.pages c.loop.counter c.loop.number c.loop.invariant (omega arith)
    c.in_ok-place.ensures.0 none
    ∙ ap (found_from v c.args.key.now (c.args.header.now.pages - (c.loop.counter + 1)))
    (sym c.in_ok-place.ensures.1 ∙ c.if-next-eq0.true)
    ∙ found_end v c.args.key.now (c.args.header.now.pages - (c.loop.counter + 1))

pub loop-preserved : goal.loop-preserved
loop-preserved c =
    let v = view_of c.args.bytes.now in
    let none =
    subst
    (λ o.
    IsSlotOf (format_of (version_of c.args.bytes.now)) (page c.args.bytes.now c.loop.number) c.args.key.now
    (v.records c.loop.number) o) c.in_default.is c.in_ok-place.ensures.2 in
    goes_on c.args.bytes.now c.args.header.now c.args.root.now c.requires c.args.key.now c.loop.counter c.loop.number
    c.loop.invariant (omega arith) c.in_ok-place.next c.in_ok-place.ensures.0 none c.in_ok-place.ensures.1
    c.if-next-eq0.false

pub returns : goal.returns
returns c =
    let v = view_of c.args.bytes.now in
    let none : c.args.header.now.pages - c.loop.counter ≡ 0 = omega arith in
    c.loop.invariant.same ∙ ap (λ n. found_from v c.args.key.now n c.loop.number) none
    ∙ found_twice v c.args.key.now c.loop.number (λ z. omega (arith, c.loop.invariant.from))
