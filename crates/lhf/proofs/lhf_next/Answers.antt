use Rattle.std.proofs.Common.{◌≡◌, ◌+◌, Ok, refl, subst, inl, inr, arith}
use Rattle.lh_image.specs.Indexed.{IsNext, extent_of}
use Rattle.lh_image.specs.Layout.{header_of}
use Rattle.lhf.proofs.Told.{ready_version}
use Rattle.lhf.proofs.lhf_next.Goals as goal

pub returns-in-Ok-Some : goal.returns-in-Ok-Some
returns-in-Ok-Some c ready =
    let h = c.args.image.now in
    let bytes = h.bytes.now in
    let stands =
    subst (λ o. IsNext bytes c.args.place.now (Ok o)) c.in-Ok-Some.field-0-is
    (c.in-Ok-Some.ensures (header_of bytes) (extent_of bytes)
    (ready_version h ready c.in-Some.version c.in-Some.ensures.version) ready.checked) in
    let at = c.in-Ok-Some.at in
    let after : c.saturating_add.result ≡ at + 1 =
    omega (arith, stands.placed.below, ready.checked.opened.in_range.few, c.saturating_add.ensures) in
    inl (refl, at, after, stands)

pub returns-in-Ok-None : goal.returns-in-Ok-None
returns-in-Ok-None c ready =
    let h = c.args.image.now in
    let bytes = h.bytes.now in
    inr (
      refl,
      subst (λ o. IsNext bytes c.args.place.now (Ok o)) c.in-Ok-None.field-0-is
          (c.in-Ok-None.ensures (header_of bytes) (extent_of bytes)
          (ready_version h ready c.in-Some.version c.in-Some.ensures.version) ready.checked),
    )

pub returns-in-Err : goal.returns-in-Err
returns-in-Err c ready =
    let h = c.args.image.now in
    let bytes = h.bytes.now in
    absurd
    (c.in-Err.ensures (header_of bytes) (extent_of bytes)
    (ready_version h ready c.in-Some.version c.in-Some.ensures.version) ready.checked)
