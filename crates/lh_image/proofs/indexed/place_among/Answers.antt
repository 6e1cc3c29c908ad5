use Rattle.std.proofs.Common.{◌+◌, ◌-◌, ◌<◌, sym, ap, ◌∙◌, arith}
use Rattle.std.specs.Int.{bit_at}
use Rattle.std.proofs.lemmas.Nat.Bits.{bit_at-zero}
use Rattle.lh_page.specs.PageFields.{used_of}
use Rattle.lh_image.proofs.Looking.Checked.{found_still}
use Rattle.lh_image.proofs.Looking.Indexed.{marked_elsewhere, none_below}
use Rattle.lh_image.proofs.Looking.Slots.{good_lengths}
use Rattle.lh_image.proofs.indexed.place_among.Goals as goal

pub loop-left-init : goal.loop-left-init
loop-left-init c good mark =
    marked_elsewhere c.args.format c.args.page.now c.args.key.now c.args.entry.now c.args.mark c.places_of-left.result
    good c.requires.limits.slots mark c.places_of-left.ensures

pub returns-then-place-until-clause-found : goal.returns-then-place-until-clause-found
returns-then-place-until-clause-found c good within mark =
    none_below c.args.format c.args.page.now c.args.key.now c.args.until (λ i low.
    c.loop-left.invariant good mark i (omega (arith, low, within))
    (c.lowest-place.ensures.below i (omega (arith, low, c.if-place-until.true))))

pub returns-then-has_key_at-clause-found : goal.returns-then-has_key_at-clause-found
returns-then-has_key_at-clause-found c good within mark =
    let place = c.lowest-place.result in
    let until = c.args.until in
    let low : place < used_of c.args.page.now = omega (arith, within, c.if-place-until.false) in (
      omega (arith, low, good.few),
      (good_lengths c.args.format _ (good.good place low)).1,
      found_still c.args.format c.args.page.now c.args.key.now place
          (none_below c.args.format c.args.page.now c.args.key.now place (λ i less.
          c.loop-left.invariant good mark i (omega (arith, less, low)) (c.lowest-place.ensures.below i less)))
          (sym (c.if-has_key_at.ensures (good.good place low))) (until - (place + 1)) until
          (omega (arith, c.if-place-until.false)),
    )

pub returns-clause-found : goal.returns-clause-found
returns-clause-found c good within mark =
    none_below c.args.format c.args.page.now c.args.key.now c.args.until (λ i low.
    c.loop-left.invariant good mark i (omega (arith, low, within))
    (ap (λ n. bit_at n i) c.loop-left-test.false ∙ bit_at-zero i))
