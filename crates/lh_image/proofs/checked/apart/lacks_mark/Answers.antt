use Rattle.std.proofs.Common.{ap, ◌∙◌, arith}
use Rattle.std.specs.Int.{bit_at}
use Rattle.std.proofs.lemmas.Bool.{leb-true}
use Rattle.std.proofs.lemmas.Nat.Bits.{bit_at-zero}
use Rattle.lh_image.proofs.Looking.Apart.{unmarked_none}
use Rattle.lh_image.proofs.checked.apart.lacks_mark.Goals as goal

pub returns-then-places-eq0 : goal.returns-then-places-eq0
returns-then-places-eq0 c f pg key good few within is _ =
    unmarked_none f pg key c.args.entry.now c.args.mark c.places_of-places.result c.args.until good few within is
    c.places_of-places.ensures (λ i low. ap (λ n. bit_at n i) c.if-places-eq0.true ∙ bit_at-zero i)

pub returns-else-places-eq0 : goal.returns-else-places-eq0
returns-else-places-eq0 c f pg key good few within is all =
    unmarked_none f pg key c.args.entry.now c.args.mark c.places_of-places.result c.args.until good few within is
    c.places_of-places.ensures
    (λ i low. c.lowest.ensures.below i (omega (arith, low, leb-true c.args.until c.lowest.result all)))
