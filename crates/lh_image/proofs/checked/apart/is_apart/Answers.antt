use Rattle.std.proofs.Common.{arith, [], subst}
use Rattle.std.specs.List.{flat_map}
use Rattle.std.proofs.lemmas.List.{take_all}
use Rattle.lh_image.specs.Layout.{view_of}
use Rattle.lh_image.specs.Plain.{AreNew}
use Rattle.lh_image.proofs.Looking.Apart.{new_none, page_new}
use Rattle.lh_image.proofs.checked.apart.is_apart.Goals as goal

pub loop-place-init : goal.loop-place-init
loop-place-init c is = new_none []

pub loop-place-preserved : goal.loop-place-preserved
loop-place-preserved c is =
    page_new (view_of c.args.bytes.now).records c.args.chain.now c.loop-place.place (omega arith)
    (c.loop-place.invariant is) (c.are_new.ensures is c.if-not-are_new.false)

pub returns : goal.returns
returns c is _ =
    subst (λ xs. AreNew [] (flat_map (view_of c.args.bytes.now).records xs))
    (take_all c.loop-place.place c.args.chain.now (omega arith)) (c.loop-place.invariant is)
