use Rattle.std.proofs.Common.{take, subst, sym, refl, length-take-le}
use Rattle.lh_page.proofs.Masks.{IsCommon, bitmask_alike, common_from_mask}
use Rattle.lh_page.proofs.comparing.common_front.Goals as goal

common : (c : goal.After-trailing_ones) → IsCommon c.args.a.now c.args.b.now c.trailing_ones.result
common c =
    let a = c.args.a.now in
    let b = c.args.b.now in
    subst (IsCommon a b) (sym c.trailing_ones.ensures)
    (common_from_mask a b (take 32 a) (take 32 b) _ c.requires.a c.requires.b refl refl
    (bitmask_alike (take 32 a) (take 32 b) (length-take-le 32 a c.requires.a) (length-take-le 32 b c.requires.b)))

pub returns-clause-within : goal.returns-clause-within
returns-clause-within c = (common c).within

pub returns-clause-same : goal.returns-clause-same
returns-clause-same c = (common c).same

pub returns-clause-differ : goal.returns-clause-differ
returns-clause-differ c = (common c).differ
