use Rattle.std.proofs.Common.{arith}
use Rattle.lh_page.proofs.GoingBits.{bits_none}
use Rattle.lh_page.proofs.division.gone_of.Goals as goal

pub returns-in_err-gone-clause-none : goal.returns-in_err-gone-clause-none
returns-in_err-gone-clause-none g c none =
    let unset = bits_none (g.S.KeySet.member c.args.keys.now) c.args.going c.args.pairs.now c.requires.bits none in
    let refused = c.in_err-gone.ensures.none (c.guess.ensures.none unset (omega arith)) in
    cc
