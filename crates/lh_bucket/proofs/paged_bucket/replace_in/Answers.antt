use Rattle.std.proofs.Common.{refl, sym, ◌∙◌, arith}
use Rattle.lh_bucket.proofs.Chained.{stands_there, stands_nowhere}
use Rattle.lh_bucket.proofs.paged_bucket.replace_in.Goals as goal

pub returns-in-Some-clause-reply : goal.returns-in-Some-clause-reply
returns-in-Some-clause-reply g c =
    rw (stands_there c.args.chain.now.pairs c.args._key.now c.in-Some.place (sym c.in-Some.is ∙ c.requires.place)).2
    refl

pub returns-in-None-clause-reply : goal.returns-in-None-clause-reply
returns-in-None-clause-reply g c =
    rw (stands_nowhere c.args.chain.now.pairs c.args._key.now (sym c.in-None.is ∙ c.requires.place)) refl

pub set_value-requires : goal.set_value-requires
set_value-requires g c =
    let there =
    stands_there c.args.chain.now.pairs c.args._key.now c.in-Some.place (sym c.in-Some.is ∙ c.requires.place) in
    (omega arith, (there.0, rw there.1 c.requires.fits))
