use Rattle.std.proofs.Common.{refl, sym, ◌∙◌, arith}
use Rattle.lh_bucket.proofs.Chained.{stands_there, stands_nowhere}
use Rattle.lh_bucket.proofs.paged_bucket.delete_from.Goals as goal

pub returns-in-Some-clause-reply : goal.returns-in-Some-clause-reply
returns-in-Some-clause-reply g c =
    rw (stands_there c.args.chain.now.pairs c.args._key.now c.in-Some.place (sym c.in-Some.is ∙ c.requires)).2 refl

pub returns-in-None-clause-reply : goal.returns-in-None-clause-reply
returns-in-None-clause-reply g c =
    rw (stands_nowhere c.args.chain.now.pairs c.args._key.now (sym c.in-None.is ∙ c.requires)) refl

pub discard-requires : goal.discard-requires
discard-requires g c = (
  omega arith,
  (stands_there c.args.chain.now.pairs c.args._key.now c.in-Some.place (sym c.in-Some.is ∙ c.requires)).0,
)
