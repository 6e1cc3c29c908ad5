use Rattle.std.proofs.Common.{List, ℕ, Some, sym, ap, ◌∙◌}
use Rattle.lh_bucket.proofs.Chained.{stands_there, stands_nowhere}
use Rattle.lh_bucket.proofs.paged_bucket.value_in.Goals as goal

pub returns-in-Some : goal.returns-in-Some
returns-in-Some g c =
    sym ((stands_there c.args.chain.now.pairs c.args.key.now c.in-Some.place c.in-Some.ensures.place).2
    ∙ ap (λ (v : List ℕ). Some v) (sym c.value_at.ensures))

pub returns-in-None : goal.returns-in-None
returns-in-None g c = sym (stands_nowhere c.args.chain.now.pairs c.args.key.now c.in-None.ensures.place)
