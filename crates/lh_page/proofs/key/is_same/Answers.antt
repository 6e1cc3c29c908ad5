use Rattle.std.proofs.Common.{◌≡◌, ◌≢◌, sym, ◌∙◌}
use Rattle.std.proofs.lemmas.Bool.{OnTrue_from, OnFalse_from, both_ways}
use Rattle.lh_page.proofs.Words.{same_from_words, words_from_same}
use Rattle.lh_page.proofs.key.is_same.Goals as goal

pub returns-clause-same : goal.returns-clause-same
returns-clause-same c =
    OnTrue_from c.agree.result (c.args.a.now ≡ c.args.b.now)
    (λ passed.
    same_from_words c.args.a.now c.args.b.now c.told-a c.told-b c.fits-a c.fits-b (sym c.agree.ensures ∙ passed))

pub returns-clause-other : goal.returns-clause-other
returns-clause-other c =
    OnFalse_from c.agree.result (c.args.a.now ≢ c.args.b.now)
    (λ differ same. both_ways _ (sym c.agree.ensures ∙ differ) (words_from_same c.args.a.now c.args.b.now same))
