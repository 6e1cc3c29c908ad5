use Rattle.std.proofs.Common.{◌∙◌, List, [], ◌∷◌, ◌++◌, map, take, sym, ap}
use Rattle.std.proofs.lemmas.List.{map_more}
use Rattle.lh_bucket.specs.declared.call.Call.{Call}
use Rattle.lh_page.specs.declared.pair.Pair.{Pair}
use Rattle.lh_subcommands.specs.Loading.{adding}
use Rattle.lh_subcommands.proofs.load.calls_of.Goals as goal

pub loop-pair-preserved : goal.loop-pair-preserved
loop-pair-preserved c =
    let pairs = c.args.pairs.now in
    let item = c.pair-item.result in
    c.in_ok-push.ensures.items
    ∙ ap (λ (calls : List Call). calls ++ adding item ∷ []) c.loop-pair.invariant
    ∙ ap (λ (p : Pair). map adding (take c.loop-pair.pair-index pairs) ++ adding p ∷ []) c.pair-item.is
    ∙ sym (map_more adding pairs c.loop-pair.pair-index item c.loop-pair-test.true)
