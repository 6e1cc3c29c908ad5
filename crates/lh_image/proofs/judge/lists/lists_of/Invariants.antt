use Rattle.std.proofs.Common.{◌≡◌, take, map}
use Rattle.std.specs.List.{flat_map}
use Rattle.lh_image.specs.Table.{page_records}
use Rattle.lh_image.proofs.judge.lists.lists_of.Given as goal

abbrev pub invariant-loop-chain : goal.invariant-loop-chain
invariant-loop-chain l =
    map (λ list. list.items) l.lists.items ≡
    map (λ chain. flat_map (page_records l.table.entries.items l.table.pairs.items) chain.items)
    (take l.chain-index l.chains)
