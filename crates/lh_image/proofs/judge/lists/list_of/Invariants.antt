use Rattle.std.proofs.Common.{◌≡◌, take}
use Rattle.std.specs.List.{flat_map}
use Rattle.lh_image.specs.Table.{page_records}
use Rattle.lh_image.proofs.judge.lists.list_of.Given as goal

abbrev pub invariant-loop-page : goal.invariant-loop-page
invariant-loop-page l =
    l.list.items ≡ flat_map (page_records l.table.entries.items l.table.pairs.items) (take l.page-index l.chain)
