use Rattle.std.proofs.Common.{◌≡◌, length, ◌++◌, ◌-◌}
use Rattle.lh_image.specs.Chains.{pages_from}
use Rattle.lh_image.specs.Table.{next_in}
use Rattle.lh_image.proofs.judge.chains.chain_from.Given as goal

abbrev pub invariant-loop : goal.invariant-loop
invariant-loop l =
    l.pages.items ++ pages_from (next_in l.entries) (length l.entries - l.counter) l.page ≡
    pages_from (next_in l.fn.entries) (length l.fn.entries) l.fn.first
