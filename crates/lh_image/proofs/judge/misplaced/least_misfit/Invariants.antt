use Rattle.std.proofs.Common.{◌<◌, [], ℕ, Bool, length, map, get_or, take}
use Rattle.std.specs.List.{flat_map}
use Rattle.lh_image.specs.Misplaced.{IsLeastAmong, IsTestOf, is_home}
use Rattle.lh_image.specs.Table.{page_records}
use Rattle.lh_image.proofs.judge.misplaced.least_misfit.Given as goal

abbrev pub invariant-loop-bucket : goal.invariant-loop-bucket
invariant-loop-bucket l =
    (bad : ℕ → Bool) →
    ((i : ℕ) → i < length l.chains →
    IsTestOf bad (is_home l.root i) (page_records l.table.entries.items l.table.pairs.items)
    (get_or (map (λ chain. chain.items) l.chains) i [])) →
    IsLeastAmong bad (flat_map (λ chain. chain.items) (take l.bucket l.chains)) l.least
