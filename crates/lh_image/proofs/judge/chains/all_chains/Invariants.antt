use Rattle.std.proofs.Common.{◌≡◌, length, map}
use Rattle.std.specs.List.{range_with_len}
use Rattle.lh_image.specs.Chains.{chain}
use Rattle.lh_image.specs.Table.{next_in}
use Rattle.lh_image.proofs.judge.chains.all_chains.Given as goal

abbrev pub invariant-loop-bucket : goal.invariant-loop-bucket
invariant-loop-bucket l =
    map (λ chain. chain.items) l.chains.items ≡
    map (chain (next_in l.entries) (length l.entries)) (range_with_len 0 l.bucket)
