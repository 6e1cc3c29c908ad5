use Rattle.std.proofs.Common.{◌≡◌, map, take}
use Rattle.lh_subcommands.specs.Loading.{adding}
use Rattle.lh_subcommands.proofs.load.calls_of.Given as goal

abbrev pub invariant-loop-pair : goal.invariant-loop-pair
invariant-loop-pair l = l.calls.items ≡ map adding (take l.pair-index l.pairs)
