-- Of one shard it is the first: the upper 32 bits of the mixed code are below 2^32.
use Rattle.std.proofs.Common.{◌≡◌, ℕ, ◌*◌, ◌/◌, ◌^◌, ◌<◌, ◌%◌, sym, ap, ◌∙◌, arith}
use Rattle.std.proofs.lemmas.Nat.{xor_lt}
use Rattle.std.proofs.Math.Nat.{mod-lt}
use Rattle.lh_shards.specs.Number.{folded, mixed, shard_of}
use Rattle.lh_shards.proofs.number.shard_of.Goals as goal

mixed_below : (code : ℕ) → mixed code < 2 ^ 64
unfolding mixed
mixed_below code =
    let m : ℕ = folded (folded code * 18397679294719823053 % 2 ^ 64) * 14181476777654086739 % 2 ^ 64 in
    let below : m < 2 ^ 64 = mod-lt _ (omega arith) in
    xor_lt 64 m (m / 2 ^ 33) below (omega (arith, below))

first : (code : ℕ) → 0 ≡ shard_of code 1
unfolding shard_of
first code = omega (arith, mixed_below code)

pub returns-then-shards-eq1-clause-value : goal.returns-then-shards-eq1-clause-value
returns-then-shards-eq1-clause-value c = first c.args.code ∙ ap (shard_of c.args.code) (sym c.if-shards-eq1.true)
