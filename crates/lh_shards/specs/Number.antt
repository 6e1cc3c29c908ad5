-- Which shard a key belongs to
use Rattle.std.specs.Prelude.{ℕ, ◌*◌, ◌/◌, ◌%◌, ◌^◌, List, bit_xor}
use Rattle.lh_addr.specs.Fnv.{code_of}

-- a number of 64 bits, exclusive-or its upper 31 bits
abbrev pub folded : ℕ → ℕ
folded n = bit_xor n (n / 2 ^ 33)

-- a code with its bits mixed: the 64-bit finalizer of MurmurHash3
unfoldable pub mixed : ℕ → ℕ
mixed code = folded (folded (folded code * 18397679294719823053 % 2 ^ 64) * 14181476777654086739 % 2 ^ 64)

-- the shard of a code, among so many: the upper 32 bits of the mixed code, in proportion to the number of shards
unfoldable pub shard_of : ℕ → ℕ → ℕ
shard_of code shards = mixed code / 2 ^ 32 * shards / 2 ^ 32

-- the shard of a key
abbrev pub home_of : ℕ → List ℕ → ℕ
home_of shards key = shard_of (code_of key) shards
