-- Which keys a split sends away
use Rattle.std.specs.Prelude.{ℕ, Bool, List, ◌==◌}
use Rattle.lh_addr.specs.Fnv.{code_of}
use Rattle.lh_addr.specs.Growth.{hash_at}

-- whether a key's code leads to a bucket at a level
abbrev pub leads_to : ℕ → ℕ → ℕ → List ℕ → Bool
leads_to initial level number key = hash_at initial level (code_of key) == number
