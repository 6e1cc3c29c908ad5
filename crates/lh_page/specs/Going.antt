-- Which records of a list go, by the bits of a word.
use Rattle.std.specs.Prelude.{◌≡◌, ℕ, ◌<◌, ◌≤◌, Bool, List, length, if◌then◌else◌}
use Rattle.std.specs.Int.{bit_at}
use Rattle.lh_page.specs.declared.going.Going.{Going}
use Rattle.lh_page.specs.declared.pair.Pair.{Pair}
use Rattle.lh_page.specs.Records.{key_at}

-- how many records of a list have a bit
abbrev pub bit_room : ℕ
bit_room = 64

-- the bit of a place, where it has one, is set exactly where the key of the record there passes a test
abbrev pub IsBitOf : (List ℕ → Bool) → Going → List Pair → ℕ → Type 0
IsBitOf test going pairs place =
    place < bit_room → bit_at going.bits place ≡ (if test (key_at pairs place) then 1 else 0)

-- this holds of the bit of each record, and no other bit is set
pub record AreBitsOf (test : List ℕ → Bool) (going : Going) (pairs : List Pair) : Type 0 where
  pub each : (i : ℕ) → i < length pairs → IsBitOf test going pairs i
  pub others : (i : ℕ) → length pairs ≤ i → bit_at going.bits i ≡ 0
