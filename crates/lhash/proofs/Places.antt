-- Places that are a step apart: how many there are below a number, from one on, and from each of the first ones on
use Rattle.std.proofs.Common.{◌≡◌, ◌∙◌, ℕ, ◌+◌, ◌-◌, ◌*◌, ◌/◌, ◌%◌, ◌<◌, ◌≤◌, min, ap, add-mul, div-add-mod'}
use Rattle.std.proofs.Common.{mul-le-mul_right, mul_comm, zero-mul, inl, inr, arith}
use Rattle.std.specs.Int.{div_ceil}
use Rattle.std.proofs.lemmas.Bool.{cases_lt, cases_order}
use Rattle.std.proofs.lemmas.Grind.{div_ceil_times}
use Rattle.std.proofs.lemmas.Nat.{row_fits, mod_below}
use Rattle.lhash.specs.Crew.{places_from}

row_more : (a b : ℕ) → (a + 1) * b ≡ a * b + b
row_more a b = omega (arith, add-mul a 1 b)

-- one number of rows at most ends a row's length or less past a number
one_row : (m step q d : ℕ) → m ≤ q * step → q * step < m + step → m ≤ d * step → d * step < m + step → d ≡ q
one_row m step q d low high under over =
    elim (cases_order d q) [
      | inl same ↦ same
      | inr (inl less) ↦ absurd (omega (arith, under, high, row_fits d step q step less (omega arith)))
      | inr (inr more) ↦ absurd (omega (arith, over, low, row_fits q step d step more (omega arith)))
    ]

-- what a quotient that is rounded up is
ceil_is : (m step q : ℕ) → 0 < step → m ≤ q * step → q * step < m + step → div_ceil m step ≡ q
ceil_is m step q some low high =
    let d = div_ceil_times m step some in
    one_row m step q (div_ceil m step) low high d.0 d.1

-- from a place on that isn't below the number there is none
pub places_from-none : (first step count : ℕ) → 0 < step → count ≤ first → places_from first step count ≡ 0
places_from-none first step count some none =
    ceil_is (count - first) step 0 some (omega (arith, none)) (omega (arith, some, zero-mul step))

next_is : (first step count rest : ℕ) → 0 < step → first < count → count - (first + step) ≤ rest * step →
    rest * step < count - (first + step) + step →
    (count ≤ first + step → rest ≡ 0) → div_ceil (count - first) step ≡ rest + 1
next_is first step count rest some here low high none =
    let more = row_more rest step in
    elim (cases_lt (first + step) count) [
      | inl there ↦
          ceil_is (count - first) step (rest + 1) some (omega (arith, more, low)) (omega (arith, more, high, there))
      | inr past ↦
          let is : rest * step ≡ 0 = ap (λ r. r * step) (none past) ∙ zero-mul step in
          ceil_is (count - first) step (rest + 1) some (omega (arith, more, low)) (omega (arith, more, is, here))
    ]

-- one of them, and those from the next on
pub places_from-next : (first step count : ℕ) → 0 < step → first < count →
    places_from first step count ≡ places_from (first + step) step count + 1
places_from-next first step count some here =
    let d = div_ceil_times (count - (first + step)) step some in
    next_is first step count (places_from (first + step) step count) some here d.0 d.1
    (places_from-none (first + step) step count some)

-- how many places below a number there are, from each of the first ones on, a step apart: one in each whole row, and
-- one in the last row where that reaches so far
abbrev pub places_before : ℕ → ℕ → ℕ → ℕ
places_before first step count = first * (count / step) + min first (count % step)

more_is : (first step count q r : ℕ) → first < step → q * step + r ≡ count → r < step →
    div_ceil (count - first) step ≡ q + (min (first + 1) r - min first r)
more_is first step count q r within is below =
    elim (cases_lt first r) [
      | inl reached ↦
          ceil_is (count - first) step (q + 1) (omega arith) (omega (arith, row_more q step))
          (omega (arith, row_more q step)) ∙ omega arith
      | inr past ↦ ceil_is (count - first) step q (omega arith) (omega arith) (omega arith) ∙ omega arith
    ]

more_sum : (first q r places : ℕ) → places ≡ q + (min (first + 1) r - min first r) →
    (first + 1) * q + min (first + 1) r ≡ first * q + min first r + places
more_sum first q r places is = omega (arith, row_more first q, is)

-- one more of the first places adds the places from it on
pub places_before-more : (first step count : ℕ) → first < step →
    places_before (first + 1) step count ≡ places_before first step count + places_from first step count
places_before-more first step count within =
    more_sum first (count / step) (count % step) (places_from first step count)
    (more_is first step count (count / step) (count % step) within (div-add-mod' count step)
    (mod_below count step (omega arith)))

-- from each place of the first row on there are all
pub places_before-all : (step count : ℕ) → 0 < step → places_before step step count ≡ count
places_before-all step count some =
    omega (arith, div-add-mod' count step, mul_comm step (count / step), mod_below count step some)

-- the places from each of the first ones on are together no more than the number
pub places_before-within : (first step count : ℕ) → 0 < step → first ≤ step → places_before first step count ≤ count
places_before-within first step count some within =
    omega (arith, mul-le-mul_right (count / step) within, places_before-all step count some)

-- where the places from each of the first ones on were dealt of so many, which there are at most, what is left has room
-- for those from the next one on
pub places_before-left : (first step count left most : ℕ) → first < step → count ≤ most →
    left + places_before first step count ≡ most →
    (left ≡ left - places_from first step count + places_from first step count)
    × (left - places_from first step count + places_before (first + 1) step count ≡ most)
places_before-left first step count left most within few kept =
    let more = places_before-more first step count within in
    let all = places_before-within (first + 1) step count (omega arith) (omega arith) in
    (omega (arith, kept, more, all, few), omega (arith, kept, more, all, few))
