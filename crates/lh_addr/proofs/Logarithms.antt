-- The binary logarithms of the number of buckets that a file began with, and of the number that it has
use Rattle.std.proofs.Common.{◌≡◌, ℕ, zero, suc, ◌+◌, ◌-◌, ◌*◌, ◌^◌, ◌<◌, ◌≤◌, inl, inr, refl, sym, ap, ◌∙◌, subst}
use Rattle.std.proofs.Common.{arith}
use Rattle.std.proofs.Common.{add-one}
use Rattle.std.proofs.Math.Pow.{pow_mono}
use Rattle.std.proofs.Math.Nat.{pow-suc}
use Rattle.std.proofs.lemmas.Bool.{cases_lt}
use Rattle.std.proofs.lemmas.Nat.{mul-le, pow-add, pow_pos}
use Rattle.lh_addr.specs.Growth.{level}
use Rattle.lh_addr.proofs.GrowthLaws.{level_only}

pow_step : (k : ℕ) → 2 ^ (k + 1) ≡ 2 * 2 ^ k
pow_step k = rw (add-one, pow-suc) (grind arith)

-- the greater number has the greater logarithm
pub logarithm_rises : (low high N S : ℕ) → 2 ^ low ≤ N → N ≤ S → S < 2 * 2 ^ high → low ≤ high
logarithm_rises low high N S from more below =
    elim (cases_lt high low) [
      | inl less ↦ let p : 2 ^ (high + 1) ≤ 2 ^ low =
          pow_mono (omega (arith, less)) in let e = pow_step high in absurd (omega (arith, p, e, from, more, below))
      | inr order ↦ omega (arith, order)
    ]

-- what the difference of two logarithms makes of a power
power_raised : (low high : ℕ) → low ≤ high → 2 ^ high ≡ 2 ^ low * 2 ^ (high - low)
power_raised low high order =
    let e : high ≡ low + (high - low) = omega (arith, order) in ap (λ k. 2 ^ k) e ∙ pow-add 2 low (high - low)

-- raised by the difference of the logarithms, the smaller number has the greater logarithm
raised_from : (low high N : ℕ) → low ≤ high → 2 ^ low ≤ N → 2 ^ high ≤ N * 2 ^ (high - low)
raised_from low high N order from =
    let e = power_raised low high order in
    let m = mul-le (2 ^ low) (2 ^ (high - low)) N (2 ^ (high - low)) from (omega arith) in
    omega (arith, e, m)

-- what is below twice a power of two stays so when both are doubled as often
pub raised_below : (low high N : ℕ) → low ≤ high → N < 2 * 2 ^ low → N * 2 ^ (high - low) < 2 * 2 ^ high
raised_below low high N order below =
    let e = power_raised low high order in
    let some = pow_pos (high - low) in
    let m : (N + 1) * 2 ^ (high - low) ≤ (2 * 2 ^ low) * 2 ^ (high - low) =
    mul-le (N + 1) (2 ^ (high - low)) (2 * 2 ^ low) (2 ^ (high - low)) (omega (arith, below)) (omega arith) in
    grind (arith, e, m, some)

-- a level that fits, and above which none does
pub record IsLevel (N S k : ℕ) : Type 0 where
  pub is : k ≡ level N S
  pub fits : N * 2 ^ k ≤ S
  pub full : S < 2 * (N * 2 ^ k)

-- the difference of the logarithms is the level where so many doublings fit,
pub difference : (low high N S : ℕ) → 1 ≤ N → N ≤ S → 2 ^ low ≤ N → S < 2 * 2 ^ high → N * 2 ^ (high - low) ≤ S →
    IsLevel N S (high - low)
difference low high N S one some from below fits =
    let r = raised_from low high N (logarithm_rises low high N S from some below) from in
    let full : S < 2 * (N * 2 ^ (high - low)) = omega (arith, r, below) in
    record { is = level_only N S (high - low) fits full one some; fits = fits; full = full }

below_difference : (d low high N S : ℕ) → high - low ≡ d → 1 ≤ N → N ≤ S → N * 2 ^ d < 2 * 2 ^ high → 2 ^ high ≤ S →
    S < N * 2 ^ d → IsLevel N S (d - 1)
below_difference zero low high N S is one some raised from less = absurd (omega (arith, some, less))
below_difference (suc d) low high N S is one some raised from less =
    let e : N * 2 ^ suc d ≡ 2 * (N * 2 ^ d) = rw pow-suc (grind arith) in
    let fits : N * 2 ^ d ≤ S = omega (arith, e, raised, from) in
    let full : S < 2 * (N * 2 ^ d) = omega (arith, e, less) in
    let same : suc d - 1 ≡ d = omega arith in
    subst (IsLevel N S) (sym same) (record { is = level_only N S d fits full one some; fits = fits; full = full })

-- and else the one before it is
pub one_less : (low high N S : ℕ) → 1 ≤ N → N ≤ S → 2 ^ low ≤ N → N < 2 * 2 ^ low → 2 ^ high ≤ S → S < 2 * 2 ^ high →
    S < N * 2 ^ (high - low) → IsLevel N S (high - low - 1)
one_less low high N S one some from under to below less =
    below_difference (high - low) low high N S refl one some
    (raised_below low high N (logarithm_rises low high N S from some below) under) to less
