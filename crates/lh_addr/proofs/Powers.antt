-- Numbers of which one bit is set
use Rattle.std.proofs.Common.{◌≡◌, ℕ, zero, suc, ◌/◌, ◌^◌, ◌≤◌, arith, count_ones}
use Rattle.std.proofs.Math.Nat.{pow-suc}
use Rattle.std.proofs.lemmas.Nat.{zero_from_ones, ones_le_self}
use mathlib.Core.Logic.{dite}
use native.Mathlib.Decide.{ℕ_discrete}
use lib.Count.{ones_step}

-- a number up to this one of which one bit is set is 2 to some power
power_below : (d n : ℕ) → n ≤ d → count_ones n ≡ 1 → (k : ℕ) × (n ≡ 2 ^ k)
power_below zero n h e = absurd (omega (arith, ones_le_self n))
power_below (suc d) n h e = let step = ones_step n in
    dite (ℕ_discrete (count_ones (n / 2)) 0)
    (λ none. let half = zero_from_ones (n / 2) none in (0, omega arith))
    (λ some.
    let (k, is) = power_below d (n / 2) (omega arith) (omega arith) in
    let double = pow-suc 2 k in (suc k, omega arith))

-- a number of which one bit is set is 2 to some power
pub power_of : (n : ℕ) → count_ones n ≡ 1 → (k : ℕ) × (n ≡ 2 ^ k)
power_of n = power_below n n (omega arith)
