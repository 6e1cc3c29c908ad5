use Rattle.std.proofs.Common.{◌≡◌, ℕ, ◌<◌, ◌++◌, List, true, length, take}
use Rattle.lh_image.specs.Chains.{IsPath, stands_in}
use Rattle.lh_image.specs.Plain.{IsNextOf}
use Rattle.lh_image.proofs.checked.apart.chain_into.Given as goal

abbrev pub invariant-loop-count : goal.invariant-loop-count
invariant-loop-count l = record {
  size : length l.chain ≡ 64;
  within : (p : ℕ) → stands_in (take l.count l.chain) p ≡ true → p < length l.index;
  path : (leads : ℕ → ℕ) (rest : List ℕ) → IsNextOf l.index leads → IsPath leads l.page rest →
      IsPath leads l.fn.first (take l.count l.chain ++ rest);
}
