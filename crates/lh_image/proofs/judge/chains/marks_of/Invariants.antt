use Rattle.std.proofs.Common.{◌≡◌, ℕ, ◌<◌, length, take, get_or, false}
use Rattle.std.specs.List.{list_any}
use Rattle.lh_image.specs.Chains.{stands_in}
use Rattle.lh_image.proofs.judge.chains.marks_of.Given as goal

abbrev pub invariant-loop-chain : goal.invariant-loop-chain
invariant-loop-chain l = record {
  size : length l.marks.items ≡ l.pages;
  marks : (p : ℕ) → p < l.pages →
      get_or l.marks.items p false ≡ list_any (λ chain. stands_in chain.items p) (take l.chain-index l.chains);
}
