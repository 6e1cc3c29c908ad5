use Rattle.std.proofs.Common.{◌≡◌, ◌<◌, ℕ, length, slice_index_or, ◌||◌, false, take}
use Rattle.lh_image.specs.Chains.{stands_in}
use Rattle.lh_image.proofs.judge.chains.mark.Given as goal

abbrev pub invariant-loop-page : goal.invariant-loop-page
invariant-loop-page l = record {
  size : length l.marks ≡ length l.fn.marks;
  marked : (p : ℕ) → p < length l.fn.marks →
      slice_index_or l.marks p false ≡ (slice_index_or l.fn.marks p false || stands_in (take l.page-index l.pages) p);
}
