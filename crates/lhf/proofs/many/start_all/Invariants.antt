use Rattle.std.proofs.Common.{◌≡◌, ℕ, ◌<◌, length, slice_index_or}
use Rattle.lh_image.specs.Indexed.{IsStart}
use Rattle.lhf.specs.declared.handle.Ask.{Ask}
use Rattle.lhf.proofs.many.start_all.Given as goal

abbrev pub invariant-loop-place : goal.invariant-loop-place
invariant-loop-place l = record {
  keys : (i : ℕ) → i < length l.asks → (d : Ask) → (slice_index_or l.asks i d).key ≡ (slice_index_or l.fn.asks i d).key;
  started : (i : ℕ) → i < l.place → (d : Ask) →
      IsStart l.root (slice_index_or l.asks i d).key.bytes.now (slice_index_or l.asks i d).start;
}
