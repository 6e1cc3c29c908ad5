use Rattle.std.proofs.Common.{◌≡◌, ℕ, ◌<◌, length, get_or}
use Rattle.lh_addr.specs.Fnv.{code_of}
use Rattle.lh_page.specs.PageFields.{pair_of}
use Rattle.lh_page.specs.PageTable.{slot}
use Rattle.lh_image.specs.Checked.{code_mark}
use Rattle.lh_image.proofs.checked.index.index_of.Given as goal

abbrev pub invariant-loop-place : goal.invariant-loop-place
invariant-loop-place l = record {
  size : length l.marks ≡ 24;
  marks : (i : ℕ) → i < l.place →
      get_or l.marks i 0 ≡ code_mark (code_of (pair_of l.fn.format (slot l.fn.format l.page i)).key);
}
