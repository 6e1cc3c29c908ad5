use Rattle.std.proofs.Common.{◌≡◌, ℕ, ◌<◌, ◌≤◌}
use Rattle.lh_addr.specs.Extent.{Extent}
use Rattle.lh_image.specs.declared.header.Header.{Header}
use Rattle.lh_image.specs.Checked.{IsChecked}
use Rattle.lh_image.specs.Indexed.{HasRecordAt}
use Rattle.lh_image.proofs.indexed.next_in.Given as goal

abbrev pub invariant-loop-at : goal.invariant-loop-at
invariant-loop-at l =
    (header : Header) (root : Extent) → l.fn.version ≡ header.version → IsChecked l.bytes header root l.index →
    (i : ℕ) → l.fn.from ≤ i → i < l.at → HasRecordAt l.bytes i → ⊥
