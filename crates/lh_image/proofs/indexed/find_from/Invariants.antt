use Rattle.std.proofs.Common.{◌≡◌}
use Rattle.lh_addr.specs.Extent.{Extent}
use Rattle.lh_image.specs.declared.header.Header.{Header}
use Rattle.lh_image.specs.Checked.{IsChecked}
use Rattle.lh_image.specs.Indexed.{IsStart}
use Rattle.lh_image.specs.Layout.{view_of}
use Rattle.lh_image.proofs.Looking.Steps.{IsOnItsWay}
use Rattle.lh_image.proofs.indexed.find_from.Given as goal

abbrev pub invariant-loop : goal.invariant-loop
invariant-loop l =
    (header : Header) → (root : Extent) → l.fn.version ≡ header.version → IsChecked l.bytes header root l.index →
    IsStart root l.key l.start → IsOnItsWay (view_of l.bytes) l.key header.pages l.counter l.number
