use Rattle.std.proofs.Common.{[], take}
use Rattle.std.specs.List.{flat_map}
use Rattle.lh_image.specs.Layout.{view_of}
use Rattle.lh_image.specs.Plain.{AreNew, IsIndexOf}
use Rattle.lh_image.proofs.checked.apart.is_apart.Given as goal

abbrev pub invariant-loop-place : goal.invariant-loop-place
invariant-loop-place l =
    IsIndexOf l.bytes l.fn.version l.index → AreNew [] (flat_map (view_of l.bytes).records (take l.place l.chain))
