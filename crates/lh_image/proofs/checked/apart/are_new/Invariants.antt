use Rattle.lh_image.specs.Layout.{page}
use Rattle.lh_image.specs.LookUp.{first_pairs}
use Rattle.lh_image.specs.Plain.{AreNew, IsIndexOf, keys_on}
use Rattle.lh_image.specs.Version.{format_of, version_of}
use Rattle.lh_image.proofs.checked.apart.are_new.Given as goal

abbrev pub invariant-loop-place : goal.invariant-loop-place
invariant-loop-place l =
    IsIndexOf l.bytes l.fn.version l.index →
    AreNew (keys_on l.bytes l.before)
    (first_pairs (format_of (version_of l.bytes)) (page l.bytes l.fn.number) l.place)
