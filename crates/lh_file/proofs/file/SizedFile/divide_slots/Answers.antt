-- A bucket that isn't divided is as it was, and so is its seat.
use Rattle.lh_file.proofs.OfBuckets.Slots.{kept}
use Rattle.lh_file.proofs.file.SizedFile.divide_slots.Goals as goal

pub invariant_of-old-in_err-divide : goal.invariant_of-old-in_err-divide
invariant_of-old-in_err-divide g c =
    kept g.J.FileBrand.named g.J.FileBrand.tables c.old.inside.bucket c.divide-2.new.old c.old.inside.seat
    c.in_err-divide.ensures.old_unchanged c.old.invariant
