use Rattle.lh_image.specs.Misplaced.{is_home}
use Rattle.lh_image.specs.Plain.{HasMarks}
use Rattle.lh_image.proofs.checked.plain.mark_records.Given as goal

abbrev pub invariant-loop-place : goal.invariant-loop-place
invariant-loop-place l = HasMarks l.fn.format l.page (is_home l.root l.bucket) l.place l.marks
