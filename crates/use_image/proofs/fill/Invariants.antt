use Rattle.lh_file.specs.FileState.{IsOf}
use Rattle.use_image.proofs.fill.Given as goal

abbrev pub invariant-loop-word : goal.invariant-loop-word
invariant-loop-word g l = IsOf l.file.state l.hand
