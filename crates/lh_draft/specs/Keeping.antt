-- How far a new file is once it was to be kept
use Rattle.std.specs.Prelude.{Result, Ok, Err}
use Rattle.lh_draft.specs.declared.draft.KeepFault.{KeepFault}
use Rattle.lh_draft.specs.declared.draft.KeepFault.TheVariants.{Sync, Rename, Folder}
use Rattle.lh_draft.specs.declared.draft.Stage.{Stage}
use Rattle.lh_draft.specs.declared.draft.Stage.TheVariants.{Named, Durable, Removed}

-- It has its name for good; or it has it, though perhaps not on the disk; or it is removed.
abbrev pub stage_after : Result (Unit {0}) KeepFault → Stage
stage_after (Ok done) = Durable
stage_after (Err (Folder error)) = Named
stage_after (Err (Sync error)) = Removed
stage_after (Err (Rename error)) = Removed
