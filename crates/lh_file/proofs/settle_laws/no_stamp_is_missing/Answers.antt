use Rattle.lh_file.proofs.OfHistory.NoneMissing.{none_missing_law}
use Rattle.lh_file.proofs.settle_laws.no_stamp_is_missing.Goals as goal

pub returns : goal.returns
returns c = none_missing_law
