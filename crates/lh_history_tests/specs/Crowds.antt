-- What a thread of a crowd has
use Rattle.std.specs.Prelude.{◌≡◌, false}
use Rattle.lh_file.specs.FileState.{FileState, IsOf}
use Rattle.lh_file.specs.Words.HandState.{HandState}

-- the hand is one of this file, and hasn't the right to split
pub record IsFree (file : FileState) (hand : HandState) : Type 0 where
  pub of : IsOf file hand
  pub right : hand.view.has_right ≡ false
