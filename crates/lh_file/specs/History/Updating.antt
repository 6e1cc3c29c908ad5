-- Hands that only update keys by one function, whatever threads do with them
use Rattle.std.specs.Prelude.{◌≡◌, ℕ, List}
use Rattle.lh_file.specs.FileState.{FileState}
use Rattle.lh_file.specs.History.Met.{OnlyUpdate}
use Rattle.lh_file.specs.History.Own.{IsOwn}
use Rattle.lh_file.specs.Words.HandState.{HandState}

-- The hand is this file's own, and its acts only update keys by `makes`: each adds its key with this first value,
-- gives it
-- what `makes` makes of the value that is there, or searches for it.
pub record IsUpdating (makes : List ℕ → List ℕ) (first : List ℕ) (file : FileState) (hand : HandState) : Type 0 where
  pub own : IsOwn file hand
  pub only : (key : List ℕ) → OnlyUpdate makes first key hand.entries

-- what a closure returns is what `makes` makes
abbrev pub Follows : (List ℕ → List ℕ) → (List ℕ → List ℕ → Type 0) → Type 0
Follows makes returns = (was value : List ℕ) → returns was value → value ≡ makes was
