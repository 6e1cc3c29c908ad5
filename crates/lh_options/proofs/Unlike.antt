-- Texts that a test tells apart
use Rattle.std.proofs.Common.{◌≡◌, ◌∙◌, ℕ, List, false, sym}
use Rattle.std.specs.Str.{bytes_eq}
use Rattle.std.proofs.lemmas.Bool.{false≢true}
use Rattle.std.proofs.lemmas.Slice.Eq.{bytes_eq-Decides}

-- texts that the test tells apart are not the same
pub unlike : (a b : List ℕ) → bytes_eq a b ≡ false → a ≡ b → ⊥
unlike a b apart same = false≢true (sym apart ∙ (bytes_eq-Decides a b).1 same)
