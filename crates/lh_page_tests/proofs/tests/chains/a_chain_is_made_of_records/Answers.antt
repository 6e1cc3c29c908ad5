use Rattle.std.proofs.Common.{ℕ, List, [], ◌∷◌, arith}
use Rattle.std.specs.List.{IsDistinct}
use Rattle.std.specs.Str.{bytes_eq}
use Rattle.std.proofs.lemmas.Map.Made.{IsDistinct-from_AllPairs}
use Rattle.std.proofs.lemmas.Slice.Eq.{bytes_eq-Decides}
use Rattle.lh_page_tests.proofs.tests.chains.a_chain_is_made_of_records.Goals as goal

one_key : (key : List ℕ) → IsDistinct bytes_eq (key ∷ [])
one_key key = IsDistinct-from_AllPairs bytes_eq-Decides (key ∷ []) (λ i j d lt below. absurd (omega arith))

pub from_pairs-requires : goal.from_pairs-requires
from_pairs-requires g c = (
  omega arith,
  ((omega arith, omega arith), (one_key _, (omega arith, λ i below narrow. absurd (omega arith)))),
)

pub from_pairs-requires-in-Err : goal.from_pairs-requires-in-Err
from_pairs-requires-in-Err g c = (
  omega arith,
  ((omega arith, omega arith), (one_key _, (omega arith, λ i below narrow. absurd (omega arith)))),
)
