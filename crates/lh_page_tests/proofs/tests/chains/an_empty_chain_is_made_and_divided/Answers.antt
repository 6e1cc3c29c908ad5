use Rattle.std.proofs.Common.{[], arith}
use Rattle.std.proofs.lemmas.Map.Made.{IsDistinct-from_AllPairs}
use Rattle.std.proofs.lemmas.Slice.Eq.{bytes_eq-Decides}
use Rattle.lh_page_tests.proofs.tests.chains.an_empty_chain_is_made_and_divided.Goals as goal

pub from_pairs-requires : goal.from_pairs-requires
from_pairs-requires g c = (
  omega arith,
  (
    (omega arith, omega arith),
    (
      IsDistinct-from_AllPairs bytes_eq-Decides [] (λ i j d lt below. absurd (omega arith)),
      (omega arith, λ i below narrow. absurd (omega arith)),
    ),
  ),
)
