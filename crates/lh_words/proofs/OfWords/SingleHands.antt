-- What a sum over the views says of single views
use Rattle.std.proofs.Common.{◌≡◌, ℕ, suc, List, [], ◌∷◌, refl, arith}
use mathlib.Core.Option.{some}
use mathlib.Core.Logic.{dite}
use native.Mathlib.Decide.{ℕ_discrete}
use lib.ListN.{get_elem?}
use Rattle.lh_words.specs.Rule.{Each}
use Rattle.lh_words.specs.RuleLaws.{IsInOne}
use Rattle.lh_words.specs.Sums.{total}
use Rattle.lh_words.specs.declared.view.View.{View}
use Rattle.lh_words.specs.SumLaws.{total-cons, term_le, terms_le}

some_one : (count : View → ℕ) (l : List View) → total count l ≡ 1 →
    (id : ℕ) × (v : View) × (get_elem? l id ≡ some v) × (count v ≡ 1)
some_one count [] e = absurd (omega arith)
some_one count (x ∷ xs) e = dite (ℕ_discrete (count x) 1)
    (λ is. (0, x, refl, is))
    (λ not. let r = some_one count xs (omega (arith, total-cons count x xs)) in (suc r.0, r.1, r.2, r.3))

-- a total of one lies in one view
pub in-one : (count : View → ℕ) (l : List View) → total count l ≡ 1 → IsInOne count l
in-one count l e = let found = some_one count l e in record {
  id = found.0;
  view = found.1;
  there = found.2;
  one = found.3;
  others =
      λ j w apart at.
      let both = terms_le count l found.0 j found.1 w apart found.2 at in let is = found.3 in omega arith;
}

-- and a total of none in no view
pub in-none : (count : View → ℕ) (l : List View) → total count l ≡ 0 → Each l (λ v. count v ≡ 0)
in-none count l e id v at = let low = term_le count l id v at in omega arith
