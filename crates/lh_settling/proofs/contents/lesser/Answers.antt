use Rattle.std.proofs.Common.{◌∙◌, inr, refl, sym, subst}
use Rattle.std.specs.Option.{IfSome}
use Rattle.std.proofs.Common.{ℕ, List, Option}
use Rattle.std.specs.Cmp.Lexicographic.{nat_list_cmp_total}
use Rattle.lh_settling.specs.Contents.{IsBefore}
use Rattle.lh_settling.proofs.Values.{before_greater}
use Rattle.lh_settling.proofs.contents.lesser.Goals as goal

pub returns-in-Less-clause-second : goal.returns-in-Less-clause-second
returns-in-Less-clause-second c =
    λ q b. nat_list_cmp_total.trans q c.in-Some.first c.args.second b (sym c.cmp.ensures ∙ c.in-Less.is)

pub returns-in_default : goal.returns-in_default
returns-in_default c = record {
  either = inr refl;
  second = λ q b. b;
  first = subst (λ (o : Option (List ℕ)). IfSome o (λ f. (q : List ℕ) → IsBefore q c.args.second → IsBefore q f))
      (sym c.in-Some.is)
      (before_greater c.in-Some.first c.args.second (λ e. c.in_default.not-Less (c.cmp.ensures ∙ e)));
}
