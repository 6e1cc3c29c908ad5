use Rattle.std.proofs.Common.{T, count_ones, sym, ◌∙◌, subst}
use Rattle.std.proofs.lemmas.Nat.{and_mask}
use Rattle.lh_addr.proofs.Powers.{power_of}
use Rattle.lh_addr.proofs.hash.modulo.Goals as goal
use lib.Dec.{eqb→eq}

pub returns-then-is_power_of_two : goal.returns-then-is_power_of_two
returns-then-is_power_of_two c =
    let is = sym c.is_power_of_two.ensures ∙ c.if-is_power_of_two.true in
    let power = power_of c.args.buckets (eqb→eq (count_ones c.args.buckets) 1 (subst T (sym is) tt)) in
    rw power.1 (and_mask c.args.c power.0)
