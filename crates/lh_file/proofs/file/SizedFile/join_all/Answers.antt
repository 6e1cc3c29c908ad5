use Rattle.std.proofs.Common.{◌≤◌, length, ap, rules, arith}
use Rattle.std.specs.Prelude.{sum_by}
use Rattle.lh_file.specs.Words.HandState.{HandState}
use Rattle.lh_file.proofs.OfWords.Joining.{same_all, same_then}
use Rattle.lh_file.proofs.file.SizedFile.join_all.Goals as goal

pub add_all-requires : goal.add_all-requires
add_all-requires g c =
    let room : sum_by (λ (h : HandState). length h.acts) c.args.others.items ≤ c.reserve.new.self.room =
    omega (
      arith,
      c.in-Ok.ensures.ok,
      c.in-Ok.ensures.few,
      c.acts_of.ensures,
      ap (sum_by (λ (h : HandState). length h.acts)) c.deref.ensures.value,
    ) in
    (search rules, (search rules, (search rules, room)))

pub returns-in-Ok-clause-joined : goal.returns-in-Ok-clause-joined
returns-in-Ok-clause-joined g c =
    same_then _ _ _ (same_all c.args.others.items c.args.first c.reserve.new.self c.in-Ok.ensures.same)
    c.add_all.ensures.joined
