-- One place more adds one where the part stands there.
use Rattle.std.proofs.Common.{arith, cond}
use Rattle.std.proofs.lemmas.Grind.{common_steps}
use Rattle.std.proofs.lemmas.List.FromFn.{sum_by-map-range_with_len_more}
use Rattle.lhash_expect.specs.Parts.{is_part_at}
use Rattle.lhash_expect.proofs.parts.count_of.Goals as goal
use Rattle.lhash_expect.proofs.parts.count_of.Goals.{then-starts_with, else-starts_with}

pub loop-place-preserved : goal.loop-place-preserved
loop-place-preserved c =
    let part = c.args.part.now in
    let more = sum_by-map-range_with_len_more (λ b. cond b 1 0) (is_part_at part c.args.bytes.now) 0 c.loop-place.place
    c.loop-place.place (omega arith) in
    elim c.if-starts_with.branch [
      | then-starts_with w ↦ grind (arith, common_steps, more)
      | else-starts_with w ↦ grind (arith, common_steps, more)
    ]
