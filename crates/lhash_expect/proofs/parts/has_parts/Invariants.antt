use Rattle.std.proofs.Common.{◌≡◌, All, take}
use Rattle.lhash_expect.specs.Parts.{times_in}
use Rattle.lhash_expect.proofs.parts.has_parts.Given as goal

abbrev pub invariant-loop-part : goal.invariant-loop-part
invariant-loop-part l = All (λ row. times_in row.0.now l.written ≡ row.1) (take l.part-index l.parts)
