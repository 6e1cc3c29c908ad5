use Rattle.std.proofs.Common.{◌≡◌}
use Rattle.lh_addr.specs.Fnv.{code_of}
use Rattle.lh_image.specs.Checked.{code_mark}
use Rattle.lh_image.specs.Indexed.{IsGoodPage}
use Rattle.lh_image.proofs.Looking.Indexed.{IsElsewhere}
use Rattle.lh_image.proofs.indexed.place_among.Given as goal

abbrev pub invariant-loop-left : goal.invariant-loop-left
invariant-loop-left l =
    IsGoodPage l.fn.format l.page l.entry → l.fn.mark ≡ code_mark (code_of l.key) →
    IsElsewhere l.fn.format l.page l.key l.left

abbrev pub decreases-loop-left : goal.decreases-loop-left
decreases-loop-left l = l.left
