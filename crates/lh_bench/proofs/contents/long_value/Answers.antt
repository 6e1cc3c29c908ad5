use Rattle.std.proofs.Common.{◌≡◌, length, take, sym, arith, length-take-le}
use Rattle.std.proofs.lemmas.Bool.{false≢true}
use Rattle.lh_bench.proofs.contents.long_value.Goals as goal

pub slice_bounds-new-end : goal.slice_bounds-new-end
slice_bounds-new-end c = sym (length-take-le 100 c.places-in-None-1.given.0 (omega arith))

pub unreachable-requires : goal.unreachable-requires
unreachable-requires c =
    let same : length (take 100 c.places-in-None-1.given.0) ≡ 100 =
    length-take-le 100 c.places-in-None-1.given.0 (omega arith) in
    false≢true (c.in-Err.ensures.variant.1 (omega (arith, same)))
