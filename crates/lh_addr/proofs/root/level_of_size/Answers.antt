-- The difference of the logarithms is the level, or one more.
use Rattle.std.proofs.Common.{◌-◌, arith}
use Rattle.lh_addr.proofs.GrowthLaws.{level_below}
use Rattle.lh_addr.proofs.Logarithms.{difference, logarithm_rises, one_less, raised_below}
use Rattle.lh_addr.proofs.root.level_of_size.Goals as goal

pub overflow_sub-most : goal.overflow_sub-most
overflow_sub-most c =
    logarithm_rises c.ilog2-2.result c.ilog2.result c.args.initial c.args.buckets c.ilog2-2.ensures.power_le
    (omega arith) c.ilog2.ensures.next_power_gt

pub returns-then-buckets-initial : goal.returns-then-buckets-initial
returns-then-buckets-initial c =
    let order = logarithm_rises c.ilog2-2.result c.ilog2.result c.args.initial c.args.buckets
    c.ilog2-2.ensures.power_le (omega arith) c.ilog2.ensures.next_power_gt in
    let small =
    raised_below c.ilog2-2.result c.ilog2.result c.args.initial order c.ilog2-2.ensures.next_power_gt in
    let level = one_less c.ilog2-2.result c.ilog2.result c.args.initial c.args.buckets (omega arith) (omega arith)
    c.ilog2-2.ensures.power_le c.ilog2-2.ensures.next_power_gt c.ilog2.ensures.power_le
    c.ilog2.ensures.next_power_gt (omega (arith, small)) in
    record {
      extent_is = record { initial = (omega arith, omega arith); buckets = (omega arith, omega arith) };
      level_is = level.is;
      low = omega (
        arith,
        level_below c.args.initial (c.ilog2.result - c.ilog2-2.result - 1) 17 (omega arith)
            (omega (arith, level.fits)),
      );
      fits = level.fits;
      full = level.full;
    }

pub returns-else-buckets-initial : goal.returns-else-buckets-initial
returns-else-buckets-initial c =
    let order = logarithm_rises c.ilog2-2.result c.ilog2.result c.args.initial c.args.buckets
    c.ilog2-2.ensures.power_le (omega arith) c.ilog2.ensures.next_power_gt in
    let small =
    raised_below c.ilog2-2.result c.ilog2.result c.args.initial order c.ilog2-2.ensures.next_power_gt in
    let level = difference c.ilog2-2.result c.ilog2.result c.args.initial c.args.buckets (omega arith) (omega arith)
    c.ilog2-2.ensures.power_le c.ilog2.ensures.next_power_gt (omega (arith, small)) in
    record {
      extent_is = record { initial = (omega arith, omega arith); buckets = (omega arith, omega arith) };
      level_is = level.is;
      low = omega (
        arith,
        level_below c.args.initial (c.ilog2.result - c.ilog2-2.result) 17 (omega arith)
            (omega (arith, level.fits)),
      );
      fits = level.fits;
      full = level.full;
    }
