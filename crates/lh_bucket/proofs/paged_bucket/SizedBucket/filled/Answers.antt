use Rattle.std.proofs.Common.{Some, sym, subst}
use Rattle.lh_page.specs.PackedList.{PackedList}
use Rattle.lh_bucket.specs.Bucket.{IsKept}
use Rattle.lh_bucket.proofs.Filling.{kept_filled}
use Rattle.lh_bucket.proofs.paged_bucket.SizedBucket.filled.Goals as goal

pub invariant_of-bucket : goal.invariant_of-bucket
invariant_of-bucket g c =
    subst
    (λ (l : PackedList).
    IsKept
    (record {
      head =
          record {
            number = c.args.number;
            initial = c.args.initial;
            capacity = l.capacity;
            level = Some c.args.level;
          };
      pairs = l.pairs;
    })) (sym c.in_ok-chain.ensures.chain)
    (kept_filled c.args.number c.args.initial c.args.capacity c.args.level c.args.pairs.now c.requires.initial
    c.requires.capacity c.requires.level c.requires.distinct c.requires.home)
