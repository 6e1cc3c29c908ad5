use Rattle.std.proofs.Common.{sym, subst}
use Rattle.lh_page.specs.PackedList.{PackedList}
use Rattle.lh_bucket.specs.Bucket.{IsKept}
use Rattle.lh_bucket.proofs.Kept.{kept_none}
use Rattle.lh_bucket.proofs.paged_bucket.SizedBucket.make.Goals as goal

pub invariant_of-result : goal.invariant_of-result
invariant_of-result g c =
    subst
    (λ (l : PackedList).
    IsKept
    (record {
      head =
          record {
            number = c.args.number;
            initial = c.args.initial;
            capacity = l.capacity;
            level = c.args.level;
          };
      pairs = l.pairs;
    }))
    (sym c.in_ok-chain.ensures.empty)
    (kept_none
    (record { number = c.args.number; initial = c.args.initial; capacity = c.args.capacity; level = c.args.level })
    c.requires.initial c.requires.capacity c.requires.level)
