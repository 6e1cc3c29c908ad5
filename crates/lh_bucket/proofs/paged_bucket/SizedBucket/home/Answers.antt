use Rattle.std.proofs.Common.{◌≡◌, sym, subst}
use Rattle.lh_bucket.specs.declared.verdict.Verdict.TheVariants.{Here}
use Rattle.lh_bucket.specs.Bucket.{Head, Seen, verdict}
use Rattle.lh_bucket.proofs.Kept.{verdict-Here}
use Rattle.lh_bucket.proofs.paged_bucket.SizedBucket.home.Goals as goal

pub new-requires : goal.new-requires
new-requires g c =
    let b = c.self.inside in
    let head : Head = record { number = b.number; initial = b.initial; capacity = b.chain.capacity; level = b.level } in
    let here : verdict head c.args.code c.args.k ≡ Here =
    subst (λ (s : Seen). verdict s.head c.args.code c.args.k ≡ Here) (sym c.self.view_is) c.requires.here in
    record {
      initial = c.self.invariant.initial;
      level = c.requires.low;
      leads = (verdict-Here head c.args.code c.args.k here).0;
    }
