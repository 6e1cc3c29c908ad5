use Rattle.std.proofs.Common.{◌∙◌, sym, map, subst}
use Rattle.lh_settling.specs.Contents.{IsLeastAway}
use Rattle.lh_settling.proofs.Away.{list_read, home_more}
use Rattle.lh_settling.proofs.contents.first_away.Goals as goal

pub returns-in-Some-clause-some : goal.returns-in-Some-clause-some
returns-in-Some-clause-some c =
    let is = list_read
    (λ v. v.items) c.args.lists.now c.loop-bucket.bucket c.index-lists-bucket.result c.loop-bucket-test.true
    c.index-lists-bucket.is ∙ sym c.deref.ensures.value in
    record {
      stands = subst
          (λ ps. IsLeastAway c.args.root.now.initial c.args.root.now.buckets c.loop-bucket.bucket ps c.in-Some.key)
          (sym is) c.in-Some.ensures.some;
      before = λ b p. c.loop-bucket.invariant b p;
    }

pub loop-bucket-preserved : goal.loop-bucket-preserved
loop-bucket-preserved c =
    home_more c.args.root.now.initial c.args.root.now.buckets
    (map (λ v. v.items) c.args.lists.now) c.loop-bucket.bucket c.deref.result.now
    (list_read
    (λ v. v.items) c.args.lists.now c.loop-bucket.bucket c.index-lists-bucket.result c.loop-bucket-test.true
    c.index-lists-bucket.is ∙ sym c.deref.ensures.value)
    c.in_default.ensures.none c.loop-bucket.invariant
