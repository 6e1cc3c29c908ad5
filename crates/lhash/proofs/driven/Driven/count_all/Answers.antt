use Rattle.std.proofs.Common.{List, ◌++◌, length-append, take, subst, arith}
use Rattle.std.proofs.lemmas.List.{length-map, length-take, take_all}
use Rattle.lh_bucket.specs.declared.call.Reply.{Reply}
use Rattle.lh_settling.specs.Acts.{replies_of}
use Rattle.lhash.specs.Driven.{Counts}
use Rattle.lhash.proofs.Counting.{counts-more}
use Rattle.lhash.proofs.driven.Driven.count_all.Goals as goal

pub count-requires : goal.count-requires
count-requires c =
    let first = c.requires.0 in
    let more = take c.loop-stamp.stamp (replies_of c.args.history.now) in (
      first ++ more,
      c.loop-stamp.invariant.counts first c.requires.1,
      omega (
        arith,
        length-append first more,
        length-take c.loop-stamp.stamp (replies_of c.args.history.now),
        c.loop-stamp-test.true,
        c.len-stamp-end.ensures,
        c.requires.2,
      ),
    )

pub loop-stamp-preserved : goal.loop-stamp-preserved
loop-stamp-preserved c =
    record {
      counts =
          λ first counted.
          counts-more first c.args.history.now c.loop-stamp.stamp c.at.result _
          (omega (arith, c.loop-stamp-test.true, c.len-stamp-end.ensures)) c.at.ensures
          (c.count.ensures.counts (first ++ take c.loop-stamp.stamp (replies_of c.args.history.now))
          (c.loop-stamp.invariant.counts first counted));
      records = grind (arith, c.count.ensures.records, c.loop-stamp.invariant.records);
    }

pub returns-clause-counts : goal.returns-clause-counts
returns-clause-counts c replies counted =
    let all =
    take_all c.loop-stamp.stamp (replies_of c.args.history.now)
    (omega (
      arith,
      c.loop-stamp-test.false,
      c.len-stamp-end.ensures,
      length-map c.args.history.now (λ act. act.reply),
    )) in
    subst (λ (l : List Reply). Counts (replies ++ l) c.loop-stamp.self) all
    (c.loop-stamp.invariant.counts replies counted)
