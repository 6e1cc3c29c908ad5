use Rattle.std.proofs.Common.{◌^◌, length, refl, take, arith}
use Rattle.std.specs.Prelude.{flat_map}
use Rattle.std.proofs.lemmas.Option.{slice_get_read}
use Rattle.lh_settling.specs.Acts.{replies_of}
use Rattle.lhash.proofs.Counting.{counts-next, replies_within-next}
use Rattle.lhash.proofs.driven.Driven.of_all.Goals as goal

pub count_all-requires : goal.count_all-requires
count_all-requires c =
    let histories = c.args.histories.now in
    let i = c.loop-history.history-index in
    let here =
    slice_get_read histories (length histories) i c.history-item.result refl c.loop-history-test.true
    c.history-item.is in (
      flat_map replies_of (take i histories),
      c.loop-history.invariant.counts,
      replies_within-next histories i c.history-item.result (2 ^ 64) here c.requires,
    )

pub loop-history-preserved : goal.loop-history-preserved
loop-history-preserved c =
    let histories = c.args.histories.now in
    let i = c.loop-history.history-index in
    let here =
    slice_get_read histories (length histories) i c.history-item.result refl c.loop-history-test.true
    c.history-item.is in
    record {
      counts = counts-next histories i c.history-item.result c.count_all.new.self here
          (c.count_all.ensures.counts (flat_map replies_of (take i histories)) c.loop-history.invariant.counts);
      records = grind (arith, c.count_all.ensures.records, c.loop-history.invariant.records);
    }
