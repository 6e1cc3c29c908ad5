-- The shard whose turn it is is settled, or its fault is the first; and all shards settled are one map.
use Rattle.std.proofs.Common.{◌≡◌, ◌≤◌, ◌+◌, List, length, get_or, Some, refl, sym, ap, ◌∙◌, subst, arith}
use Rattle.std.specs.List.{slice_get}
use Rattle.std.proofs.lemmas.List.{length_push}
use Rattle.std.proofs.lemmas.Option.{slice_get_read}
use Rattle.std.proofs.lemmas.Result.{err_from_is_err_and}
use Rattle.lh_bucket.specs.Listing.{Lists}
use Rattle.lh_settling.specs.declared.act.ActLine.{ActLine}
use Rattle.lh_shards.specs.declared.closed_shard.ClosedShard.{ClosedShard}
use Rattle.lh_shards.proofs.Places.{EachThree, there, three_next}
use Rattle.lh_shards.proofs.Settled.{SettledAs, first_due, settled_are_one_map}
use Rattle.lh_shards.proofs.closed.ClosedShards.settle.Goals as goal
use Rattle.lh_shards.proofs.closed.ClosedShards.settle.Goals.{After-settle_shard}

pub returns-in_default-clause-err : goal.returns-in_default-clause-err
returns-in_default-clause-err c =
    let least : 1 ≤ length c.args.self.now = c.count-count.ensures.kept.range.0 in
    let long : length c.args.openings.now ≡ length c.args.self.now = c.requires in
    let opening : (x : Lists) × (slice_get c.args.openings.now 0 ≡ Some x) =
    there c.args.openings.now 0 (omega arith) in
    let closed : (x : ClosedShard) × (slice_get c.args.self.now 0 ≡ Some x) = there c.args.self.now 0 (omega arith) in
    record {
      opening = opening.0;
      closed = closed.0;
      opening_is = opening.1;
      closed_is = closed.1;
      due = tt;
      unsettled = λ ne. absurd (ne refl);
      before = λ e o s lt. absurd (omega arith);
    }

opening_at : (c : After-settle_shard) →
    slice_get c.args.openings.now c.loop-shard.shard ≡ Some c.index-openings-shard.result
opening_at c =
    let long : length c.args.openings.now ≡ length c.args.self.now = c.requires in
    slice_get_read c.args.openings.now (length c.args.openings.now) c.loop-shard.shard c.index-openings-shard.result
    refl (omega arith) c.index-openings-shard.is

closed_at : (c : After-settle_shard) → slice_get c.args.self.now c.loop-shard.shard ≡ Some c.index.result.now
closed_at c =
    slice_get_read c.args.self.now (length c.args.self.now) c.loop-shard.shard c.index.result.now refl (omega arith)
    (subst (λ (l : List ClosedShard). c.index.result.now ≡ get_or l c.loop-shard.shard c.index.result.now)
    c.self.view_is c.index.ensures)

pub returns-in_err-history-clause-err : goal.returns-in_err-history-clause-err
returns-in_err-history-clause-err c =
    let p = err_from_is_err_and c.from_residual.result c.from_residual.ensures.1 in
    rw (p.1, p.2)
    (first_due c.args.openings.now c.args.self.now c.loop-shard.histories.items c.loop-shard.shard
    c.index-openings-shard.result c.index.result.now c.in_err-history.field-0.0
    (opening_at (goal.at.returns-in_err-history-clause-err c).After-settle_shard)
    (closed_at (goal.at.returns-in_err-history-clause-err c).After-settle_shard) c.loop-shard.invariant.many
    c.loop-shard.invariant.each c.in_err-history.ensures.shard c.in_err-history.ensures.err
    c.in_err-history.ensures.unsettled)

pub loop-shard-preserved : goal.loop-shard-preserved
loop-shard-preserved c = record {
  many =
      ap length c.push_reserved.ensures.items ∙ length_push c.loop-shard.histories.items c.in_ok-history.history
      ∙ ap (λ n. n + 1) c.loop-shard.invariant.many;
  len = omega arith;
  room = omega arith;
  each =
      subst (λ (l : List (List ActLine)). EachThree SettledAs c.args.openings.now c.args.self.now l)
      (sym c.push_reserved.ensures.items)
      (three_next SettledAs c.args.openings.now c.args.self.now c.loop-shard.histories.items c.loop-shard.shard
      c.index-openings-shard.result c.index.result.now c.in_ok-history.history c.loop-shard.invariant.many
      (opening_at (goal.at.loop-shard-preserved c).After-settle_shard)
      (closed_at (goal.at.loop-shard-preserved c).After-settle_shard) c.in_ok-history.ensures.ok
      c.loop-shard.invariant.each);
}

pub returns-clause-one_map : goal.returns-clause-one_map
returns-clause-one_map c =
    settled_are_one_map c.args.openings.now c.args.self.now c.loop-shard.histories.items c.requires
    c.count-count.ensures.kept
    (record { count = omega arith; each = c.loop-shard.invariant.each })
