use Rattle.std.proofs.Common.{◌∙◌, List, length, ap, refl, sym, subst, arith}
use Rattle.std.specs.Prelude.{flat_map}
use Rattle.lh_bucket.specs.Listing.{Lists}
use Rattle.lh_settling.specs.Acts.{replies_of}
use Rattle.lh_settling.specs.declared.act.ActLine.{ActLine}
use Rattle.lh_shards.specs.Settling.{IsFirstDue}
use Rattle.lhash.specs.Driven.{Counts}
use Rattle.lhash.specs.DrivingShards.{AreShardsOf, IsDriveShardsFault}
use Rattle.lhash.proofs.ShardTotals.{driven_shards, empty_count, replies_made, settle_faulted}
use Rattle.lhash.proofs.drive_shards.totals.Goals as goal

pub settle-requires : goal.settle-requires
settle-requires c = ap length c.requires.empty ∙ empty_count c.args.config (length c.args.closed.now)

pub of_all-requires : goal.of_all-requires
of_all-requires c =
    let many = ap length c.requires.empty ∙ empty_count c.args.config (length c.args.closed.now) in
    let made =
    replies_made c.args.openings.now c.args.closed.now c.in-Ok.histories.items many c.in-Ok.ensures.ok in
    omega (
      arith,
      ap (λ (h : List (List ActLine)). length (flat_map replies_of h)) c.deref.ensures.value,
      made,
      c.requires.few,
    )

pub returns-in-Ok-clause-ok : goal.returns-in-Ok-clause-ok
returns-in-Ok-clause-ok c calls given =
    driven_shards c.args.config (length c.args.closed.now) c.args.openings.now c.args.closed.now
    c.in-Ok.histories.items c.of_all.result calls
    (record { count = refl; configs = c.requires.configs })
    c.requires.empty
    (ap length c.requires.empty ∙ empty_count c.args.config (length c.args.closed.now))
    c.requires.parts
    c.in-Ok.ensures.ok c.in-Ok.ensures.one_map
    (subst (λ (h : List (List ActLine)). Counts (flat_map replies_of h) c.of_all.result) c.deref.ensures.value
    c.of_all.ensures.counts)
    given (c.of_all.ensures.records ∙ c.records_in.ensures)

pub returns-in-Err-clause-err : goal.returns-in-Err-clause-err
returns-in-Err-clause-err c =
    let closed = c.args.closed.now in
    let of : AreShardsOf c.args.config (length closed) closed = record { count = refl; configs = c.requires.configs } in
    subst (IsDriveShardsFault c.args.config (length closed)) (sym c.from.ensures)
    (settle_faulted c.args.config (length closed) closed c.in-Err.at.shard c.in-Err.at.fault of c.requires.known
    (subst (λ (o : List Lists). IsFirstDue o closed c.in-Err.at) c.requires.empty c.in-Err.ensures.err))
