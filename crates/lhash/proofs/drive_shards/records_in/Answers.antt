use Rattle.lhash.proofs.ShardTotals.{records_more}
use Rattle.lhash.proofs.drive_shards.records_in.Goals as goal

pub loop-shard-preserved : goal.loop-shard-preserved
loop-shard-preserved c =
    records_more c.args.closed.now c.loop-shard.shard c.shard.result.now c.loop-shard.records c.records.result
    c.saturating_add-records.result c.shard.ensures c.loop-shard.invariant c.records.ensures
    c.saturating_add-records.ensures
