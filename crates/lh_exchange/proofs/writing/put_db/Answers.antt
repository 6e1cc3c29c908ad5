use Rattle.lh_exchange.proofs.WrittenRecords.{db_written}
use Rattle.lh_exchange.proofs.writing.put_db.Goals as goal

pub returns-clause-bytes : goal.returns-clause-bytes
returns-clause-bytes c =
    db_written c.args.pair.now _ _ _ _ c.put_line-used.ensures.bytes c.put_line.ensures.bytes c.bytes.ensures.value
    c.bytes-2.ensures.value
