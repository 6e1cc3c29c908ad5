use Rattle.lh_exchange.proofs.WrittenRecords.{cdb_written}
use Rattle.lh_exchange.proofs.writing.put_cdb.Goals as goal

pub returns-clause-bytes : goal.returns-clause-bytes
returns-clause-bytes c =
    cdb_written c.args.pair.now _ _ _ _ _ _ _ _ _ _ _ _ _ _ _ _ c.put-used.ensures.bytes
    c.put_number-used.ensures.bytes c.put-used-2.ensures.bytes c.put_number-used-2.ensures.bytes
    c.put-used-3.ensures.bytes c.put-used-4.ensures.bytes c.put-used-5.ensures.bytes c.put-used-6.ensures.bytes
    c.put.ensures.bytes c.bytes-key.ensures.value c.bytes-value.ensures.value c.as_slice.ensures c.as_slice-2.ensures
    c.as_slice-3.ensures c.as_slice-4.ensures c.as_slice-5.ensures
