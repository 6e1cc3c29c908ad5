use Rattle.lh_exchange_laws.proofs.LoadedRecords.{loaded_is_dumped}
use Rattle.lh_exchange_laws.proofs.laws.loaded_records_are_dumped.Goals as goal

pub returns : goal.returns
returns c =
    loaded_is_dumped c.address_is_only_bucket.ensures c.records_make_a_map.ensures.lookup c.listing_is_placed.ensures
    c.cdb_is_exact.ensures c.written_is_read.ensures c.written_images_read_back.ensures
