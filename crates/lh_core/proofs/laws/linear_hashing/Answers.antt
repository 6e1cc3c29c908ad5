use Rattle.lh_core.proofs.laws.linear_hashing.Goals as goal

pub returns : goal.returns
returns c = record {
  root = c.root_is_only_pair.ensures;
  address = c.address_is_only_bucket.ensures;
  levels = c.split_moves_one_bucket.ensures.levels;
  addresses = c.split_moves_one_bucket.ensures.addresses;
  begins = c.aims_last.ensures.begins;
  stays = c.aims_last.ensures.stays;
  rises = c.aims_last.ensures.rises;
  hash = c.hashes_are_nested.ensures.rises;
}
