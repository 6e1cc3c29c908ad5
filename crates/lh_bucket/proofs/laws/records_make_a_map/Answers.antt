use Rattle.lh_bucket.proofs.MapOf.{map_of-none}
use Rattle.lh_bucket.proofs.RecordLaws.{key_law, lookup_law, count_law}
use Rattle.lh_bucket.proofs.laws.records_make_a_map.Goals as goal

pub returns : goal.returns
returns c = record { empty = map_of-none; keys = key_law; lookup = lookup_law; count = count_law }
