use Rattle.lh_image.proofs.Looking.Places.{places_law}
use Rattle.lh_image.proofs.Looking.Walks.{walk_law}
use Rattle.lh_image.proofs.laws.each_record_has_one_place.Goals as goal

pub returns-clause-places : goal.returns-clause-places
returns-clause-places c =
    places_law c.address_is_only_bucket.ensures c.records_make_a_map.ensures.lookup c.listing_is_placed.ensures

pub returns-clause-walk : goal.returns-clause-walk
returns-clause-walk c =
    walk_law
    (places_law c.address_is_only_bucket.ensures c.records_make_a_map.ensures.lookup c.listing_is_placed.ensures)
