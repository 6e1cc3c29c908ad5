use Rattle.lh_image.proofs.Looking.Loops.{fault_law}
use Rattle.lh_image.proofs.Looking.Maps.{map_law, stands_law}
use Rattle.lh_image.proofs.laws.what_is_found_stands_there.Goals as goal

pub returns-clause-map : goal.returns-clause-map
returns-clause-map c =
    map_law c.image_is_of_only_listing.ensures c.address_is_only_bucket.ensures c.records_make_a_map.ensures.lookup
    c.listing_is_placed.ensures

pub returns-clause-stands : goal.returns-clause-stands
returns-clause-stands c = stands_law c.address_is_only_bucket.ensures

pub returns-clause-faults : goal.returns-clause-faults
returns-clause-faults c = fault_law c.address_is_only_bucket.ensures
