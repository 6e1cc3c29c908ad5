-- Records that have room in the listings have it where the shards begin from these.
use Rattle.lh_shards_tests.proofs.tests.narrow.opened_count.Goals as goal

pub count_of-requires-clause-fits : goal.count_of-requires-clause-fits
count_of-requires-clause-fits c = c.in_ok-openings.ensures.fit 32 c.in_ok-fit_listings.ensures.fits
