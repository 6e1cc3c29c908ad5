use Rattle.std.proofs.Common.{◌∙◌, sym}
use Rattle.std.specs.Ordering.{nat_cmp}
use Rattle.std.specs.Cmp.Lexicographic.{slice_cmp}
use Rattle.std.specs.BTreeSet.{contains}
use Rattle.std.proofs.lemmas.Bool.{not-true}
use Rattle.lh_bucket.proofs.Listings.{key_read, seen_more}
use Rattle.lh_bucket.proofs.listing_faults.again_in.Goals as goal

pub loop-place-preserved : goal.loop-place-preserved
loop-place-preserved c =
    seen_more c.args.pairs.now c.loop-place.place c.index-pairs-place.result.key
    (contains (slice_cmp nat_cmp) c.loop-place.seen) (contains (slice_cmp nat_cmp) c.insert.new.self)
    (key_read c.args.pairs.now c.loop-place.place c.index-pairs-place.result c.loop-place-test.true
    c.index-pairs-place.is)
    (not-true _ (sym c.in_ok-insert.ensures.added ∙ c.if-not-branch.false))
    c.in_ok-insert.ensures.updates.0 c.loop-place.invariant
