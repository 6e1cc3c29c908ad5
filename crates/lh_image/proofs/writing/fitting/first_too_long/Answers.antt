use Rattle.std.proofs.Common.{◌<◌, [], inl, inr, arith}
use Rattle.std.proofs.lemmas.Bool.{cases_lt}
use Rattle.std.proofs.lemmas.List.{get_or_past}
use Rattle.lh_bucket.specs.Listing.{size}
use Rattle.lh_image.proofs.Writes.Lengths.{first_long, fitting_more}
use Rattle.lh_image.proofs.writing.fitting.first_too_long.Goals as goal

pub returns-in-Some-clause-found : goal.returns-in-Some-clause-found
returns-in-Some-clause-found c =
    first_long c.args.format c.args.listing.now.lists c.loop-bucket.bucket c.in-Some.place c.loop-bucket.invariant
    c.in-Some.ensures

pub loop-bucket-preserved : goal.loop-bucket-preserved
loop-bucket-preserved c b p low below =
    fitting_more c.args.format c.args.listing.now.lists c.loop-bucket.bucket c.loop-bucket.invariant
    c.in_default.ensures b p (omega arith) below

pub returns-clause-none : goal.returns-clause-none
returns-clause-none c b p below = elim (cases_lt b (size c.args.listing.now)) [
  | inl low ↦ c.loop-bucket.invariant b p (omega (arith, c.buckets-bucket-end.ensures.value)) below
  | inr high ↦ let past : p < 0 = rw (get_or_past c.args.listing.now.lists b [] high) at below in absurd (omega arith)
]
