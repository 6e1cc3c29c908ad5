use Rattle.std.proofs.Common.{refl, arith}
use Rattle.std.proofs.KnownBytes.{Appends-nil}
use Rattle.std.proofs.lemmas.Result.{err_from_is_err_and}
use Rattle.lh_bucket.specs.Listing.{size}
use Rattle.lh_image.specs.Canonical.{overflow_before, overflow_text}
use Rattle.lh_image.proofs.Bytes.Joining.{appends_more, begins_more}
use Rattle.lh_image.proofs.writing.write_overflow_pages.Goals as goal

pub loop-bucket-init : goal.loop-bucket-init
unfolding overflow_before
loop-bucket-init g c = record { following = omega (arith, c.buckets-buckets.ensures.value); written = Appends-nil _ }

pub returns-in_err-write_overflow_pages_of : goal.returns-in_err-write_overflow_pages_of
returns-in_err-write_overflow_pages_of g c =
    let p = err_from_is_err_and c.from_residual.result c.from_residual.ensures.1 in
    rw p.1
    (begins_more _ _ _ (overflow_text c.args.version c.args.listing.now) 0 (size c.args.listing.now)
    c.loop-bucket.bucket c.loop-bucket.bucket (overflow_text c.args.version c.args.listing.now c.loop-bucket.bucket)
    (omega (arith, c.buckets-buckets.ensures.value)) (omega arith) refl c.loop-bucket.invariant.written
    c.in_err-write_overflow_pages_of.ensures)

pub loop-bucket-preserved : goal.loop-bucket-preserved
loop-bucket-preserved g c = record {
  following = c.following_after-following.ensures.value;
  written =
      appends_more _ _ _ (overflow_text c.args.version c.args.listing.now) 0 c.loop-bucket.bucket c.loop-bucket.bucket
      (overflow_text c.args.version c.args.listing.now c.loop-bucket.bucket) (omega arith) refl
      c.loop-bucket.invariant.written c.in_ok-write_overflow_pages_of.ensures;
}
