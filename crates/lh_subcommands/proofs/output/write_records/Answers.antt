use Rattle.std.proofs.Common.{ℕ, ◌<◌, ◌≤◌, subst}
use Rattle.std.specs.Io.KnownBytes.{Appends}
use Rattle.std.specs.String.{string_bytes}
use Rattle.std.proofs.lemmas.Result.{on_ok_weaker}
use Rattle.lh_bucket.specs.Listing.{size}
use Rattle.lh_subcommands.specs.Devices.{Sends, TakesBeginning}
use Rattle.lh_subcommands.specs.ImageTexts.{dump_text}
use Rattle.lh_subcommands.proofs.RecordLines.{all_buckets, bucket_begins, bucket_follows}
use Rattle.lh_subcommands.proofs.Sending.{on_err, on_err_weaker, sends_all, stops_within}
use Rattle.lh_subcommands.proofs.output.write_records.Goals as goal

pub returns-in_err-write_bucket-clause-err : goal.returns-in_err-write_bucket-clause-err
returns-in_err-write_bucket-clause-err g c =
    let here : c.loop-bucket.bucket < size c.args.listing.now =
    subst (λ (n : ℕ). c.loop-bucket.bucket < n) c.buckets-bucket-end.ensures.value c.loop-bucket-test.true in
    on_err c.from_residual.result
    (bucket_begins c.args.notation _ _ c.args.listing.now c.loop-bucket.bucket here
    (c.in_err-write_bucket.ensures.err (g.W.Write.contents c.args.writer.now) _ c.loop-bucket.invariant))

pub loop-bucket-preserved : goal.loop-bucket-preserved
loop-bucket-preserved g c =
    let here : c.loop-bucket.bucket < size c.args.listing.now =
    subst (λ (n : ℕ). c.loop-bucket.bucket < n) c.buckets-bucket-end.ensures.value c.loop-bucket-test.true in
    bucket_follows c.args.notation _ _ _ c.args.listing.now c.loop-bucket.bucket here
    (c.in_ok-write_bucket.ensures.ok (g.W.Write.contents c.args.writer.now) _ c.loop-bucket.invariant)

pub returns : goal.returns
returns g c =
    let now = g.W.Write.contents c.loop-bucket.writer in
    let end = g.W.Write.contents c.write_all.new.writer in
    let past : size c.args.listing.now ≤ c.loop-bucket.bucket =
    subst (λ (n : ℕ). n ≤ c.loop-bucket.bucket) c.buckets-bucket-end.ensures.value c.loop-bucket-test.false in
    let sent : Sends (g.W.Write.contents c.args.writer.now) now (string_bytes c.loop-bucket.waiting)
    (dump_text c.args.notation c.args.listing.now) =
    subst (Sends (g.W.Write.contents c.args.writer.now) now (string_bytes c.loop-bucket.waiting))
    (all_buckets c.args.notation c.args.listing.now c.loop-bucket.bucket past) c.loop-bucket.invariant in
    record {
      ok =
          on_ok_weaker c.write_all.result
          (λ written. sends_all _ _ _ _ _ sent (subst (Appends now end) c.as_bytes.ensures.value written))
          c.write_all.ensures.ok;
      err =
          on_err_weaker c.write_all.result
          (λ written. stops_within _ _ _ _ _ sent (subst (TakesBeginning now end) c.as_bytes.ensures.value written))
          c.write_all.ensures.err;
    }
