use Rattle.std.proofs.Common.{◌∙◌, ℕ, ◌<◌, ◌≤◌, [], append-nil, subst, sym}
use Rattle.std.specs.Io.KnownBytes.{Appends}
use Rattle.std.proofs.lemmas.Result.{on_ok_weaker}
use Rattle.lh_bucket.specs.Listing.{size}
use Rattle.lh_exchange.specs.StreamTexts.{leading_text}
use Rattle.lh_subcommands.specs.Devices.{Sends, TakesBeginning}
use Rattle.lh_subcommands.specs.Exporting.{exported_text}
use Rattle.lh_subcommands.proofs.Exporting.{begins_head, begins_records, chain_stream, stream_whole}
use Rattle.lh_subcommands.proofs.RecordLines.{text_begins, text_follows}
use Rattle.lh_subcommands.proofs.Sending.{on_err, on_err_weaker, sends_all, sends_nothing, stops_within}
use Rattle.lh_subcommands.proofs.export.write_stream.Goals as goal

pub returns-in_err-put_bytes-clause-err : goal.returns-in_err-put_bytes-clause-err
returns-in_err-put_bytes-clause-err g c =
    on_err c.from_residual.result
    (begins_head c.args.format c.args.listing.now _ _
    (subst (TakesBeginning (g.W.Write.contents c.args.writer.now) (g.W.Write.contents c.put_bytes.new.writer))
    c.head.ensures
    (c.in_err-put_bytes.ensures.err _ [] (sends_nothing _ _ c.requires.empty))))

pub loop-bucket-init : goal.loop-bucket-init
loop-bucket-init g c = (
  c.in_ok-put_bytes.ensures.room,
  subst
      (Sends (g.W.Write.contents c.args.writer.now) (g.W.Write.contents c.put_bytes.new.writer)
      c.put_bytes.new.waiting.items)
      (c.head.ensures ∙ sym (append-nil (leading_text c.args.format)))
      (c.in_ok-put_bytes.ensures.ok _ [] (sends_nothing _ _ c.requires.empty)),
)

pub returns-in_err-write_pairs-clause-err : goal.returns-in_err-write_pairs-clause-err
returns-in_err-write_pairs-clause-err g c =
    let here : c.loop-bucket.bucket < size c.args.listing.now =
    subst (λ (n : ℕ). c.loop-bucket.bucket < n) c.buckets-bucket-end.ensures.value c.loop-bucket-test.true in
    on_err c.from_residual-in_err-write_pairs.result
    (begins_records c.args.format c.args.listing.now _ _
    (text_begins (chain_stream c.args.format c.args.listing.now) _ _ (leading_text c.args.format) c.args.listing.now
    c.loop-bucket.bucket here
    (c.in_err-write_pairs.ensures.err (g.W.Write.contents c.args.writer.now) _ c.loop-bucket.invariant.1)))

pub loop-bucket-preserved : goal.loop-bucket-preserved
loop-bucket-preserved g c =
    let here : c.loop-bucket.bucket < size c.args.listing.now =
    subst (λ (n : ℕ). c.loop-bucket.bucket < n) c.buckets-bucket-end.ensures.value c.loop-bucket-test.true in (
      c.in_ok-write_pairs.ensures.room,
      text_follows (chain_stream c.args.format c.args.listing.now) _ _ _ (leading_text c.args.format) c.args.listing.now
          c.loop-bucket.bucket here
          (c.in_ok-write_pairs.ensures.ok (g.W.Write.contents c.args.writer.now) _ c.loop-bucket.invariant.1),
    )

pub returns-in_err-put_bytes-2-clause-err : goal.returns-in_err-put_bytes-2-clause-err
returns-in_err-put_bytes-2-clause-err g c =
    let format = c.args.format in
    let l = c.args.listing.now in
    let past : size l ≤ c.loop-bucket.bucket =
    subst (λ (n : ℕ). n ≤ c.loop-bucket.bucket) c.buckets-bucket-end.ensures.value c.loop-bucket-test.false in
    on_err c.from_residual-in_err-put_bytes-2.result
    (subst (TakesBeginning (g.W.Write.contents c.args.writer.now) (g.W.Write.contents c.put_bytes-2.new.writer))
    (stream_whole format l c.loop-bucket.bucket _ past c.tail.ensures)
    (c.in_err-put_bytes-2.ensures.err (g.W.Write.contents c.args.writer.now) _ c.loop-bucket.invariant.1))

pub returns-clause-ok : goal.returns-clause-ok
returns-clause-ok g c =
    let format = c.args.format in
    let l = c.args.listing.now in
    let start = g.W.Write.contents c.args.writer.now in
    let now = g.W.Write.contents c.put_bytes-2.new.writer in
    let end = g.W.Write.contents c.write_all.new.writer in
    let past : size l ≤ c.loop-bucket.bucket =
    subst (λ (n : ℕ). n ≤ c.loop-bucket.bucket) c.buckets-bucket-end.ensures.value c.loop-bucket-test.false in
    let sent : Sends start now c.put_bytes-2.new.waiting.items (exported_text format l) =
    subst (Sends start now c.put_bytes-2.new.waiting.items)
    (stream_whole format l c.loop-bucket.bucket _ past c.tail.ensures)
    (c.in_ok-put_bytes-2.ensures.ok start _ c.loop-bucket.invariant.1) in
    on_ok_weaker c.write_all.result
    (λ written. sends_all _ _ _ _ _ sent (subst (Appends now end) c.as_slice.ensures.value written))
    c.write_all.ensures.ok

pub returns-clause-err : goal.returns-clause-err
returns-clause-err g c =
    let format = c.args.format in
    let l = c.args.listing.now in
    let start = g.W.Write.contents c.args.writer.now in
    let now = g.W.Write.contents c.put_bytes-2.new.writer in
    let end = g.W.Write.contents c.write_all.new.writer in
    let past : size l ≤ c.loop-bucket.bucket =
    subst (λ (n : ℕ). n ≤ c.loop-bucket.bucket) c.buckets-bucket-end.ensures.value c.loop-bucket-test.false in
    let sent : Sends start now c.put_bytes-2.new.waiting.items (exported_text format l) =
    subst (Sends start now c.put_bytes-2.new.waiting.items)
    (stream_whole format l c.loop-bucket.bucket _ past c.tail.ensures)
    (c.in_ok-put_bytes-2.ensures.ok start _ c.loop-bucket.invariant.1) in
    on_err_weaker c.write_all.result
    (λ written. stops_within _ _ _ _ _ sent (subst (TakesBeginning now end) c.as_slice.ensures.value written))
    c.write_all.ensures.err
