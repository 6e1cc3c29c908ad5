use Rattle.std.proofs.Common.{◌≡◌, ◌+◌, ◌-◌, subst, refl, arith}
use Rattle.std.specs.List.{range_with_len, flat_map}
use Rattle.std.specs.Io.KnownBytes.{Appends}
use Rattle.std.proofs.lemmas.Result.{err_from_is_err_and}
use Rattle.lh_bucket.specs.Listing.{size}
use Rattle.lh_image.specs.Canonical.{page_count_in, overflow_text, text_in}
use Rattle.lh_image.proofs.Writes.Counting.{overflow_within}
use Rattle.lh_image.proofs.Bytes.Joining.{appends_more, begins_more}
use Rattle.lh_image.proofs.writing.write_overflow_pages_of.Goals as goal

pub overflow_cast-k-end : goal.overflow_cast-k-end
overflow_cast-k-end g c =
    omega (
      arith,
      c.requires.few,
      c.page_count_in-k-end.ensures.value,
      overflow_within c.args.listing.now c.args.bucket (size c.args.listing.now) c.requires.bucket,
    )

pub returns-in_err-write_page_of : goal.returns-in_err-write_page_of
unfolding overflow_text
returns-in_err-write_page_of g c =
    let p = err_from_is_err_and c.from_residual.result c.from_residual.ensures.1 in
    rw p.1
    (begins_more _ _ _ (text_in c.args.version c.args.listing.now c.args.bucket) 1
    (page_count_in c.args.listing.now c.args.bucket - 1) (c.loop-k.k - 1) c.loop-k.k
    (text_in c.args.version c.args.listing.now c.args.bucket c.loop-k.k)
    (omega (arith, c.loop-k-test.true, c.loop-k.auto.k, c.page_count_in-k-end.ensures.value))
    (omega (arith, c.loop-k.auto.k)) refl c.loop-k.invariant c.in_err-write_page_of.ensures)

pub loop-k-preserved : goal.loop-k-preserved
loop-k-preserved g c =
    let next : c.loop-k.k - 1 + 1 ≡ c.loop-k.k + 1 - 1 = omega (arith, c.loop-k.auto.k) in
    subst
    (λ n.
    Appends (g.W.Write.contents c.args.writer.now) (g.W.Write.contents c.write_page_of.new.writer)
    (flat_map (text_in c.args.version c.args.listing.now c.args.bucket) (range_with_len 1 n))) next
    (appends_more _ _ _ (text_in c.args.version c.args.listing.now c.args.bucket) 1 (c.loop-k.k - 1) c.loop-k.k
    (text_in c.args.version c.args.listing.now c.args.bucket c.loop-k.k) (omega (arith, c.loop-k.auto.k)) refl
    c.loop-k.invariant c.in_ok-write_page_of.ensures)

pub returns : goal.returns
unfolding overflow_text
returns g c =
    let all : c.loop-k.k - 1 ≡ page_count_in c.args.listing.now c.args.bucket - 1 =
    omega (
      arith,
      c.loop-k-test.false,
      c.loop-k.auto.k,
      c.loop-k.auto.k-end,
      c.page_count_in-k-end.ensures.value,
      c.page_count_in-k-end.ensures.some,
    ) in
    subst
    (λ n.
    Appends (g.W.Write.contents c.args.writer.now) (g.W.Write.contents c.loop-k.writer)
    (flat_map (text_in c.args.version c.args.listing.now c.args.bucket) (range_with_len 1 n))) all
    c.loop-k.invariant
