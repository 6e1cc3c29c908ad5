use Rattle.std.proofs.Common.{◌≡◌, ◌∙◌, take, ap, subst}
use Rattle.std.specs.List.{range_with_len, flat_map}
use Rattle.std.specs.Io.KnownBytes.{Appends}
use Rattle.std.proofs.lemmas.Result.{err_from_is_err_and}
use Rattle.lh_bucket.specs.Listing.{size}
use Rattle.lh_image.specs.Canonical.{canonical, page_total, text_in}
use Rattle.lh_image.specs.Image.{header_for}
use Rattle.lh_image.specs.Layout.{header_text}
use Rattle.lh_image.specs.Writing.{TakesBeginning}
use Rattle.lh_image.proofs.Writes.Sends.{sent_after, takes_after, takes_longer}
use Rattle.lh_image.proofs.writing.write_pages.Goals as goal

pub returns-in_err-send_all : goal.returns-in_err-send_all
unfolding canonical
returns-in_err-send_all g c =
    let p = err_from_is_err_and c.from_residual.result c.from_residual.ensures.1 in
    let header : take c.page_bytes.result c.header_bytes-header.result ≡
    header_text (header_for c.args.version c.args.listing.now (page_total c.args.listing.now)) =
    ap (λ n. take n c.header_bytes-header.result) c.page_bytes.ensures.value ∙ c.header_bytes-header.ensures
    ∙ ap (λ n. header_text (header_for c.args.version c.args.listing.now n)) c.requires.pages in
    rw p.1
    (takes_longer _ _ (header_text (header_for c.args.version c.args.listing.now (page_total c.args.listing.now))) _
    (subst (TakesBeginning (g.W.Write.contents c.args.writer.now) (g.W.Write.contents c.send_all.new.writer)) header
    c.in_err-send_all.ensures))

pub returns-in_err-write_primary_pages : goal.returns-in_err-write_primary_pages
unfolding canonical
returns-in_err-write_primary_pages g c =
    let p =
    err_from_is_err_and c.from_residual-in_err-write_primary_pages.result
    c.from_residual-in_err-write_primary_pages.ensures.1 in
    let text : take c.page_bytes.result c.header_bytes-header.result ≡
    header_text (header_for c.args.version c.args.listing.now (page_total c.args.listing.now)) =
    ap (λ n. take n c.header_bytes-header.result) c.page_bytes.ensures.value ∙ c.header_bytes-header.ensures
    ∙ ap (λ n. header_text (header_for c.args.version c.args.listing.now n)) c.requires.pages in
    let header =
    subst (Appends (g.W.Write.contents c.args.writer.now) (g.W.Write.contents c.send_all.new.writer)) text
    c.in_ok-send_all.ensures in
    rw p.1
    (takes_after _ _ _ _ _ header
    (takes_longer _ _
    (flat_map (λ i. text_in c.args.version c.args.listing.now i 0)
    (range_with_len 0 (size c.args.listing.now))) _ c.in_err-write_primary_pages.ensures))

pub returns : goal.returns
unfolding canonical
returns g c =
    let text : take c.page_bytes.result c.header_bytes-header.result ≡
    header_text (header_for c.args.version c.args.listing.now (page_total c.args.listing.now)) =
    ap (λ n. take n c.header_bytes-header.result) c.page_bytes.ensures.value ∙ c.header_bytes-header.ensures
    ∙ ap (λ n. header_text (header_for c.args.version c.args.listing.now n)) c.requires.pages in
    let header =
    subst (Appends (g.W.Write.contents c.args.writer.now) (g.W.Write.contents c.send_all.new.writer)) text
    c.in_ok-send_all.ensures in
    sent_after _ _ _ _ _ c.write_overflow_pages.result header
    (sent_after _ _ _ _ _ c.write_overflow_pages.result c.in_ok-write_primary_pages.ensures
    c.write_overflow_pages.ensures)
