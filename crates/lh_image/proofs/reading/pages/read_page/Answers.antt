use Rattle.std.proofs.Common.{◌≡◌, ℕ, ◌+◌, ◌*◌, ◌≤◌, length, take, drop, Some, ap, ◌∙◌, arith, length-drop}
use Rattle.std.proofs.lemmas.List.{drop-drop}
use Rattle.std.proofs.lemmas.Result.{err_from_is_err_and}
use Rattle.lh_image.specs.declared.header.Header.{Header}
use Rattle.lh_image.specs.Filling.{FillsWhole}
use Rattle.lh_image.specs.Layout.{page}
use Rattle.lh_image.specs.Version.{page_bytes, version_of}
use Rattle.lh_image.proofs.Bytes.Header.{version_shown}
use Rattle.lh_image.proofs.OfReading.Filled.{cut_behind}
use Rattle.lh_image.proofs.OfReading.Steps.{reads_more}
use Rattle.lh_image.proofs.reading.pages.read_page.Goals as goal

pub returns-in_err-read_whole-clause-read : goal.returns-in_err-read_whole-clause-read
returns-in_err-read_whole-clause-read g c bytes left come =
    let p = err_from_is_err_and c.from_residual.result c.from_residual.ensures.1 in
    let n : ℕ = c.args.page in
    let w : ℕ = page_bytes (version_of bytes) in
    let same : page_bytes c.args.header.now.version ≡ w =
    ap page_bytes (ap (λ (h : Header). h.version) come.fields ∙ version_shown bytes) in
    let size : length c.read_whole.new.buffer ≡ w = c.in_err-read_whole.ensures.size ∙ c.requires.size ∙ same in
    let place : w * n + length c.read_whole.new.buffer ≡ w * (n + 1) = omega (arith, size) in
    rw (p.1, p.2)
    (cut_behind bytes (w * n) (length c.read_whole.new.buffer) (w * (n + 1)) c.in_err-read_whole.field-0.0
    come.enough place (rw left at c.in_err-read_whole.ensures.read))

pub returns-clause-read : goal.returns-clause-read
unfolding page
returns-clause-read g c bytes left come =
    let n : ℕ = c.args.page in
    let w : ℕ = page_bytes (version_of bytes) in
    let same : page_bytes c.args.header.now.version ≡ w =
    ap page_bytes (ap (λ (h : Header). h.version) come.fields ∙ version_shown bytes) in
    let size : length c.read_whole.new.buffer ≡ w = c.in_ok-read_whole.ensures.size ∙ c.requires.size ∙ same in
    let filled : FillsWhole (drop (w * n) bytes) c.read_whole.new.buffer (g.R.Read.remaining c.read_whole.new.reader) =
    rw left at c.in_ok-read_whole.ensures.read in
    let whole : c.read_whole.new.buffer ≡ take w (drop (w * n) bytes) =
    filled.front ∙ ap (λ k. take k (drop (w * n) bytes)) size in
    let enough : w * (n + 1) ≤ length bytes =
    omega (arith, filled.enough, size, come.enough, length-drop (w * n) bytes) in
    let place : w * n + length c.read_whole.new.buffer ≡ w * (n + 1) = omega (arith, size) in
    reads_more bytes c.args.header.now (n + 1) c.take_page.result c.take_page.new.table.entries.items
    c.take_page.new.table.pairs.items c.take_page.new.faults (g.R.Read.remaining c.read_whole.new.reader)
    (c.take_page.ensures.come bytes whole enough come) c.take_page.ensures.fault
    (filled.rest
    ∙ ap Some (drop-drop (length c.read_whole.new.buffer) (w * n) bytes ∙ ap (λ (k : ℕ). drop k bytes) place))
