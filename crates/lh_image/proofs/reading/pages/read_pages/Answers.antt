use Rattle.std.proofs.Common.{◌≡◌, ◌+◌, ◌*◌, ◌≤◌, ◌∙◌, Some, drop, ap, arith, refl}
use Rattle.std.proofs.Math.Nat.{mul-le-mul_left}
use Rattle.std.proofs.lemmas.Result.{err_from_is_err_and}
use Rattle.lh_image.specs.Version.{page_bytes, version_of}
use Rattle.lh_image.proofs.OfReading.Filled.{cut_more}
use Rattle.lh_image.proofs.OfReading.FirstPages.{within_first, come_first}
use Rattle.lh_image.proofs.reading.pages.read_pages.Goals as goal

pub loop-page-init : goal.loop-page-init
loop-page-init g c =
    let first = c.in_ok-table.ensures.entries in
    record {
      within = within_first c.in_ok-table.table.entries.items c.in_ok-table.table.pairs.items first;
      size = rw first refl;
      sum = rw c.new-faults.ensures (omega arith);
      come =
          λ bytes has. (
            come_first bytes c.args.header.now c.in_ok-table.table.entries.items c.in_ok-table.table.pairs.items
                c.new-faults.result (g.R.Read.remaining c.args.reader.now) first c.new-faults.ensures has,
            has.rest
                ∙ ap (λ n. Some (drop n bytes))
                (let one : page_bytes (version_of bytes) ≡ page_bytes (version_of bytes) * 1 = omega arith in one),
          );
    }

pub returns-clause-read : goal.returns-clause-read
returns-clause-read g c bytes has =
    let at : c.loop-page.page ≡ c.args.header.now.pages = omega arith in
    rw at at (c.loop-page.invariant.come bytes has)

pub returns-in_err-read_page-clause-read : goal.returns-in_err-read_page-clause-read
returns-in_err-read_page-clause-read g c bytes has =
    let p = err_from_is_err_and c.from_residual-in_err-read_page.result c.from_residual-in_err-read_page.ensures.1 in
    let come = c.loop-page.invariant.come bytes has in
    rw (p.1, p.2)
    (cut_more bytes (page_bytes (version_of bytes) * (c.loop-page.page + 1))
    (page_bytes (version_of bytes) * c.args.header.now.pages) c.in_err-read_page.field-0.0
    (let more : c.loop-page.page + 1 ≤ c.args.header.now.pages = omega arith in
    mul-le-mul_left (page_bytes (version_of bytes)) more) (c.in_err-read_page.ensures.read bytes come.1 come.0))
