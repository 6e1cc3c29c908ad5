use Rattle.std.proofs.Common.{◌≡◌, length, take, rules}
use Rattle.std.proofs.lemmas.Result.{err_from_is_err_and}
use Rattle.lh_image.specs.Version.{page_bytes}
use Rattle.lh_image.proofs.OfReading.FirstPage.{header_told, reads_first}
use Rattle.lh_image.proofs.reading.first_page.read_header.Goals as goal

pub returns-in_err-version-clause-read : goal.returns-in_err-version-clause-read
returns-in_err-version-clause-read g c =
    let p = err_from_is_err_and c.from_residual.result c.from_residual.ensures.1 in
    rw (p.1, p.2)
    (header_told (g.R.Read.remaining c.args.reader.now) (g.R.Read.remaining c.read_first_page.new.reader)
    (λ v. take (page_bytes v) c.read_first_page.new.page) c.in_err-version.field-0.0
    c.in_err-version.ensures.read)

pub returns-clause-read : goal.returns-clause-read
returns-clause-read g c =
    let size : length (take c.page_bytes.result c.read_first_page.new.page) ≡ page_bytes c.in_ok-version.version =
    search rules in
    reads_first c.in_ok-version.version (g.R.Read.remaining c.args.reader.now)
    (g.R.Read.remaining c.read_first_page.new.reader) (take c.page_bytes.result c.read_first_page.new.page)
    c.header_of.result size
    (rw c.page_bytes.ensures.value c.in_ok-version.ensures.read) c.header_of.ensures.header c.header_of.ensures.fault

pub header_of-requires-clause-version : goal.header_of-requires-clause-version
header_of-requires-clause-version g c = rw c.page_bytes.ensures.value c.in_ok-version.ensures.told
