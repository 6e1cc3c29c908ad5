use Rattle.std.proofs.Common.{arith}
use Rattle.std.proofs.lemmas.Result.{err_from_is_err_and}
use Rattle.lh_image.proofs.OfReading.FirstPage.{header_left}
use Rattle.lh_image.proofs.OfReading.Whole.{cut_told, end_told, end_left, have_all, answered, image_read}
use Rattle.lh_image.proofs.reading.read_image.Goals as goal

pub returns-in_err-header-clause-rest : goal.returns-in_err-header-clause-rest
returns-in_err-header-clause-rest g c =
    let p = err_from_is_err_and c.from_residual.result c.from_residual.ensures.1 in
    rw (p.1, p.2)
    (header_left (g.R.Read.remaining c.args.reader.now) (g.R.Read.remaining c.read_header.new.reader)
    c.in_err-header.field-0.0 c.in_err-header.ensures.read)

pub returns-in_err-table-clause-exact : goal.returns-in_err-table-clause-exact
returns-in_err-table-clause-exact g c =
    let p = err_from_is_err_and c.from_residual-in_err-table.result c.from_residual-in_err-table.ensures.1 in
    rw (p.1, p.2)
    (cut_told (g.R.Read.remaining c.args.reader.now) (g.R.Read.remaining c.read_header.new.reader)
    c.in_ok-header.header c.in_err-table.field-0.0 c.in_ok-header.ensures.read c.in_err-table.ensures.read)

pub returns-in_err-read_end-clause-exact : goal.returns-in_err-read_end-clause-exact
returns-in_err-read_end-clause-exact g c =
    let p = err_from_is_err_and c.from_residual-in_err-read_end.result c.from_residual-in_err-read_end.ensures.1 in
    rw (p.1, p.2)
    (end_told (g.R.Read.remaining c.args.reader.now) (g.R.Read.remaining c.read_header.new.reader)
    (g.R.Read.remaining c.read_pages.new.reader) (g.R.Read.remaining c.read_end.new.reader)
    c.in_ok-header.header c.in_err-read_end.field-0.0
    (have_all (g.R.Read.remaining c.args.reader.now) (g.R.Read.remaining c.read_header.new.reader)
    (g.R.Read.remaining c.read_pages.new.reader) c.in_ok-header.header c.in_ok-table.table.entries.items
    c.in_ok-table.table.pairs.items c.in_ok-table.faults
    c.in_ok-header.ensures.read c.in_ok-table.ensures.read) c.in_err-read_end.ensures)

pub returns-in_err-read_end-clause-rest : goal.returns-in_err-read_end-clause-rest
returns-in_err-read_end-clause-rest g c =
    let p = err_from_is_err_and c.from_residual-in_err-read_end.result c.from_residual-in_err-read_end.ensures.1 in
    rw (p.1, p.2)
    (end_left (g.R.Read.remaining c.args.reader.now) (g.R.Read.remaining c.read_header.new.reader)
    (g.R.Read.remaining c.read_pages.new.reader) (g.R.Read.remaining c.read_end.new.reader)
    c.in_ok-header.header c.in_err-read_end.field-0.0
    (have_all (g.R.Read.remaining c.args.reader.now) (g.R.Read.remaining c.read_header.new.reader)
    (g.R.Read.remaining c.read_pages.new.reader) c.in_ok-header.header c.in_ok-table.table.entries.items
    c.in_ok-table.table.pairs.items c.in_ok-table.faults
    c.in_ok-header.ensures.read c.in_ok-table.ensures.read) c.in_err-read_end.ensures)

pub returns-clause-exact : goal.returns-clause-exact
returns-clause-exact g c =
    answered (g.R.Read.remaining c.args.reader.now) (g.R.Read.remaining c.read_header.new.reader)
    (g.R.Read.remaining c.read_pages.new.reader) (g.R.Read.remaining c.read_end.new.reader)
    c.in_ok-header.header c.in_ok-table.table.entries.items c.in_ok-table.table.pairs.items c.in_ok-table.faults
    c.listing_of_pages.result
    (omega (arith, c.in_ok-header.ensures.in_range.enough)) c.in_ok-header.ensures.read c.in_ok-table.ensures.read
    c.in_ok-read_end.ensures c.listing_of_pages.ensures.exact

pub returns-clause-image : goal.returns-clause-image
returns-clause-image g c =
    image_read (g.R.Read.remaining c.args.reader.now) (g.R.Read.remaining c.read_header.new.reader)
    (g.R.Read.remaining c.read_pages.new.reader) (g.R.Read.remaining c.read_end.new.reader)
    c.in_ok-header.header c.in_ok-table.table.entries.items c.in_ok-table.table.pairs.items c.in_ok-table.faults
    c.listing_of_pages.result c.faultless_bytes_are_an_image.ensures
    (omega (arith, c.in_ok-header.ensures.in_range.enough)) c.in_ok-header.ensures.read c.in_ok-table.ensures.read
    c.in_ok-read_end.ensures c.listing_of_pages.ensures.exact
