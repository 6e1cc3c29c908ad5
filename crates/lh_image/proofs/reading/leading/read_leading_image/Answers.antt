use Rattle.std.proofs.Common.{arith}
use Rattle.std.proofs.lemmas.Result.{err_from_is_err_and}
use Rattle.lh_image.proofs.OfReading.FirstPage.{header_left}
use Rattle.lh_image.proofs.OfReading.Leading.{answered, cut_left, cut_told, header_told, image_read, left}
use Rattle.lh_image.proofs.reading.leading.read_leading_image.Goals as goal

pub returns-in_err-header-clause-exact : goal.returns-in_err-header-clause-exact
returns-in_err-header-clause-exact g c =
    let p = err_from_is_err_and c.from_residual.result c.from_residual.ensures.1 in
    rw (p.1, p.2)
    (header_told (g.R.Read.remaining c.args.reader.now) (g.R.Read.remaining c.read_header.new.reader)
    c.in_err-header.field-0.0 c.in_err-header.ensures.read)

pub returns-in_err-header-clause-rest : goal.returns-in_err-header-clause-rest
returns-in_err-header-clause-rest g c =
    let p = err_from_is_err_and c.from_residual.result c.from_residual.ensures.1 in
    rw (p.1, p.2)
    (header_left (g.R.Read.remaining c.args.reader.now) (g.R.Read.remaining c.read_header.new.reader)
    c.in_err-header.field-0.0 c.in_err-header.ensures.read)

pub returns-in_err-table-clause-exact : goal.returns-in_err-table-clause-exact
returns-in_err-table-clause-exact g c =
    let p = err_from_is_err_and c.from_residual-in_err-table.result c.from_residual-in_err-table.ensures.1 in
    rw (p.1, p.2)
    (cut_told (g.R.Read.remaining c.args.reader.now) (g.R.Read.remaining c.read_header.new.reader)
    c.in_ok-header.header c.in_err-table.field-0.0 c.in_ok-header.ensures.read c.in_err-table.ensures.read)

pub returns-in_err-table-clause-rest : goal.returns-in_err-table-clause-rest
returns-in_err-table-clause-rest g c =
    let p = err_from_is_err_and c.from_residual-in_err-table.result c.from_residual-in_err-table.ensures.1 in
    rw (p.1, p.2)
    (cut_left (g.R.Read.remaining c.args.reader.now) (g.R.Read.remaining c.read_header.new.reader)
    (g.R.Read.remaining c.read_pages.new.reader) c.in_ok-header.header c.in_err-table.field-0.0
    c.in_ok-header.ensures.read c.in_err-table.ensures.read)

pub returns-clause-exact : goal.returns-clause-exact
returns-clause-exact g c =
    answered (g.R.Read.remaining c.read_header.new.reader) (g.R.Read.remaining c.read_pages.new.reader)
    c.in_ok-header.header c.in_ok-table.table.entries.items c.in_ok-table.table.pairs.items c.in_ok-table.faults
    c.listing_of_pages.result
    (omega (arith, c.in_ok-header.ensures.in_range.enough)) c.in_ok-table.ensures.read
    (g.R.Read.remaining c.args.reader.now) c.in_ok-header.ensures.read c.listing_of_pages.ensures.exact

pub returns-clause-image : goal.returns-clause-image
returns-clause-image g c =
    image_read (g.R.Read.remaining c.read_header.new.reader) (g.R.Read.remaining c.read_pages.new.reader)
    c.in_ok-header.header c.in_ok-table.table.entries.items c.in_ok-table.table.pairs.items c.in_ok-table.faults
    c.listing_of_pages.result
    (omega (arith, c.in_ok-header.ensures.in_range.enough)) c.in_ok-table.ensures.read
    (g.R.Read.remaining c.args.reader.now) c.faultless_bytes_are_an_image.ensures c.in_ok-header.ensures.read
    c.listing_of_pages.ensures.exact

pub returns-clause-rest : goal.returns-clause-rest
returns-clause-rest g c =
    left (g.R.Read.remaining c.args.reader.now) (g.R.Read.remaining c.read_header.new.reader)
    (g.R.Read.remaining c.read_pages.new.reader) c.in_ok-header.header c.in_ok-table.table.entries.items
    c.in_ok-table.table.pairs.items c.in_ok-table.faults
    c.listing_of_pages.result (omega (arith, c.in_ok-header.ensures.in_range.enough)) c.in_ok-table.ensures.read
    c.in_ok-header.ensures.read c.listing_of_pages.ensures.late
