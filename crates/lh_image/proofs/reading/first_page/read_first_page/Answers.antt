use Rattle.std.proofs.Common.{◌≡◌, ◌+◌, ◌-◌, ◌++◌, ◌∙◌, length, take, sym, ap, rules, arith}
use Rattle.std.proofs.lemmas.Result.{err_from_is_err_and}
use borrow.Rule.Slice.PartMut.{post_of, put_mid}
use Rattle.lh_image.specs.Version.{page_bytes, version_of}
use Rattle.lh_image.proofs.OfReading.FirstPage.{joined, page_came, rest_cut, version_joined}
use Rattle.lh_image.proofs.reading.first_page.read_first_page.Goals as goal

pub returns-in_err-version-clause-read : goal.returns-in_err-version-clause-read
returns-in_err-version-clause-read g c =
    let p = err_from_is_err_and c.from_residual.result c.from_residual.ensures.1 in
    rw (p.1, p.2) c.in_err-version.ensures.read

pub returns-in_err-read_whole-clause-read : goal.returns-in_err-read_whole-clause-read
returns-in_err-read_whole-clause-read g c =
    let p = err_from_is_err_and c.from_residual-in_err-read_whole.result c.from_residual-in_err-read_whole.ensures.1 in
    let first : length c.read_front.new.front ≡ 1024 = search rules in
    let size : length c.read_whole.new.buffer ≡ page_bytes c.in_ok-version.version - 1024 = search rules in
    rw (p.1, p.2)
    (rest_cut c.in_ok-version.version (g.R.Read.remaining c.args.reader.now)
    (g.R.Read.remaining c.read_front.new.reader) (g.R.Read.remaining c.read_whole.new.reader) c.read_front.new.front
    c.read_whole.new.buffer
    c.in_err-read_whole.field-0.0 first size c.in_ok-version.ensures.read c.in_err-read_whole.ensures.read)

pub returns-clause-read : goal.returns-clause-read
returns-clause-read g c =
    let first : length c.read_front.new.front ≡ 1024 = search rules in
    let size : length c.read_whole.new.buffer ≡ page_bytes c.in_ok-version.version - 1024 = search rules in
    let all : page_bytes c.in_ok-version.version ≡ 1024 + length c.read_whole.new.buffer =
    omega (arith, size, c.page_bytes.ensures.value, c.page_bytes.ensures.least) in
    page_came c.in_ok-version.version (g.R.Read.remaining c.args.reader.now)
    (g.R.Read.remaining c.read_front.new.reader) (g.R.Read.remaining c.read_whole.new.reader) c.read_front.new.front
    c.read_whole.new.buffer
    (λ v.
    take (page_bytes v)
    (put_mid 1024 (c.page_bytes.result - 1024) (c.read_front.new.front ++ post_of 0 1024 c.args.page.now)
    c.read_whole.new.buffer)) first size
    c.in_ok-version.ensures.read c.in_ok-read_whole.ensures.read
    (joined (c.page_bytes.result - 1024) (page_bytes c.in_ok-version.version) c.read_front.new.front
    (post_of 0 1024 c.args.page.now) c.read_whole.new.buffer first all)

pub returns-clause-told : goal.returns-clause-told
returns-clause-told g c =
    let first : length c.read_front.new.front ≡ 1024 = search rules in
    let size : length c.read_whole.new.buffer ≡ page_bytes c.in_ok-version.version - 1024 = search rules in
    let all : page_bytes c.in_ok-version.version ≡ 1024 + length c.read_whole.new.buffer =
    omega (arith, size, c.page_bytes.ensures.value, c.page_bytes.ensures.least) in
    c.in_ok-version.ensures.told ∙ sym (version_joined c.read_front.new.front c.read_whole.new.buffer first)
    ∙ ap version_of
    (sym
    (joined (c.page_bytes.result - 1024) (page_bytes c.in_ok-version.version) c.read_front.new.front
    (post_of 0 1024 c.args.page.now) c.read_whole.new.buffer first all))
