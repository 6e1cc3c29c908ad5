use Rattle.std.proofs.Common.{◌≡◌, ◌≤◌, ◌∙◌, length, ap, rules, arith}
use Rattle.std.proofs.lemmas.List.{take_all}
use Rattle.lh_image.specs.Version.{version_of}
use Rattle.lh_image.proofs.OfReading.FirstPage.{has_begun, not_magic, too_short}
use Rattle.lh_image.proofs.reading.first_page.read_front.Goals as goal

pub returns-in_default-clause-read : goal.returns-in_default-clause-read
returns-in_default-clause-read g c =
    let size : length c.read_into.new.buffer ≡ 1024 = search rules in
    not_magic (g.R.Read.remaining c.args.reader.now) (g.R.Read.remaining c.read_into.new.reader) c.in_ok-count.count
    c.read_into.new.buffer (λ _. c.read_into.new.buffer) size c.in_ok-count.ensures.filled c.in_default.ensures.none

pub returns-then-count-lt-PAGE_1-clause-read : goal.returns-then-count-lt-PAGE_1-clause-read
returns-then-count-lt-PAGE_1-clause-read g c =
    let size : length c.read_into.new.buffer ≡ 1024 = search rules in
    too_short (g.R.Read.remaining c.args.reader.now) (g.R.Read.remaining c.read_into.new.reader) c.in_ok-count.count
    c.read_into.new.buffer (λ _. c.read_into.new.buffer) size c.in_ok-count.ensures.filled
    c.in-Some.ensures.some c.if-count-lt-PAGE_1.true

pub returns-clause-read : goal.returns-clause-read
returns-clause-read g c =
    let size : length c.read_into.new.buffer ≡ 1024 = search rules in
    has_begun c.in-Some.version (g.R.Read.remaining c.args.reader.now) (g.R.Read.remaining c.read_into.new.reader)
    c.in_ok-count.count c.read_into.new.buffer size c.in_ok-count.ensures.filled
    c.in-Some.ensures.some c.if-count-lt-PAGE_1.false c.in-Some.ensures.version c.in_ok-count.ensures.each_byte

pub returns-clause-told : goal.returns-clause-told
returns-clause-told g c =
    let size : length c.read_into.new.buffer ≡ 1024 = search rules in
    let all : length c.read_into.new.buffer ≤ c.in_ok-count.count = omega (arith, c.if-count-lt-PAGE_1.false) in
    c.in-Some.ensures.version ∙ ap version_of (take_all c.in_ok-count.count c.read_into.new.buffer all)
