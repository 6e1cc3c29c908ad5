use Rattle.std.proofs.Common.{subst}
use Rattle.lh_image.specs.Writing.{IsSent}
use Rattle.lh_image.specs.declared.version.Version.TheVariants.{One, Two}
use Rattle.lh_image.proofs.Writes.Writable.{text_is}
use Rattle.lh_image.proofs.writing.write_page_of.Goals as goal

pub returns-in-One : goal.returns-in-One
returns-in-One g c =
    let fits = rw c.in-One.is at c.requires.fits in
    subst
    (λ xs.
    IsSent xs c.send_all.result (g.W.Write.contents c.args.writer.now)
    (g.W.Write.contents c.send_all.new.writer))
    (text_is c.a_page_is_its_bytes.ensures c.args.version One c.args.listing.now c.args.bucket c.args.k
    c.page_to_bytes.result c.put_page.new.page c.in-One.is c.put_page.ensures.value
    (c.put_page.ensures.writable One fits) c.page_to_bytes.ensures) c.send_all.ensures

pub returns-in-Two : goal.returns-in-Two
returns-in-Two g c =
    let fits = rw c.in-Two.is at c.requires.fits in
    subst
    (λ xs.
    IsSent xs c.send_all-in-Two.result (g.W.Write.contents c.args.writer.now)
    (g.W.Write.contents c.send_all-in-Two.new.writer))
    (text_is c.a_page_is_its_bytes.ensures c.args.version Two c.args.listing.now c.args.bucket c.args.k
    c.page2_to_bytes.result c.put_page.new.page c.in-Two.is c.put_page.ensures.value
    (c.put_page.ensures.writable Two fits) c.page2_to_bytes.ensures) c.send_all-in-Two.ensures
