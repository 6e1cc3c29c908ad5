use Rattle.std.proofs.Common.{◌≡◌, ◌+◌, ◌*◌, ◌≤◌, Some, drop, refl, arith}
use Rattle.std.proofs.Math.Nat.{mul-le-mul_left}
use Rattle.lh_image.specs.Header.{HasHeader}
use Rattle.lh_image.specs.Version.{page_bytes, version_of}
use Rattle.lh_image.proofs.Images.ImageLaws.{some_pages}
use Rattle.lh_image.proofs.OfReading.FirstPages.{within_first, come_first}
use Rattle.lh_image.proofs.checked.pages.pages_in.Goals as goal

pub loop-page-init : goal.loop-page-init
loop-page-init c =
    let bytes = c.args.bytes.now in
    let first = c.in_ok-table.ensures.entries in
    let has : HasHeader c.args.header.now bytes (Some (drop (page_bytes (version_of bytes)) bytes)) = record {
      fields = c.requires.fields;
      faultless = c.requires.faultless;
      size =
          omega (
            arith,
            c.requires.size,
            some_pages (page_bytes (version_of bytes)) c.args.header.now.pages
                (omega (arith, c.requires.in_range.enough)),
          );
      rest = refl;
      each_byte = λ i low. omega (arith, c.type_inv.bytes i);
    } in
    record {
      within = within_first c.in_ok-table.table.entries.items c.in_ok-table.table.pairs.items first;
      size = rw first refl;
      sum = rw c.new-faults.ensures (omega arith);
      come =
          come_first bytes c.args.header.now c.in_ok-table.table.entries.items c.in_ok-table.table.pairs.items
          c.new-faults.result (Some (drop (page_bytes (version_of bytes)) bytes)) first c.new-faults.ensures has;
    }

pub loop-page-preserved : goal.loop-page-preserved
loop-page-preserved c =
    let bytes = c.args.bytes.now in
    let inv = c.loop-page.invariant in
    let more : c.loop-page.page + 1 ≤ c.args.header.now.pages = omega arith in
    let enough : page_bytes (version_of bytes) * (c.loop-page.page + 1) ≤ Rattle.std.proofs.Common.length bytes =
    omega (arith, c.requires.size, mul-le-mul_left (page_bytes (version_of bytes)) more) in
    record {
      within = c.in_ok-take_page.ensures.within;
      size = omega (arith, c.in_ok-take_page.ensures.size, inv.size);
      sum = omega (arith, c.in_ok-take_page.ensures.sum, inv.sum);
      come = c.in_ok-take_page.ensures.come bytes c.page_at-own.ensures.page enough inv.come;
    }
