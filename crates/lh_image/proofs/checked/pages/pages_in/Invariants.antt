use Rattle.std.proofs.Common.{◌≡◌, ◌*◌, ◌≤◌, length}
use Rattle.lh_image.specs.Pages.{HaveCome}
use Rattle.lh_image.specs.Table.{AreWithin}
use Rattle.lh_image.proofs.checked.pages.pages_in.Given as goal

abbrev pub invariant-loop-page : goal.invariant-loop-page
invariant-loop-page l = record {
  within : AreWithin l.table.entries.items l.table.pairs.items;
  size : length l.table.entries.items ≡ l.page;
  sum : l.faults.sum ≤ 255 * l.page;
  come : HaveCome l.bytes l.header l.page l.table.entries.items l.table.pairs.items l.faults;
}
