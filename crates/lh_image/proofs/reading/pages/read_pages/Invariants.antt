use Rattle.std.proofs.Common.{◌≡◌, ℕ, ◌*◌, ◌≤◌, List, length, drop, Some}
use Rattle.lh_image.specs.Header.{HasHeader}
use Rattle.lh_image.specs.Pages.{HaveCome}
use Rattle.lh_image.specs.Table.{AreWithin}
use Rattle.lh_image.specs.Version.{page_bytes, version_of}
use Rattle.lh_image.proofs.reading.pages.read_pages.Given as goal

abbrev pub invariant-loop-page : goal.invariant-loop-page
invariant-loop-page g l = record {
  within : AreWithin l.table.entries.items l.table.pairs.items;
  size : length l.table.entries.items ≡ l.page;
  sum : l.faults.sum ≤ 255 * l.page;
  come : (bytes : List ℕ) → HasHeader l.header bytes (g.R.Read.remaining l.initial.reader) →
      HaveCome bytes l.header l.page l.table.entries.items l.table.pairs.items l.faults
      × (g.R.Read.remaining l.reader ≡ Some (drop (page_bytes (version_of bytes) * l.page) bytes));
}
