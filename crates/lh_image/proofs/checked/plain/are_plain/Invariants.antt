use Rattle.std.proofs.Common.{◌≡◌, ◌≤◌, ◌*◌, length}
use Rattle.lh_image.specs.Plain.{ArePlain}
use Rattle.lh_image.proofs.checked.plain.are_plain.Given as goal

abbrev pub invariant-loop-page : goal.invariant-loop-page
invariant-loop-page l = record {
  size : length l.index ≡ l.header.pages;
  few : l.sum ≤ 255 * l.page;
  plain : ArePlain l.bytes l.page l.index l.sum;
}
