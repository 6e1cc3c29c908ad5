use Rattle.std.proofs.Common.{sym, ap, ◌∙◌}
use Rattle.lh_page.specs.Format.{page_size}
use Rattle.lh_image.specs.Version.{page_bytes}
use Rattle.lh_image.proofs.table.Table.push.Goals as goal

pub pairs_behind_head-requires-clause-size : goal.pairs_behind_head-requires-clause-size
unfolding page_bytes
pairs_behind_head-requires-clause-size c = c.requires.size ∙ ap page_size (sym c.format-format.ensures)
