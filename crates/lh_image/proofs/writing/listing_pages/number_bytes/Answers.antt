use Rattle.std.proofs.Common.{refl}
use Rattle.lh_image.proofs.writing.listing_pages.number_bytes.Goals as goal

pub returns : goal.returns
returns c version = rw (c.write_u64.ensures, c.write_u32_into.ensures) refl
