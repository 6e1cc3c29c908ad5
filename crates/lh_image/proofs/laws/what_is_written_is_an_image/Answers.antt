use Rattle.lh_image.proofs.Writes.CanonicalPages.{canonical_image}
use Rattle.lh_image.proofs.laws.what_is_written_is_an_image.Goals as goal

pub returns : goal.returns
returns c =
    canonical_image c.pages_are_packed.ensures c.pages_are_pieces.ensures c.a_page_is_its_bytes.ensures
    c.pages_read_back.ensures
