use Rattle.lh_image.proofs.Writes.CanonicalPages.{canonical_length}
use Rattle.lh_image.proofs.laws.written_images_have_their_pages.Goals as goal

pub returns : goal.returns
returns c =
    canonical_length c.pages_are_packed.ensures c.pages_are_pieces.ensures c.a_page_is_its_bytes.ensures
    c.pages_read_back.ensures
