use Rattle.lh_page.proofs.PageText.{page_text_law}
use Rattle.lh_page.proofs.laws.a_page_is_its_bytes.Goals as goal

pub returns : goal.returns
returns c = page_text_law
