use Rattle.lh_script.proofs.ReadBack.{exact}
use Rattle.lh_script.proofs.laws.a_text_is_read_only_as_written.Goals as goal

pub returns : goal.returns
returns c = exact
