use Rattle.lh_script.proofs.ReadBack.{read_back}
use Rattle.lh_script.proofs.laws.a_word_is_read_back.Goals as goal

pub returns : goal.returns
returns c = read_back
