use Rattle.std.proofs.Common.{arith}
use Rattle.std.proofs.lemmas.Grind.{common_steps}
use Rattle.lh_subcommands.specs.ImageTexts.{check_text}
use Rattle.lh_subcommands.proofs.image_texts.CensusTextDisplay.fmt.Goals as goal

pub returns-clause-writes : goal.returns-clause-writes
unfolding check_text
returns-clause-writes g c = grind (arith, common_steps)
