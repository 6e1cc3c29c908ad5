use Rattle.std.proofs.Common.{sym, ◌∙◌}
use Rattle.lh_file.proofs.file.SizedFile.next_of.Goals as goal

pub returns-in-Here-clause-here : goal.returns-in-Here-clause-here
returns-in-Here-clause-here g c = λ none. sym c.compare.ensures ∙ c.in-Here.is

pub returns-in-Next-clause-here : goal.returns-in-Next-clause-here
returns-in-Next-clause-here g c = λ none. cc
