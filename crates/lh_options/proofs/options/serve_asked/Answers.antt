use Rattle.std.proofs.Common.{◌∙◌, refl, sym}
use Rattle.lh_options.specs.AskingLaws.{serve_by}
use Rattle.lh_options.proofs.options.serve_asked.Goals as goal

pub returns-then-not-is_typed-clause-value : goal.returns-then-not-is_typed-clause-value
returns-then-not-is_typed-clause-value c = sym (serve_by _ _ _ _ _ _ refl) ∙ c.file_asked.ensures.value
