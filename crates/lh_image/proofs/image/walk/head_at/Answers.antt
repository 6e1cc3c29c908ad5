use Rattle.std.proofs.Common.{ap, ◌∙◌}
use Rattle.lh_page.specs.PageFields.{head_of}
use Rattle.lh_image.proofs.Looking.Steps.{head_is}
use Rattle.lh_image.proofs.image.walk.head_at.Goals as goal

pub returns : goal.returns
returns c =
    c.head_of.ensures ∙ ap head_of c.page_at.ensures.page ∙ head_is c.args.bytes.now c.args.number c.requires.from
