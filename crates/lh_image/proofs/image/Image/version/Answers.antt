use Rattle.std.proofs.Common.{ap, ◌∙◌}
use Rattle.lh_image.specs.Version.{version_of}
use Rattle.lh_image.proofs.Looking.Steps.{version_is}
use Rattle.lh_image.proofs.image.Image.version.Goals as goal

pub returns : goal.returns
returns c =
    version_is c.self.inside.bytes.now c.self.inside.header c.self.inside.root c.self.invariant
    ∙ ap version_of c.self.view_is
