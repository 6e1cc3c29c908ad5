use Rattle.lh_image.specs.declared.header.Header.{Header}
use Rattle.lh_image.proofs.Looking.Maps.{listed}
use Rattle.lh_image.proofs.image.Image.config.Goals as goal

pub returns-clause-listed : goal.returns-clause-listed
returns-clause-listed c l image =
    (listed c.self.inside.bytes.now c.self.inside.header c.self.inside.root c.self.invariant (λ (h : Header). h.config)
    l (rw c.self.view_is image)).1
