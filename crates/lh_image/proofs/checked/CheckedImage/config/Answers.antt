use Rattle.std.proofs.Common.{ap, ◌∙◌}
use Rattle.lh_bucket.specs.Listing.{Lists}
use Rattle.lh_image.specs.declared.header.Header.{Header}
use Rattle.lh_image.specs.Image.{listing_of}
use Rattle.lh_image.specs.Layout.{view_of}
use Rattle.lh_image.proofs.Looking.Maps.{listed}
use Rattle.lh_image.proofs.checked.CheckedImage.config.Goals as goal

pub returns : goal.returns
returns c =
    (listed c.self.inside.bytes.now c.self.inside.header c.self.inside.root c.self.invariant.opened
    (λ (h : Header). h.config) (listing_of (view_of c.self.inside.bytes.now)) c.self.invariant.image).1
    ∙ ap (λ (l : Lists). l.config) c.self.view_is
