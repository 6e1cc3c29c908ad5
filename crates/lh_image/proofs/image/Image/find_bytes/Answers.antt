use Rattle.std.proofs.Common.{◌≡◌, Ok, Some, rules}
use Rattle.lh_image.specs.Layout.{view_of}
use Rattle.lh_image.specs.LookUp.{look_up}
use Rattle.lh_image.proofs.Looking.Maps.{stands_opened}
use Rattle.lh_image.proofs.image.Image.find_bytes.Goals as goal

pub returns-in-Some-clause-stands : goal.returns-in-Some-clause-stands
returns-in-Some-clause-stands c =
    let found : look_up (view_of c.self.inside.bytes.now) c.args.key.now ≡ Ok (Some c.value_at.result.now) =
    search rules in
    rw (← c.self.view_is)
    (stands_opened c.what_is_found_stands_there.ensures.stands c.self.inside.bytes.now c.self.inside.header
    c.self.inside.root c.self.invariant c.args.key.now c.value_at.result.now found)
