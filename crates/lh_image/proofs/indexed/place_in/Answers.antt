use Rattle.std.proofs.Common.{◌≡◌, subst, arith}
use Rattle.lh_page.specs.PageFields.{used_of}
use Rattle.lh_image.specs.LookUp.{IsSlotOf}
use Rattle.lh_image.proofs.Looking.Scans.{first_pairs-all}
use Rattle.lh_image.proofs.indexed.place_in.Goals as goal

pub returns-clause-found : goal.returns-clause-found
returns-clause-found c good mark =
    let all : c.min.result ≡ used_of c.args.page.now = omega (arith, good.kept.used, good.few, c.min.ensures) in
    subst (λ xs. IsSlotOf c.args.format c.args.page.now c.args.key.now xs c.place_among.result)
    (first_pairs-all c.args.format c.args.page.now c.min.result all)
    (c.place_among.ensures.found good (omega (arith, all)) mark)
