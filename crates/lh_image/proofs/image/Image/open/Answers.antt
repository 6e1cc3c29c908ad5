use Rattle.std.proofs.Common.{sym, ◌∙◌}
use Rattle.std.proofs.lemmas.Result.{err_from_is_err_and}
use Rattle.lh_image.proofs.Looking.Openings.{opening_size}
use Rattle.lh_image.proofs.image.Image.open.Goals as goal

pub returns-in_err-check_size-clause-fault : goal.returns-in_err-check_size-clause-fault
returns-in_err-check_size-clause-fault c =
    let p = err_from_is_err_and c.from_residual-in_err-check_size.result c.from_residual-in_err-check_size.ensures.1 in
    rw (p.1, p.2)
    (c.in_err-check_size.ensures.fault ∙ sym (opening_size c.args.bytes.now c.in_ok-header.ensures.header.1))

pub returns-clause-fault : goal.returns-clause-fault
returns-clause-fault c =
    c.in_ok-check_size.ensures.fault ∙ sym (opening_size c.args.bytes.now c.in_ok-header.ensures.header.1)
