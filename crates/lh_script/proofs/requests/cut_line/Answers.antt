use Rattle.std.proofs.Common.{◌+◌, refl}
use Rattle.lh_script.proofs.Cutting.{cut_at_lf}
use Rattle.lh_script.proofs.Splitting.{part_from}
use Rattle.lh_script.proofs.requests.cut_line.Goals as goal

pub returns : goal.returns
returns c =
    cut_at_lf c.args.bytes.now _ _ c.in_ok-end.end c.in_ok-end.ensures refl
    (part_from (c.in_ok-end.end + 1) c.args.bytes.now)
