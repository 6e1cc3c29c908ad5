use Rattle.std.proofs.Common.{ap, arith}
use Rattle.lh_file.specs.Snapshots.Scans.{times_aimed}
use Rattle.lh_file.proofs.OfSnapshots.Aims.{met_in_all}
use Rattle.lh_file.proofs.laws.a_scan_meets_each_code_once.Goals as goal

pub returns : goal.returns
returns c traced file scan after hand left copies all scanned end code =
    omega (
      arith,
      met_in_all traced file scan after hand left copies scanned code,
      all code,
      ap (times_aimed scan.initial code) end,
    )
