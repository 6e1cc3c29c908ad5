use Rattle.lh_file.proofs.OfSnapshots.ScannedKeys.{by_one_hand, met_once, twice}
use Rattle.lh_file.proofs.scan_laws.a_finished_scan_meets_each_key_once.Goals as goal

pub returns-clause-once : goal.returns-clause-once
returns-clause-once c = met_once

pub returns-clause-by_one_hand : goal.returns-clause-by_one_hand
returns-clause-by_one_hand c = by_one_hand

pub returns-clause-twice : goal.returns-clause-twice
returns-clause-twice c = twice
