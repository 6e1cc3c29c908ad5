use Rattle.std.proofs.Common.{arith}
use Rattle.lh_script.proofs.Pairs.{table_bound}
use Rattle.lh_script.proofs.hexadecimal.digit_value.Goals as goal

pub returns-clause-bound : goal.returns-clause-bound
returns-clause-bound c = table_bound c.args.byte (omega arith)
