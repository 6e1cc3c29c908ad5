use Rattle.std.proofs.Common.{rules}
use Rattle.lh_file.proofs.file.SizedFile.read.Goals as goal

pub returns-clause-aim : goal.returns-clause-aim
returns-clause-aim g c = record { code_is = cc; low = search rules }
