use Rattle.lh_draw.proofs.Meanings.{column_law}
use Rattle.lh_draw.proofs.laws.buckets_have_columns.Goals as goal

pub returns : goal.returns
returns c = column_law
