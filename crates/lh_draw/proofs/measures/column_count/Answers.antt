use Rattle.std.proofs.Common.{ℕ, ◌+◌, ◌-◌, ◌/◌, ap}
use Rattle.lh_draw.specs.Columns.{column_count}
use Rattle.lh_draw.proofs.measures.column_count.Goals as goal

pub returns-clause-value : goal.returns-clause-value
unfolding column_count
returns-clause-value c = ap (λ (g : ℕ). (c.args.buckets + g - 1) / g) c.group_size-group.ensures.value
