use Rattle.std.proofs.Common.{ℕ, ◌*◌, ap, arith}
use Rattle.lh_draw.proofs.ColumnPlaces.{column_within}
use Rattle.lh_draw.proofs.measures.first_bucket.Goals as goal

pub overflow_mul-result : goal.overflow_mul-result
overflow_mul-result c =
    omega (
      arith,
      c.requires.most,
      ap (λ (n : ℕ). n * c.args.column) c.group_size.ensures.value,
      column_within c.args.buckets c.args.column c.requires.some c.requires.column,
    )

pub returns-clause-within : goal.returns-clause-within
returns-clause-within c =
    omega (
      arith,
      ap (λ (n : ℕ). n * c.args.column) c.group_size.ensures.value,
      column_within c.args.buckets c.args.column c.requires.some c.requires.column,
    )
