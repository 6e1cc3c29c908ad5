-- How far a file has grown: the buckets that it began with, and those that it has
use Rattle.std.specs.Prelude.{ℕ}
use Rattle.lh_addr.specs.Limits.{IsInitial, IsSize}

pub record Extent : Type 0 where
  pub initial : ℕ
  pub buckets : ℕ

-- both numbers are within their limits
pub record IsExtent (extent : Extent) : Type 0 where
  pub initial : IsInitial extent.initial
  pub buckets : IsSize extent.initial extent.buckets
