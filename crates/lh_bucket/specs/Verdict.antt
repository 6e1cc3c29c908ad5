-- Whether a bucket is the one that a call looks for
use Rattle.std.specs.Prelude.{ℕ, ◌+◌, Option, Some, None, nat_lt, ◌==◌, if◌then◌else◌}
use Rattle.lh_addr.specs.Growth.{hash_at}
use Rattle.lh_bucket.specs.declared.verdict.Verdict.{Verdict}
use Rattle.lh_bucket.specs.declared.verdict.Verdict.TheVariants.{Here, Next, Defect}

-- the verdict by the bucket's level: a defect where it has none or a lower one than the call looks for, and one level
-- up where it has a higher one
abbrev pub by_level : ℕ → ℕ → ℕ → Option ℕ → Verdict
by_level initial c k None = Defect
by_level initial c k (Some level) =
    if nat_lt level k then Defect else (if level == k then Here else Next (k + 1) (hash_at initial (k + 1) c))

-- the verdict on a key of code c that is looked for at level k: a defect too where the code's hash at that level isn't
-- the bucket's number
unfoldable pub verdict_of : ℕ → ℕ → Option ℕ → ℕ → ℕ → Verdict
verdict_of number initial level c k = if hash_at initial k c == number then by_level initial c k level else Defect
