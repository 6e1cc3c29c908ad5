-- What a look at the records of a file leaves of the hand that looks
use Rattle.std.specs.Prelude.{◌≡◌, ℕ, ◌≤◌, ◌⊎◌, List}
use Rattle.lh_file.specs.Words.HandState.{HandState, knowing, told_of}
use Rattle.lh_words.specs.declared.seat_view.Entry.{Entry}

-- The hand is as it was, but that it may have seen more buckets, and may have been told of a log of no fewer acts: it
-- drew no stamp, and its calls, its right to split and its acts are as before.
pub record HasSurveyed (old new : HandState) : Type 0 where
  pub known : ℕ
  pub more : old.view.known ≤ known
  pub told : (new ≡ knowing old known)
      ⊎ ((floor : ℕ) × (log : List Entry) × (old.view.floor ≤ floor) × (new ≡ told_of (knowing old known) floor log))
