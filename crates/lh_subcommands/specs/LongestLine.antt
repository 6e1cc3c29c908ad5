-- What the lines that the program writes are made of: numbers of 32 bits, keys and values
use Rattle.std.specs.Prelude.{ℕ, ◌^◌, ◌<◌, Ok, Err}
use Rattle.lh_bucket.specs.declared.call.Reply.{Reply}
use Rattle.lh_bucket.specs.declared.call.Reply.TheVariants.{Found}
use Rattle.lh_core.specs.declared.effect.Effect.{Effect}
use Rattle.lh_core.specs.declared.effect.Effect.TheVariants as effect
use Rattle.lh_core.specs.Log.{Entry}
use Rattle.lh_page.specs.Limits.{IsKey, IsValue}
use Rattle.lh_page.specs.declared.pair.Pair.{Pair}

-- a number of 32 bits
abbrev pub IsNumber : ℕ → Type 0
IsNumber n = n < 2 ^ 32

-- a reply's value, where it has one, is within its limits
abbrev pub IsReplyInLimits : Reply → Type 0
IsReplyInLimits (Found value) = IsValue value
IsReplyInLimits _ = Unit {0}

-- so are an effect's numbers and its reply
abbrev pub IsEffectInLimits : Effect → Type 0
IsEffectInLimits (effect.Aim level bucket) = IsNumber level × IsNumber bucket
IsEffectInLimits (effect.Locked bucket level) = IsNumber bucket × IsNumber level
IsEffectInLimits (effect.Answered reply) = IsReplyInLimits reply
IsEffectInLimits (effect.Begun old new) = IsNumber old × IsNumber new
IsEffectInLimits (effect.Both old new) = IsNumber old × IsNumber new
IsEffectInLimits (effect.Moved old new) = IsNumber old × IsNumber new
IsEffectInLimits (effect.Point buckets) = IsNumber buckets
IsEffectInLimits _ = Unit {0}

-- so is what an event did, where it was accepted
abbrev pub IsEntryInLimits : Entry → Type 0
IsEntryInLimits (Ok done) = IsEffectInLimits done
IsEntryInLimits (Err refusal) = Unit {0}

-- so are a record's key and value
abbrev pub IsRecordInLimits : Pair → Type 0
IsRecordInLimits pair = IsKey pair.key × IsValue pair.value
