-- The effects and refusals of a step script's events, as lines
use Rattle.std.specs.Prelude.{ℕ, List, ◌++◌, flat_map, Ok, Err, codes}
use Rattle.std.specs.Fmt.{decimal}
use Rattle.lh_core.specs.declared.effect.Effect.{Effect}
use Rattle.lh_core.specs.declared.effect.Effect.TheVariants as effect
use Rattle.lh_core.specs.declared.effect.Refusal.{Refusal}
use Rattle.lh_core.specs.declared.effect.Refusal.TheVariants as refusal
use Rattle.lh_core.specs.Log.{Entry}
use Rattle.lh_script.specs.Texts.{line, reply_text}
use Rattle.lh_script.specs.declared.notation.Notation.{Notation}

-- a word and two numbers behind it
abbrev pub two_numbers : List ℕ → ℕ → ℕ → List ℕ
two_numbers word first second = word ++ (decimal first ++ (codes " " ++ decimal second))

-- the text of an accepted event
abbrev pub effect_text : Notation → Effect → List ℕ
effect_text notation effect.Called = codes "called"
effect_text notation (effect.Aim level bucket) = two_numbers (codes "aim ") level bucket
effect_text notation (effect.Locked bucket level) = two_numbers (codes "locked ") bucket level
effect_text notation (effect.Answered reply) = reply_text notation reply
effect_text notation effect.Released = codes "released"
effect_text notation effect.GivenUp = codes "given up"
effect_text notation (effect.Begun old new) = two_numbers (codes "begun ") old new
effect_text notation (effect.Both old new) = two_numbers (codes "both ") old new
effect_text notation (effect.Moved old new) = two_numbers (codes "moved ") old new
effect_text notation effect.Freed = codes "freed"
effect_text notation (effect.Point buckets) = codes "point " ++ decimal buckets
effect_text notation effect.Dropped = codes "dropped"

-- the text of a refused event
abbrev pub refusal_text : Refusal → List ℕ
refusal_text refusal.WrongState = codes "refused C1"
refusal_text refusal.Held = codes "refused C2"
refusal_text refusal.MustRehash = codes "refused C3"
refusal_text refusal.NothingToRehash = codes "refused C4"
refusal_text refusal.SplitBusy = codes "refused C5"
refusal_text refusal.FileFull = codes "refused C6"
refusal_text refusal.Memory = codes "refused C7"

-- the text of an event's effect or refusal
abbrev pub entry_text : Notation → Entry → List ℕ
entry_text notation (Ok effect) = effect_text notation effect
entry_text notation (Err refusal) = refusal_text refusal

-- what `steps` writes: a line for each entry
unfoldable pub steps_text : Notation → List Entry → List ℕ
steps_text notation entries = flat_map (λ entry. line (entry_text notation entry)) entries
