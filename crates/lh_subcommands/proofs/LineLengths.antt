-- How long the lines are that the program writes
use Rattle.std.proofs.Common.{ℕ, ◌*◌, ◌<◌, ◌≤◌, ◌^◌, List, [], ◌∷◌, ◌++◌, Ok, Err, length, codes, decimal, arith}
use Rattle.std.proofs.Common.{length-append}
use Rattle.std.proofs.lemmas.Fmt.{length-decimal-le}
use Rattle.lh_bucket.specs.declared.call.Reply.{Reply}
use Rattle.lh_bucket.specs.declared.call.Reply.TheVariants.{Found, Absent, Inserted, Exists, Deleted, Replaced}
use Rattle.lh_core.specs.declared.effect.Effect.{Effect}
use Rattle.lh_core.specs.declared.effect.Refusal.TheVariants as refusal
use Rattle.lh_core.specs.declared.effect.Effect.TheVariants as effect
use Rattle.lh_core.specs.Log.{Entry}
use Rattle.lh_page.specs.Limits.{longest_key, longest_value}
use Rattle.lh_page.specs.declared.pair.Pair.{Pair}
use Rattle.lh_script.specs.StepTexts.{effect_text, entry_text, two_numbers}
use Rattle.lh_script.specs.NotationLaws.{ShortLaw}
use Rattle.lh_script.specs.Notations.{byte_text}
use Rattle.lh_script.specs.Texts.{line, reply_text, size_text}
use Rattle.lh_script.specs.declared.notation.Notation.{Notation}
use Rattle.lh_subcommands.specs.Devices.{longest_output_line}
use Rattle.lh_subcommands.specs.ImageTexts.{record_text}
use Rattle.lh_subcommands.specs.LongestLine.{IsEffectInLimits, IsEntryInLimits, IsRecordInLimits, IsReplyInLimits}

-- the line with the number of buckets is no longer than the longest
pub size_fits : (buckets : ℕ) → buckets < 2 ^ 32 → length (line (size_text buckets)) ≤ longest_output_line
size_fits buckets few =
    let digits = length-decimal-le 10 buckets (omega arith) (omega arith) (omega arith) in
    omega (
      arith,
      digits,
      length-append (codes "buckets ") (decimal buckets),
      length-append (size_text buckets) (10 ∷ []),
    )

-- the line of a reply is no longer than the longest
pub reply_fits : ShortLaw → (n : Notation) (reply : Reply) → IsReplyInLimits reply →
    length (line (reply_text n reply)) ≤ longest_output_line
reply_fits short n (Found value) few =
    let word = short n longest_value value (omega arith) few in
    omega (
      arith,
      word,
      length-append (codes "found ") (byte_text n value),
      length-append (reply_text n (Found value)) (10 ∷ []),
    )
reply_fits short n Absent few = omega arith
reply_fits short n Inserted few = omega arith
reply_fits short n Exists few = omega arith
reply_fits short n Deleted few = omega arith
reply_fits short n Replaced few = omega arith

number_fits : (n : ℕ) → n < 2 ^ 32 → length (decimal n) ≤ 10
number_fits n few = length-decimal-le 10 n (omega arith) (omega arith) (omega arith)

-- the line of a record is no longer than the longest
pub record_fits : ShortLaw → (n : Notation) (bucket : ℕ) (pair : Pair) → bucket < 2 ^ 32 → IsRecordInLimits pair →
    length (line (record_text n bucket pair)) ≤ longest_output_line
record_fits short n bucket pair few limits =
    let keys = short n longest_key pair.key (omega arith) limits.0.1 in
    let values = short n longest_value pair.value (omega arith) limits.1 in
    omega (
      arith,
      keys,
      values,
      number_fits bucket few,
      length-append (codes " ") (byte_text n pair.value),
      length-append (byte_text n pair.key) (codes " " ++ byte_text n pair.value),
      length-append (codes " ") (byte_text n pair.key ++ (codes " " ++ byte_text n pair.value)),
      length-append (decimal bucket)
          (codes " " ++ (byte_text n pair.key ++ (codes " " ++ byte_text n pair.value))),
      length-append (record_text n bucket pair) (10 ∷ []),
    )

two_fit : (word : List ℕ) (first second : ℕ) → length word ≤ 16 → first < 2 ^ 32 → second < 2 ^ 32 →
    length (line (two_numbers word first second)) ≤ longest_output_line
two_fit word first second short few also =
    omega (
      arith,
      short,
      number_fits first few,
      number_fits second also,
      length-append (codes " ") (decimal second),
      length-append (decimal first) (codes " " ++ decimal second),
      length-append word (decimal first ++ (codes " " ++ decimal second)),
      length-append (two_numbers word first second) (10 ∷ []),
    )

effect_fits : ShortLaw → (n : Notation) (done : Effect) → IsEffectInLimits done →
    length (line (effect_text n done)) ≤ longest_output_line
effect_fits short n effect.Called few = omega arith
effect_fits short n (effect.Aim level bucket) few = two_fit (codes "aim ") level bucket (omega arith) few.0 few.1
effect_fits short n (effect.Locked bucket level) few = two_fit (codes "locked ") bucket level (omega arith) few.0 few.1
effect_fits short n (effect.Answered reply) few = reply_fits short n reply few
effect_fits short n effect.Released few = omega arith
effect_fits short n effect.GivenUp few = omega arith
effect_fits short n (effect.Begun old new) few = two_fit (codes "begun ") old new (omega arith) few.0 few.1
effect_fits short n (effect.Both old new) few = two_fit (codes "both ") old new (omega arith) few.0 few.1
effect_fits short n (effect.Moved old new) few = two_fit (codes "moved ") old new (omega arith) few.0 few.1
effect_fits short n effect.Freed few = omega arith
effect_fits short n (effect.Point buckets) few =
    omega (
      arith,
      number_fits buckets few,
      length-append (codes "point ") (decimal buckets),
      length-append (codes "point " ++ decimal buckets) (10 ∷ []),
    )
effect_fits short n effect.Dropped few = omega arith

-- the line of an entry is no longer than the longest
pub entry_fits : ShortLaw → (n : Notation) (entry : Entry) → IsEntryInLimits entry →
    length (line (entry_text n entry)) ≤ longest_output_line
entry_fits short n (Ok done) few = effect_fits short n done few
entry_fits short n (Err refusal.WrongState) few = omega arith
entry_fits short n (Err refusal.Held) few = omega arith
entry_fits short n (Err refusal.MustRehash) few = omega arith
entry_fits short n (Err refusal.NothingToRehash) few = omega arith
entry_fits short n (Err refusal.SplitBusy) few = omega arith
entry_fits short n (Err refusal.FileFull) few = omega arith
entry_fits short n (Err refusal.Memory) few = omega arith
