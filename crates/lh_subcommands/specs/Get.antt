-- What `get` does, which looks keys up in the bytes of an image
use Rattle.std.specs.Prelude.{◌≡◌, ◌⊎◌, ℕ, suc, Bool, true, false, List, [], ◌∷◌, ◌++◌, Option, Some, None, IfSome}
use Rattle.std.specs.Prelude.{codes, Result, Ok, Err, Vec, flat_map}
use Rattle.std.specs.declared.alloc.Global.{Global}
use Rattle.std.specs.Fmt.{decimal}
use Rattle.std.specs.Io.KnownBytes.{Appends, Keeps}
use Rattle.std.specs.List.{list_any}
use Rattle.std.specs.String.{string_bytes}
use Rattle.lh_bucket.specs.declared.call.Reply.{Reply}
use Rattle.lh_bucket.specs.declared.call.Reply.TheVariants.{Found, Absent}
use Rattle.lh_image.specs.declared.fault.ImageFault.{ImageFault}
use Rattle.lh_image.specs.Layout.{view_of}
use Rattle.lh_image.specs.LookUp.{look_up, opening_fault}
use Rattle.lh_image.specs.View.{View}
use Rattle.lh_script.specs.FaultTexts.{line_fault_text}
use Rattle.lh_script.specs.Operands.{key}
use Rattle.lh_script.specs.Texts.{line, reply_text}
use Rattle.lh_script.specs.declared.fault.LineFault.{LineFault}
use Rattle.lh_script.specs.declared.notation.Notation.{Notation}
use Rattle.lh_subcommands.specs.Devices.{TakesBeginning}
use Rattle.lh_subcommands.specs.declared.get.NoKey.{NoKey}
use Rattle.lh_subcommands.specs.declared.status.DeviceFault.TheVariants.{Read, Write}
use Rattle.lh_subcommands.specs.declared.status.InputFault.TheVariants.{Image}
use Rattle.lh_subcommands.specs.declared.status.Status.{Status}
use Rattle.lh_subcommands.specs.declared.status.Status.TheVariants.{Done, Input, Words, Device, KeyAbsent, Memory}

-- what the first leads to, and then the others, or the first error
abbrev pub with_first : {B E : Type 0} → Result B E → Result (List B) E → Result (List B) E
with_first (Ok y) (Ok ys) = Ok (y ∷ ys)
with_first (Ok y) (Err e) = Err e
with_first (Err e) rest = Err e

-- what each of some things leads to, in turn, or the first error
unfoldable pub each_in_turn : {A B E : Type 0} → (A → Result B E) → List A → Result (List B) E
each_in_turn f [] = Ok []
each_in_turn f (x ∷ xs) = with_first (f x) (each_in_turn f xs)

-- ---- the words

-- words by their places, of which the first is this
unfoldable pub placed_from : ℕ → List (List ℕ) → List (ℕ × List ℕ)
placed_from n [] = []
placed_from n (word ∷ rest) = (n, word) ∷ placed_from (suc n) rest

-- the key that a word stands for, or why it stands for none
abbrev pub key_or : ℕ → Result (List ℕ) LineFault → Result (List ℕ) NoKey
key_or place (Ok k) = Ok k
key_or place (Err fault) = Err (record { place = place; fault = fault })

abbrev pub word_key : Notation → ℕ × List ℕ → Result (List ℕ) NoKey
word_key notation p = key_or p.0 (key notation p.1)

-- the keys that words stand for, as in a script, or the first word that stands for none, by its place from 1
unfoldable pub keys_of : Notation → List (List ℕ) → Result (List (List ℕ)) NoKey
keys_of notation words = each_in_turn (word_key notation) (placed_from 1 words)

-- the text of what is wrong with a word
abbrev pub no_key_text : NoKey → List ℕ
no_key_text wrong = codes "key " ++ (decimal wrong.place ++ (codes ": " ++ line_fault_text wrong.fault))

-- ---- the look-ups

-- what is told of a key: its value, or that it is absent
abbrev pub look_up_reply : Result (Option (List ℕ)) ImageFault → Result Reply ImageFault
look_up_reply (Ok (Some value)) = Ok (Found value)
look_up_reply (Ok None) = Ok Absent
look_up_reply (Err fault) = Err fault

-- what is told of each key in turn by the pages of bytes, or the first fault that one of the look-ups meets
unfoldable pub found_in : View → List (List ℕ) → Result (List Reply) ImageFault
found_in v keys = each_in_turn (λ k. look_up_reply (look_up v k)) keys

-- the same of bytes that are to be opened first, or the fault by which they can't be
abbrev pub found_unless : Option ImageFault → View → List (List ℕ) → Result (List Reply) ImageFault
found_unless (Some fault) v keys = Err fault
found_unless None v keys = found_in v keys

-- what is told of each key in turn by an input, or its first fault that opening it or a look-up meets
unfoldable pub found_of : List ℕ → List (List ℕ) → Result (List Reply) ImageFault
found_of input keys = found_unless (opening_fault input) (view_of input) keys

-- a line for each reply
unfoldable pub found_text : Notation → List Reply → List ℕ
found_text notation replies = flat_map (λ reply. line (reply_text notation reply)) replies

-- whether a reply says that a key is absent
abbrev pub is_missing : Reply → Bool
is_missing Absent = true
is_missing _ = false

-- whether one of them does
abbrev pub has_absent : List Reply → Bool
has_absent replies = list_any is_missing replies

-- ---- how a run ends

-- how a run ends whose lines are all written, by whether a key is absent
abbrev pub told_by : Bool → Status
told_by true = KeyAbsent
told_by false = Done

-- A status, and what the writer took, where these are the replies or the fault: done where no key is absent, or a key
-- is absent, and it took just the lines; the fault that is met, and it took nothing; a failed write, and it took a
-- beginning of the lines; a failed read or out of memory, and it took nothing.
abbrev pub EndsFound : Notation → Status → Result (List Reply) ImageFault → Option (List ℕ) → Option (List ℕ) → Type 0
EndsFound notation Done (Ok replies) before now =
    (has_absent replies ≡ false) × Appends before now (found_text notation replies)
EndsFound notation KeyAbsent (Ok replies) before now =
    (has_absent replies ≡ true) × Appends before now (found_text notation replies)
EndsFound notation (Device Write) (Ok replies) before now = TakesBeginning before now (found_text notation replies)
EndsFound notation (Input (Image fault)) found before now = (found ≡ Err fault) × Keeps before now
EndsFound notation (Device Read) found before now = Keeps before now
EndsFound notation Memory found before now = Keeps before now
EndsFound notation _ found before now = ⊥

-- a word that is no key is refused, unless memory ran out
abbrev pub IsRefusedFor : NoKey → Status → Type 0
IsRefusedFor wrong (Words text) = string_bytes text ≡ no_key_text wrong
IsRefusedFor wrong Memory = Unit {0}
IsRefusedFor wrong _ = ⊥

-- the keys that words stand for were read, or how the run ends: a word is none, or memory ran out
abbrev pub IsKeysOf : Result (Vec (List ℕ) Global) Status → Result (List (List ℕ)) NoKey → Type 0
IsKeysOf (Ok keys) given = given ≡ Ok keys.items
IsKeysOf (Err status) given = (status ≡ Memory) ⊎ ((wrong : NoKey) × (given ≡ Err wrong) × IsRefusedFor wrong status)

-- how `get` ends with these keys, or with a word that is none: then nothing is read and nothing written
abbrev pub EndsGettingOf : Notation → Result (List (List ℕ)) NoKey → Status → Option (List ℕ) → Option (List ℕ) →
    Option (List ℕ) → Option (List ℕ) → Type 0
EndsGettingOf notation (Ok keys) status left rest before now =
    IfSome left (λ input. EndsFound notation status (found_of input keys) before now)
EndsGettingOf notation (Err wrong) status left rest before now =
    IsRefusedFor wrong status × Keeps left rest × Keeps before now

-- how `get` ends with these words of keys
unfoldable pub EndsGetting : Notation → List (List ℕ) → Status → Option (List ℕ) → Option (List ℕ) → Option (List ℕ) →
    Option (List ℕ) → Type 0
EndsGetting notation words status left rest before now =
    EndsGettingOf notation (keys_of notation words) status left rest before now
