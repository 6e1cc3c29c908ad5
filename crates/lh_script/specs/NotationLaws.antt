-- What is read of words that were written, and what is written of words that were read
use Rattle.std.specs.Prelude.{◌≡◌, ℕ, ◌*◌, ◌<◌, ◌≤◌, List, Some, length}
use Rattle.std.specs.List.{All}
use Rattle.lh_script.specs.Notations.{byte_string, byte_text}
use Rattle.lh_script.specs.PlainTexts.{plain_bytes, plain_text}
use Rattle.lh_script.specs.declared.notation.Notation.{Notation}

-- the word of some bytes is read as these bytes
abbrev pub WordsReadBackLaw : Type 0
WordsReadBackLaw =
    (notation : Notation) (bytes : List ℕ) → All (λ b. b < 256) bytes →
    byte_string notation (byte_text notation bytes) ≡ Some bytes

-- a text that stands for bytes is the one that is written of them
abbrev pub ExactLaw : Type 0
ExactLaw = (word bytes : List ℕ) → plain_bytes word ≡ Some bytes → word ≡ plain_text bytes

-- the word of some bytes has at most three for each of theirs, and one where there are none
abbrev pub ShortLaw : Type 0
ShortLaw =
    (notation : Notation) (most : ℕ) (bytes : List ℕ) → 1 ≤ most → length bytes ≤ most →
    length (byte_text notation bytes) ≤ 3 * most
