-- What reads and writes do to the bytes that a reader has left and a writer holds
use Rattle.std.specs.Prelude.{◌≡◌, ◌⊎◌, ℕ, ◌<◌, ◌≤◌, ◌+◌, length, List, ◌++◌, Option, Result, OnOk, OnErr, String}
use Rattle.std.specs.Io.KnownBytes.{Appends, Consumes}
use Rattle.std.specs.String.{string_capacity}
-- the writer took a beginning of a text
pub use Rattle.lh_image.specs.Writing.{TakesBeginning}

-- what was taken from the reader was added to a list
abbrev pub ReadsOnto : Option (List ℕ) → Option (List ℕ) → List ℕ → List ℕ → Type 0
ReadsOnto before now old new = (more : List ℕ) × Consumes before now more × (new ≡ old ++ more)

-- the whole input was read, or so much of it that it is seen to have more than `most` bytes
abbrev pub IsReadOf : ℕ → List ℕ → List ℕ → Type 0
IsReadOf most input read = (read ≡ input) ⊎ ((most < length input) × (most < length read))

-- how many bytes are written at once
abbrev pub written_at_once : ℕ
written_at_once = 65536

-- no line has more bytes: key and value, of 56 and 112 bytes at most, take three for each of theirs, and all else less
-- than 256
abbrev pub longest_output_line : ℕ
longest_output_line = 760

-- what waits has room for as many bytes as are written at once, and a line more
abbrev pub IsReserved : {Z : Type 0} → String Z → Type 0
IsReserved waiting = written_at_once + longest_output_line ≤ string_capacity waiting

-- the writer took all of a text but its end, which waits
pub record Sends (before now : Option (List ℕ)) (waiting text : List ℕ) : Type 0 where
  pub taken : List ℕ
  pub appended : Appends before now taken
  pub whole : taken ++ waiting ≡ text

-- where all went well, a text was sent behind what was sent before; of what is sent, a part may wait
abbrev pub Adds : {A E : Type 0} → Result A E → Option (List ℕ) → Option (List ℕ) → List ℕ → List ℕ → List ℕ → Type 0
Adds result was now waited waits text =
    (before : Option (List ℕ)) (sent : List ℕ) → Sends before was waited sent →
    OnOk result (Sends before now waits (sent ++ text))

-- where a write failed, the writer took a beginning of what was sent before and a text behind it
abbrev pub Breaks : {A E : Type 0} → Result A E → Option (List ℕ) → Option (List ℕ) → List ℕ → List ℕ → Type 0
Breaks result was now waited text =
    (before : Option (List ℕ)) (sent : List ℕ) → Sends before was waited sent →
    OnErr result (TakesBeginning before now (sent ++ text))
