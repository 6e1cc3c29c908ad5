-- A conversation so far: what came from the client, and what it was told
use Rattle.std.specs.Prelude.{◌≡◌, ℕ, Bool, false, List, [], ◌∷◌, ◌++◌, Option, None}
use Rattle.std.specs.List.{list_any}
use Rattle.lh_bucket.specs.Listing.{Lists}
use Rattle.lh_core.specs.World.{WorldSeen}
use Rattle.lh_script.specs.Lines.{is_lf}
use Rattle.lh_script.specs.Texts.{line}
use Rattle.lh_script.specs.declared.notation.Notation.{Notation}
use Rattle.lh_serving.specs.Answers.{AnswersLine, FileSeen, HoldsFile, asked_by}
use Rattle.lh_serving.specs.Parts.{kept}
use Rattle.lh_serving.specs.Texts.{image_text}

-- a line of the client without its LF, the bytes that answer it, and the file from then on
pub record Turn : Type 0 where
  pub said : List ℕ
  pub answer : List ℕ
  pub file : FileSeen

-- the file after turns, of which the newest comes first, from this one on
abbrev pub file_after : FileSeen → List Turn → FileSeen
file_after start [] = start
file_after start (turn ∷ turns) = turn.file

-- the bytes of their lines
abbrev pub turn_lines : List Turn → List ℕ
turn_lines [] = []
turn_lines (turn ∷ turns) = turn_lines turns ++ line turn.said

-- the bytes of their answers
abbrev pub answers_of : List Turn → List ℕ
answers_of [] = []
answers_of (turn ∷ turns) = answers_of turns ++ turn.answer

-- where a conversation begins: how keys and values are written, whether the answers are shown on a terminal, and the
-- file
pub record Beginning : Type 0 where
  pub notation : Notation
  pub shown : Bool
  pub file : FileSeen

-- the beginning over a file
abbrev pub beginning : Notation → Bool → FileSeen → Beginning
beginning notation shown file = record { notation = notation; shown = shown; file = file }

-- each line has no LF, and has its answer by the file that the turns before it left
abbrev pub AreTurns : Beginning → List Turn → Type 0
AreTurns start [] = Unit {0}
AreTurns start (turn ∷ turns) =
    AreTurns start turns × (list_any is_lf turn.said ≡ false)
    × AnswersLine start.notation (file_after start.file turns) (asked_by start.notation start.shown (kept turn.said))
    turn.answer turn.file

-- What a client of a file was told is just the answers to the complete lines of what was heard of it.
pub record IsAnswered (start : Beginning) (heard answers : List ℕ) : Type 0 where
  pub turns : List Turn
  pub rest : List ℕ
  pub each : AreTurns start turns
  pub whole : heard ≡ turn_lines turns ++ rest
  pub incomplete : list_any is_lf rest ≡ false
  pub same : answers ≡ answers_of turns

-- a conversation: how keys and values are written, whether the answers are shown on a terminal, its world and the
-- number of its records, whether memory has run out for a split, what has come of the next line, the lines that wait to
-- be told, and the file whose image waits behind them, if one does
pub record ConversationSeen : Type 0 where
  pub notation : Notation
  pub shown : Bool
  pub world : WorldSeen
  pub records : ℕ
  pub missed : Bool
  pub part : Option (List ℕ)
  pub waiting : List ℕ
  pub image : Option Lists

-- what waits to be told
abbrev pub pending : ConversationSeen → List ℕ
pending talk = talk.waiting ++ image_text talk.image

-- nothing waits to be told
pub record HasToldAll (talk : ConversationSeen) : Type 0 where
  pub waiting : talk.waiting ≡ []
  pub image : talk.image ≡ None

-- A conversation that began so, and heard these bytes, where these were told: with what waits, these are just the
-- answers to the complete lines.
pub record IsAt (start : Beginning) (talk : ConversationSeen) (heard answers : List ℕ) : Type 0 where
  pub turns : List Turn
  pub rest : List ℕ
  pub each : AreTurns start turns
  pub whole : heard ≡ turn_lines turns ++ rest
  pub incomplete : list_any is_lf rest ≡ false
  pub same : answers ++ pending talk ≡ answers_of turns
  pub part : talk.part ≡ kept rest
  pub file : HoldsFile talk.world talk.records talk.missed (file_after start.file turns)
  pub same_notation : talk.notation ≡ start.notation
  pub same_shown : talk.shown ≡ start.shown
