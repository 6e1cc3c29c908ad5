-- What a client is answered: the replies of one plain map
use Rattle.std.specs.Prelude.{◌≡◌, ◌⊎◌, ℕ, ◌-◌, ◌^◌, ◌≤◌, Bool, true, false, ◌||◌, List, [], ◌++◌, length}
use Rattle.std.specs.Prelude.{if◌then◌else◌, Option, None, Some, Result, Ok, Err}
use Rattle.std.specs.FinMap.{empty, len}
use Rattle.lh_addr.specs.Settings.{Settings}
use Rattle.lh_bucket.specs.declared.call.Call.{Call}
use Rattle.lh_bucket.specs.Listing.{Lists, size}
use Rattle.lh_bucket.specs.PlainMap.{IsInsert, Records, after, reply}
use Rattle.lh_core.specs.Listed.{IsListed}
use Rattle.lh_core.specs.Opened.{records_of}
use Rattle.lh_core.specs.Serial.{IsAtRest, grows_after, size_after}
use Rattle.lh_core.specs.World.{StandsFor, WorldSeen}
use Rattle.lh_image.specs.Canonical.{canonical}
use Rattle.lh_image.specs.Writing.{FitsImage, IsWriteRefusal}
use Rattle.lh_image.specs.declared.version.Version.TheVariants.{Two}
use Rattle.lh_script.specs.Lines.{without_last_cr, words}
use Rattle.lh_script.specs.Requests.{request}
use Rattle.lh_script.specs.declared.fault.LineFault.{LineFault}
use Rattle.lh_script.specs.declared.notation.Notation.{Notation}
use Rattle.lh_script.specs.declared.requests.ClientRequest.{ClientRequest}
use Rattle.lh_script.specs.declared.requests.ClientRequest.TheVariants as ask
use Rattle.lh_serving.specs.Texts.{answer_line}
use Rattle.lh_serving.specs.declared.answer.LineAnswer.{LineAnswer}
use Rattle.lh_serving.specs.declared.answer.LineAnswer.TheVariants as answer
use Rattle.lh_serving.specs.declared.answer.Fault.{Fault}
use Rattle.lh_serving.specs.declared.answer.Fault.TheVariants as fault

-- a file as its client sees it: its configuration, its records, how many buckets it has, and whether memory has run out
-- for a split
pub record FileSeen : Type 0 where
  pub settings : Settings
  pub map : Records
  pub size : ℕ
  pub missed : Bool

-- the empty file of a configuration
abbrev pub first_file : Settings → FileSeen
first_file settings = record { settings = settings; map = empty; size = settings.initial; missed = false }

-- the file of a listing
abbrev pub file_of : Lists → FileSeen
file_of l = record { settings = l.config; map = records_of l; size = size l; missed = false }

-- a request, but for that of an image where the answers go to a terminal
abbrev pub unless_shown : ClientRequest → Bool → Result (Option ClientRequest) Fault
unless_shown ask.Image true = Err fault.Terminal
unless_shown asked shown = Ok (Some asked)

-- a line that is no request is a fault
abbrev pub in_line : Bool → Result (Option ClientRequest) LineFault → Result (Option ClientRequest) Fault
in_line shown (Ok None) = Ok None
in_line shown (Ok (Some asked)) = unless_shown asked shown
in_line shown (Err f) = Err (fault.Line f)

-- what a line asks for, by what is kept of it, and whether the answers are shown on a terminal
abbrev pub asked_by : Notation → Bool → Option (List ℕ) → Result (Option ClientRequest) Fault
asked_by notation shown None = Err fault.TooLong
asked_by notation shown (Some line) = in_line shown (request notation (words (without_last_cr line)))

-- The file after a call: the records are the plain map's; the buckets are as many as the split policy gives, but as
-- many as before where memory ran out for the split that the policy wants, and that is noted.
pub record IsAfter (file : FileSeen) (call : Call) (next : FileSeen) : Type 0 where
  pub settings : next.settings ≡ file.settings
  pub map : next.map ≡ after file.map call
  pub refused : Bool
  pub size : next.size ≡ (if refused then file.size
      else size_after file.settings (after file.map call) file.size (reply file.map call))
  pub asked : refused ≡ true →
      grows_after file.settings (len (after file.map call)) file.size (reply file.map call) ≡ true
  pub missed : next.missed ≡ (file.missed || refused)

-- memory may run out for an insert, and for any call where 64 bits count no more records
abbrev pub MayWant : FileSeen → Call → Type 0
MayWant file call = IsInsert call ⊎ (2 ^ 64 - 1 ≤ len file.map)

-- how a call is answered: by the plain map's reply, or that memory ran out, and then nothing changes
abbrev pub AnswersCall : FileSeen → Call → LineAnswer → FileSeen → Type 0
AnswersCall file call (answer.Reply given) next = (given ≡ reply file.map call) × IsAfter file call next
AnswersCall file call (answer.Fault fault.Memory) next = (next ≡ file) × MayWant file call
AnswersCall file call _ next = ⊥

-- an image of a file is written: a line with its length, and the canonical image of version 2 of a listing of the file
pub record IsImaged (notation : Notation) (file : FileSeen) (said : List ℕ) : Type 0 where
  pub listing : Lists
  pub listed : IsListed file.settings file.map file.size listing
  pub fits : FitsImage Two listing
  pub text : said ≡ answer_line notation (Some (answer.Image (length (canonical Two listing)))) ++ canonical Two listing

-- why none is: memory ran out, or the file is too large for one
abbrev pub IsUnimaged : FileSeen → Fault → Type 0
IsUnimaged file fault.Memory = Unit {0}
IsUnimaged file (fault.Image f) =
    (l : Lists) × IsListed file.settings file.map file.size l × IsWriteRefusal Two l f
IsUnimaged file _ = ⊥

-- the bytes that answer what a line asks for: nothing is answered by none, a fault by its name, and neither changes
-- anything
abbrev pub AnswersLine : Notation → FileSeen → Result (Option ClientRequest) Fault → List ℕ → FileSeen → Type 0
AnswersLine notation file (Ok None) said next = (said ≡ []) × (next ≡ file)
AnswersLine notation file (Ok (Some (ask.Call call))) said next =
    (a : LineAnswer) × (said ≡ answer_line notation (Some a)) × AnswersCall file call a next
AnswersLine notation file (Ok (Some ask.Buckets)) said next =
    (said ≡ answer_line notation (Some (answer.Buckets file.size))) × (next ≡ file)
AnswersLine notation file (Ok (Some ask.Records)) said next =
    (said ≡ answer_line notation (Some (answer.Records (len file.map)))) × (next ≡ file)
AnswersLine notation file (Ok (Some ask.Image)) said next =
    (IsImaged notation file said ⊎ ((f : Fault) × (said ≡ answer_line notation (Some (answer.Fault f)))
    × IsUnimaged file f))
    × (next ≡ file)
AnswersLine notation file (Err f) said next = (said ≡ answer_line notation (Some (answer.Fault f))) × (next ≡ file)

-- a world at rest, with the number of its records and whether memory has run out for a split, is this file
pub record HoldsFile (world : WorldSeen) (records : ℕ) (missed : Bool) (file : FileSeen) : Type 0 where
  pub same : world.config ≡ file.settings
  pub rest : IsAtRest world.state
  pub stands : StandsFor world file.map
  pub count : records ≡ len file.map
  pub size : world.state.buckets ≡ file.size
  pub noted : missed ≡ file.missed
