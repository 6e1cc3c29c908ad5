-- What the functions on the way from the words to a request say of commands, rows and errors
use Rattle.std.specs.Prelude.{◌≡◌, ◌≤◌, ◌⊎◌, ℕ, List, Option, None, Some, codes, true, false}
use Rattle.std.specs.Str.Parse.{digits_value, without_leading_plus}
use Rattle.std.specs.String.{string_bytes}
use Rattle.clap.specs.ValueTests.{is_numeral}
use Rattle.clap.specs.Words.{App, Row, Text, app_of, found_of, one_of, rows_of, subcommand_of}
use Rattle.clap.specs.declared.builder.command.Command.{Command}
use Rattle.clap.specs.declared.builder.command.Command.TheViews.{out-Command}
use Rattle.clap.specs.declared.error.kind.ErrorKind.{ErrorKind}
use Rattle.clap.specs.declared.error.kind.ErrorKind.TheVariants as kind
use Rattle.clap.specs.declared.parser.matches.ArgMatches.{ArgMatches}
use Rattle.lh_addr.specs.Limits.{most_initial, most_capacity, least_load, most_load, most_buckets}
use Rattle.lh_addr.specs.Settings.{Settings}
use Rattle.lh_options.specs.Escapes.{has_no_control}
use Rattle.lh_options.specs.Options.{Accepts, IsShown, all_in_digits, asked_by, drive_asked, most_snapshots}
use Rattle.lh_options.specs.Options.{names_format, number_in, program_app, serve_asked, setting_typed_in, settings_from}
use Rattle.lh_options.specs.Options.{texts_in, typed_in}
use Rattle.lh_options.specs.declared.options.Request.{Request}
use Rattle.lh_options.specs.declared.options.Request.TheVariants as request

-- clap reads the words by this command, and no option is global
abbrev pub Reads : App → Command → Type 0
Reads app c = (app_of c ≡ app) × ((out-Command c).has_globals ≡ false)

-- the first value of an option, from the words or by default, is read as a decimal number from least to most
pub record HasNumber (rows : List Row) (name : Text) (least most : ℕ) : Type 0 where
  pub text : Text
  pub as_read : one_of name rows ≡ Some text
  pub numeral : is_numeral (without_leading_plus text) ≡ true
  pub low : least ≤ digits_value 10 (without_leading_plus text)
  pub high : digits_value 10 (without_leading_plus text) ≤ most

-- each of the four settings has a number in its range
pub record HasSettings (rows : List Row) : Type 0 where
  pub initial : HasNumber rows (codes "initial") 1 most_initial
  pub capacity : HasNumber rows (codes "capacity") 1 most_capacity
  pub load : HasNumber rows (codes "load") least_load most_load
  pub max : HasNumber rows (codes "max") 1 most_buckets

-- the numbers of threads, of shards and of snapshots are in their ranges
pub record HasDriveNumbers (rows : List Row) : Type 0 where
  pub threads : HasNumber rows (codes "threads") 1 64
  pub shards : HasNumber rows (codes "shards") 1 64
  pub snapshots : HasNumber rows (codes "snapshots") 0 most_snapshots

-- the version of the image is one of the two
abbrev pub HasImage : List Row → Type 0
HasImage rows = HasNumber rows (codes "image") 1 2

-- the four settings in the rows of a subcommand
unfoldable pub settings_in : List Row → Option Settings
settings_in rows = settings_from
    (number_in rows (codes "initial")) (number_in rows (codes "capacity"))
    (number_in rows (codes "load")) (number_in rows (codes "max"))

-- the name of a subcommand that fills a file and writes it as an image
abbrev pub IsBuildCommand : Text → Type 0
IsBuildCommand name = (name ≡ codes "build") ⊎ (name ≡ codes "load")

-- the name of a subcommand with the options of a file's settings
abbrev pub IsFileCommand : Text → Type 0
IsFileCommand name =
    (name ≡ codes "commands") ⊎ ((name ≡ codes "steps") ⊎ ((name ≡ codes "build") ⊎ (
    (name ≡ codes "drive") ⊎ ((name ≡ codes "replay") ⊎ ((name ≡ codes "serve") ⊎ (name ≡ codes "load"))))))

-- the name of a subcommand that reads an image, without the options of a file's settings
abbrev pub IsImageCommand : Text → Type 0
IsImageCommand name =
    (name ≡ codes "check") ⊎ ((name ≡ codes "dump") ⊎ ((name ≡ codes "draw") ⊎ (
    (name ≡ codes "migrate") ⊎ ((name ≡ codes "query") ⊎ ((name ≡ codes "apply") ⊎ (name ≡ codes "get"))))))

-- what a subcommand asks for by its rows
abbrev pub asked_in : Text → List Row → Option Request
asked_in name rows =
    asked_by name (settings_in rows) (number_in rows) (typed_in rows (codes "from_image")) (setting_typed_in rows)
    (texts_in rows)

-- what `drive` asks for by its rows, with settings in order
abbrev pub drive_asked_in : List Row → Settings → Option Request
drive_asked_in rows s = drive_asked (number_in rows) s

-- what `serve` asks for by its rows
abbrev pub serve_asked_in : List Row → Option Request
serve_asked_in rows = serve_asked (settings_in rows) (typed_in rows (codes "from_image")) (setting_typed_in rows)

-- each number is written in digits alone, and the word for a format names one
abbrev pub IsWellWritten : List Row → Type 0
IsWellWritten rows = (all_in_digits rows ≡ true) × (names_format rows ≡ true)

-- a number has a sign, or the word for a format names none
abbrev pub IsMiswritten : List Row → Type 0
IsMiswritten rows = (all_in_digits rows ≡ false) ⊎ (names_format rows ≡ false)

-- the words name a subcommand, with these rows
abbrev pub HasRows : List Text → List Row → Type 0
HasRows words rows = (name : Text) × (subcommand_of program_app words ≡ Some (name, rows))

-- what is found is the subcommand of accepted words, by its rows; in other words none is
abbrev pub IsAccepted : List Text → Option ArgMatches → Type 0
IsAccepted words (Some m) = Accepts words × HasRows words (rows_of (found_of m))
IsAccepted words None = ¬ Accepts words

-- what a request says of the kind of clap's error
abbrev pub IsRefusal : ErrorKind → Request → Type 0
IsRefusal k (request.Help text) = IsShown k
IsRefusal k (request.Refused text) =
    (IsShown k → ⊥) × (k ≡ kind.OutOfMemory → ⊥) × (has_no_control (string_bytes text) ≡ true)
IsRefusal k _ = ⊥

-- a request that refuses words, for a reason without a control byte
abbrev pub IsRefusedText : Request → Type 0
IsRefusedText (request.Refused text) = has_no_control (string_bytes text) ≡ true
IsRefusedText _ = ⊥
