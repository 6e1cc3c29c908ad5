-- The command line: the program's command, the numbers that the words give its options,
-- and what a request says of the words
use Rattle.std.specs.Prelude.{◌≡◌, ◌⊎◌, ◌<◌, ◌≤◌, ℕ, List, [], ◌∷◌, Option, Some, None, codes, pos, false, true, nat_lt}
use Rattle.std.specs.Prelude.{Bool, ◌&&◌, ◌||◌, ◌==◌, find, is_some, option_map, option_and_then, unwrap_or}
use Rattle.std.specs.Prelude.{if◌then◌else◌}
use Rattle.std.specs.Char.{is_ascii_digit}
use Rattle.std.specs.List.{list_all}
use Rattle.std.specs.Option.{option_map_or}
use Rattle.std.specs.Str.{bytes_eq}
use Rattle.std.specs.String.{string_bytes}
use Rattle.std.specs.Str.Parse.{digits_value, without_leading_plus}
use Rattle.clap.specs.ValueTests.{is_numeral}
pub use Rattle.clap.specs.Walk.{Text}
use Rattle.clap.specs.Words.{App, Row, Rule, all_of, fault_of, first_of, new_app, new_rule, one_of, subcommand_of}
use Rattle.clap.specs.Words.{with_rule, with_subcommand}
use Rattle.clap.specs.Kinds.{IsAmong}
use Rattle.clap.specs.declared.builder.action.ArgAction.TheVariants.{Append, Set, SetTrue}
use Rattle.clap.specs.declared.builder.value_parser.ValueParser.TheVariants as parser
use Rattle.clap.specs.declared.parser.matches.ValueSource.{ValueSource}
use Rattle.clap.specs.declared.parser.matches.ValueSource.TheVariants.{CommandLine}
use Rattle.clap.specs.declared.error.kind.ErrorKind.{ErrorKind}
use Rattle.clap.specs.declared.error.kind.ErrorKind.TheVariants as kind
use Rattle.lh_addr.specs.Limits.{most_initial, most_capacity, least_load, most_load, most_buckets}
use Rattle.lh_addr.specs.Settings.{Settings}
use Rattle.lh_options.specs.Escapes.{has_no_control}
use Rattle.lh_options.specs.declared.dump_format.DumpFormat.{DumpFormat}
use Rattle.lh_options.specs.declared.dump_format.DumpFormat.TheVariants.{Cdb, Db, Lines}
use Rattle.lh_options.specs.declared.options.ImageVersion.{ImageVersion}
use Rattle.lh_options.specs.declared.options.ImageVersion.TheVariants.{First, Second}
use Rattle.lh_options.specs.declared.options.NamedFiles.{NamedFiles}
use Rattle.lh_options.specs.declared.options.Request.{Request}
use Rattle.lh_options.specs.declared.options.Request.TheVariants as request

-- an option with a whole number from least to most
abbrev pub option_rule : Text → Text → ℕ → ℕ → Rule
option_rule name default least most = record (new_rule name) {
  long = Some name;
  action = Some Set;
  defaults = default ∷ [];
  parser = Some (parser.Signed (pos least) (pos most));
}

-- a flag, which has no value
abbrev pub flag_rule : Text → Text → Rule
flag_rule id name = record (new_rule id) { long = Some name; action = Some SetTrue }

-- a command with the options of a file's settings
abbrev pub with_settings : App → App
with_settings app =
    with_rule (with_rule (with_rule (with_rule app
    (option_rule (codes "initial") (codes "1") 1 most_initial))
    (option_rule (codes "capacity") (codes "14") 1 most_capacity))
    (option_rule (codes "load") (codes "100") least_load most_load))
    (option_rule (codes "max") (codes "65536") 1 most_buckets)

-- the operand that names a file to read
abbrev pub file_rule : Rule
file_rule = record (new_rule (codes "file")) { value_names = 1 }

-- a command with that operand
abbrev pub with_file : App → App
with_file app = with_rule app file_rule

-- the option that names a file to write, `--output` or `-o`
abbrev pub output_rule : Rule
output_rule = record (new_rule (codes "output")) {
  long = Some (codes "output");
  short = Some 111;
  value_names = 1;
}

-- a command with that option
abbrev pub with_output : App → App
with_output app = with_rule app output_rule

-- the flag that says that keys and values are text
abbrev pub text_rule : Rule
text_rule = flag_rule (codes "text") (codes "text")

-- a command with that flag, which stands behind its other options
abbrev pub with_text : App → App
with_text app = with_rule app text_rule

-- a subcommand that reads a script, in which keys and values may be text
abbrev pub script_app : Text → App
script_app name = with_text (with_file (with_settings (new_app name)))

abbrev pub commands_app : App
commands_app = script_app (codes "commands")

abbrev pub steps_app : App
steps_app = script_app (codes "steps")

-- the subcommands that draw a picture of a script, or write an image
abbrev pub replay_app : App
replay_app = with_output (with_file (with_settings (new_app (codes "replay"))))

-- a command with an option for the version of an image
abbrev pub with_image : App → App
with_image app = with_rule app (option_rule (codes "image") (codes "2") 1 2)

-- a subcommand that fills a file and writes it as an image
abbrev pub building_app : Text → App
building_app name = with_image (with_output (with_file (with_settings (new_app name))))

-- the one that fills it by a script
abbrev pub build_app : App
build_app = with_text (building_app (codes "build"))

-- and the one that fills it with the records of another store, whose dump has a form of its own
abbrev pub load_app : App
load_app = building_app (codes "load")

-- the subcommands that read an image have no settings
abbrev pub check_app : App
check_app = with_file (new_app (codes "check"))

-- the option that names the format of the records
abbrev pub format_rule : Rule
format_rule = record (new_rule (codes "format")) {
  long = Some (codes "format");
  value_names = 1;
  defaults = codes "lines" ∷ [];
}

abbrev pub dump_app : App
dump_app = with_text (with_rule (with_file (new_app (codes "dump"))) format_rule)

abbrev pub draw_app : App
draw_app = with_output (with_file (new_app (codes "draw")))

abbrev pub migrate_app : App
migrate_app = with_output (with_file (new_app (codes "migrate")))

abbrev pub query_app : App
query_app = with_text (with_file (new_app (codes "query")))

-- but the version of an image, where they write one that a script leaves
abbrev pub apply_app : App
apply_app = with_text (with_image (with_output (with_file (new_app (codes "apply")))))

-- the operand that names a file to read, where one is to be named
abbrev pub needed_file_rule : Rule
needed_file_rule = record file_rule { required = true }

-- the operand with the words of keys, of which there is to be one at least
abbrev pub keys_rule : Rule
keys_rule = record (new_rule (codes "keys")) { action = Some Append; value_names = 1; required = true }

-- the subcommand that looks keys up in an image
abbrev pub get_app : App
get_app = with_text (with_rule (with_rule (new_app (codes "get")) needed_file_rule) keys_rule)

-- the flag that says that the input begins with an image; its id is not its name
abbrev pub image_flag_rule : Rule
image_flag_rule = flag_rule (codes "from_image") (codes "image")

-- the subcommand that answers a client
abbrev pub serve_app : App
serve_app = with_text (with_rule (with_file (with_settings (new_app (codes "serve")))) image_flag_rule)

-- a command with an option for a number of threads
abbrev pub with_threads : App → App
with_threads app = with_rule app (option_rule (codes "threads") (codes "4") 1 64)

-- a command with an option for a number of shards
abbrev pub with_shards : App → App
with_shards app = with_rule app (option_rule (codes "shards") (codes "1") 1 64)

-- the most snapshots that are taken while a script is run in threads
abbrev pub most_snapshots : ℕ
most_snapshots = 1000

-- a command with an option for a number of snapshots
abbrev pub with_snapshots : App → App
with_snapshots app = with_rule app (option_rule (codes "snapshots") (codes "0") 0 most_snapshots)

-- the subcommand that runs a script in threads
abbrev pub drive_app : App
drive_app =
    with_text (with_snapshots (with_shards (with_threads (with_file (with_settings (new_app (codes "drive")))))))

-- a command that asks for a subcommand
abbrev pub with_subcommand_required : App → App
with_subcommand_required app = record app { top = record app.top { subcommand_required = true } }

-- a command that has a version
abbrev pub with_version : App → App
with_version app = record app { top = record app.top { has_version = true } }

-- the program's command before it has a subcommand, which it asks for
abbrev pub root_app : App
root_app = with_subcommand_required (with_version (new_app (codes "lhash")))

-- with the subcommands that take a script in one thread
abbrev pub scripts_app : App
scripts_app =
    with_subcommand (with_subcommand (with_subcommand (with_subcommand root_app
    commands_app.top) steps_app.top) replay_app.top) build_app.top

-- the program's command
abbrev pub program_app : App
program_app =
    with_subcommand (with_subcommand
    (with_subcommand (with_subcommand (with_subcommand (with_subcommand (with_subcommand (with_subcommand (
    with_subcommand (with_subcommand scripts_app
    load_app.top) check_app.top) dump_app.top) drive_app.top) draw_app.top) migrate_app.top)
    query_app.top)
    apply_app.top) serve_app.top) get_app.top

-- the whole number that a text writes in decimal digits, where it is such a text; a plus may stand first, as clap has
-- it, though not in words that are accepted
abbrev pub numeral_value : Text → Option ℕ
numeral_value text =
    let digits = without_leading_plus text in
    if is_numeral digits then Some (digits_value 10 digits) else None

-- the number of an option: that of the first value in its row, as clap reads it, so that `-0` is 0
abbrev pub number_in : List Row → Text → Option ℕ
number_in rows name = option_and_then numeral_value (one_of name rows)

-- the four settings, where each is there
abbrev pub settings_from : Option ℕ → Option ℕ → Option ℕ → Option ℕ → Option Settings
settings_from (Some initial) (Some capacity) (Some load) (Some max) =
    Some (record { initial = initial; capacity = capacity; load = load; max = max })
settings_from _ _ _ _ = None

-- whether the number that rows give an option, where they give one, is written in digits alone
abbrev pub in_digits : List Row → Text → Bool
in_digits rows name = option_map_or (λ text. list_all is_ascii_digit text) (first_of name rows) true

-- whether each number that rows give is
abbrev pub all_in_digits : List Row → Bool
all_in_digits rows =
    in_digits rows (codes "initial") && (in_digits rows (codes "capacity") && (in_digits rows (codes "load") && (
    in_digits rows (codes "max") && (in_digits rows (codes "threads") && (in_digits rows (codes "shards") && (
    in_digits rows (codes "snapshots") && in_digits rows (codes "image")))))))

-- the format of records that a word names, where it names one
abbrev pub format_named : Text → Option DumpFormat
format_named word =
    if bytes_eq word (codes "lines") then Some Lines
    else if bytes_eq word (codes "cdb") then Some Cdb
    else if bytes_eq word (codes "db") then Some Db
    else None

-- whether the word that rows give for a format, where they give one, names one
abbrev pub names_format : List Row → Bool
names_format rows = option_map_or (λ word. is_some (format_named word)) (first_of (codes "format") rows) true

-- the format that the first of some words names, and lines where it names none
abbrev pub chosen_format : List Text → DumpFormat
chosen_format [] = Lines
chosen_format (word ∷ rest) = unwrap_or (format_named word) Lines

-- whether a value comes from the words, and not from a default
abbrev pub is_from_words : Option ValueSource → Bool
is_from_words (Some CommandLine) = true
is_from_words _ = false

-- whether rows say that the words give an option, so that its value is no default
abbrev pub typed_in : List Row → Text → Bool
typed_in rows name = is_from_words (option_and_then (λ r. r.source) (find (λ r. bytes_eq r.id name) rows))

-- whether rows say that the words give one of the options of a file's settings
abbrev pub setting_typed_in : List Row → Bool
setting_typed_in rows =
    typed_in rows (codes "initial") || (typed_in rows (codes "capacity") || (typed_in rows (codes "load")
    || typed_in rows (codes "max")))

-- whether the words write each number in digits alone, without a sign
abbrev pub write_digits : List Text → Bool
write_digits words = option_map_or (λ s. all_in_digits s.1) (subcommand_of program_app words) true

-- whether the word that the words give for a format, where they give one, names one
abbrev pub write_format : List Text → Bool
write_format words = option_map_or (λ s. names_format s.1) (subcommand_of program_app words) true

-- clap finds no fault in the words, each number is written in digits alone, and the word for a format names one
unfoldable pub Accepts : List Text → Type 0
Accepts words = (fault_of program_app words ≡ []) × (write_digits words ≡ true) × (write_format words ≡ true)

-- the subcommand that the words name
unfoldable pub subcommand_named : List Text → Option Text
subcommand_named words = option_map (λ s. s.0) (subcommand_of program_app words)

-- the number that the words give an option: that of its first value in clap's rows for the subcommand
abbrev pub number_given : List Text → Text → Option ℕ
number_given words name = option_and_then (λ s. number_in s.1 name) (subcommand_of program_app words)

-- the settings that the words give
unfoldable pub settings_given : List Text → Option Settings
settings_given words = settings_from
    (number_given words (codes "initial")) (number_given words (codes "capacity"))
    (number_given words (codes "load")) (number_given words (codes "max"))

-- the text that the words give an option or an operand
abbrev pub text_given : List Text → Text → Option Text
text_given words name = option_and_then (λ s. first_of name s.1) (subcommand_of program_app words)

-- the texts that rows give an option or an operand, in their order
abbrev pub texts_in : List Row → Text → List Text
texts_in rows name = unwrap_or (all_of name rows) []

-- the texts that the words give an option or an operand
abbrev pub texts_given : List Text → Text → List Text
texts_given words name = option_map_or (λ s. texts_in s.1 name) (subcommand_of program_app words) []

-- the words of the keys that the words give `get`
abbrev pub keys_given : List Text → List Text
keys_given words = texts_given words (codes "keys")

-- the format that the words give `dump`
abbrev pub format_given : List Text → DumpFormat
format_given words = chosen_format (texts_given words (codes "format"))

-- the file that a text names: `-` is a stream of the process, and names none
abbrev pub file_named : Option Text → Option Text
file_named None = None
file_named (Some text) = if bytes_eq text (codes "-") then None else Some text

-- the files that accepted words name, to be read and to be written; other words name none
pub record AreNamed (words : List Text) (files : NamedFiles) : Type 0 where
  pub input : Accepts words → option_map string_bytes files.input ≡ file_named (text_given words (codes "file"))
  pub output : Accepts words → option_map string_bytes files.output ≡ file_named (text_given words (codes "output"))
  pub none : ¬ Accepts words → (files.input ≡ None) × (files.output ≡ None)

-- whether the words give the flag that says that keys and values are text
abbrev pub text_asked : List Text → Bool
text_asked words = option_map_or (λ s. typed_in s.1 (codes "text")) (subcommand_of program_app words) false

-- whether accepted words give it; other words don't
pub record IsWhetherText (words : List Text) (text : Bool) : Type 0 where
  pub accepted : Accepts words → text ≡ text_asked words
  pub none : ¬ Accepts words → text ≡ false

-- whether the words give the flag that says that the input begins with an image
abbrev pub image_begins : List Text → Bool
image_begins words = option_map_or (λ s. typed_in s.1 (codes "from_image")) (subcommand_of program_app words) false

-- whether the words give one of the options of a file's settings
abbrev pub settings_typed : List Text → Bool
settings_typed words = option_map_or (λ s. setting_typed_in s.1) (subcommand_of program_app words) false

-- settings of which the greatest number of buckets is less than the initial one
abbrev pub IsMaxBelowInitial : Option Settings → Type 0
IsMaxBelowInitial (Some s) = s.max < s.initial
IsMaxBelowInitial None = ⊥

-- the words are accepted and ask for this subcommand
abbrev pub Asks : List Text → Text → Type 0
Asks words name = Accepts words × (subcommand_named words ≡ Some name)

-- a text that was asked for: clap's help, or the version
abbrev pub IsShown : ErrorKind → Type 0
IsShown k = (k ≡ kind.DisplayHelp) ⊎ (k ≡ kind.DisplayVersion)

-- the words ask clap for its help, or for the version
unfoldable pub AsksForHelp : List Text → Type 0
AsksForHelp words = (k : ErrorKind) × IsAmong k (fault_of program_app words) × IsShown k

-- clap finds a fault in the words, other than a call for help or for the version; or it finds none, and a number has a
-- sign, or the word for a format names none
unfoldable pub IsRefused : List Text → Type 0
IsRefused words =
    ((k : ErrorKind) × IsAmong k (fault_of program_app words) × (IsShown k → ⊥))
    ⊎ ((fault_of program_app words ≡ []) × ((write_digits words ≡ false) ⊎ (write_format words ≡ false)))

-- what is asked for with settings, which are refused where `--max` is less than `--initial`
abbrev pub in_order : Option Settings → (Settings → Option Request) → Option Request
in_order None ask = None
in_order (Some s) ask = if nat_lt s.max s.initial then Some request.MaxBelowInitial else ask s

-- what is asked for without settings
abbrev pub asked_without_settings : Option Settings → Request → Option Request
asked_without_settings None r = Some r
asked_without_settings (Some s) r = None

-- the version of an image that a number says
abbrev pub version_numbered : ℕ → ImageVersion
version_numbered n = if n == 1 then First else Second

-- an image of the version that a number says, without settings
abbrev pub apply_asked : Option Settings → Option ℕ → Option Request
apply_asked settings image =
    option_and_then (λ n. asked_without_settings settings (request.Apply (version_numbered n))) image

-- a run in threads; a snapshot is one of a whole file, so that snapshots of more shards than one are refused
abbrev pub driven : Settings → ℕ → ℕ → ℕ → Request
driven s threads shards snapshots =
    if shards == 1 || snapshots == 0 then request.Drive s threads shards snapshots else request.SnapshotsOfShards

-- a run in threads with settings in order, by the numbers of threads, of shards and of snapshots
abbrev pub drive_asked : (Text → Option ℕ) → Settings → Option Request
drive_asked numbers s =
    option_and_then
    (λ threads. option_and_then
    (λ shards. option_map (λ snapshots. driven s threads shards snapshots) (numbers (codes "snapshots")))
    (numbers (codes "shards")))
    (numbers (codes "threads"))

-- what `serve` asks for, with the settings, whether an image begins the input, and whether a setting is typed: one
-- beside an image is refused whatever the order of the settings, and where none is, they are the defaults, in order
abbrev pub serve_asked : Option Settings → Bool → Bool → Option Request
serve_asked settings image typed =
    if image then (if typed then Some request.SettingsBesideImage else Some request.ServeImage)
    else in_order settings (λ s. Some (request.Serve s))

-- what a subcommand asks for, with the settings and the numbers of other options that the words give, whether they say
-- that the input begins with an image, whether they give one of the settings, and which texts they give other options
-- and operands
unfoldable pub asked_by : Text → Option Settings → (Text → Option ℕ) → Bool → Bool → (Text → List Text) →
    Option Request
asked_by name settings numbers image typed texts =
    if bytes_eq name (codes "commands") then in_order settings (λ s. Some (request.Commands s))
    else if bytes_eq name (codes "steps") then in_order settings (λ s. Some (request.Steps s))
    else if bytes_eq name (codes "replay") then in_order settings (λ s. Some (request.Replay s))
    else if bytes_eq name (codes "build")
    then in_order settings (λ s. option_map (λ n. request.Build s (version_numbered n)) (numbers (codes "image")))
    else if bytes_eq name (codes "load")
    then in_order settings (λ s. option_map (λ n. request.Load s (version_numbered n)) (numbers (codes "image")))
    else if bytes_eq name (codes "drive") then in_order settings (drive_asked numbers)
    else if bytes_eq name (codes "check") then asked_without_settings settings request.Check
    else if bytes_eq name (codes "dump")
    then asked_without_settings settings (request.Dump (chosen_format (texts (codes "format"))))
    else if bytes_eq name (codes "draw") then asked_without_settings settings request.Draw
    else if bytes_eq name (codes "migrate") then asked_without_settings settings request.Migrate
    else if bytes_eq name (codes "query") then asked_without_settings settings request.Query
    else if bytes_eq name (codes "apply") then apply_asked settings (numbers (codes "image"))
    else if bytes_eq name (codes "get") then asked_without_settings settings (request.Get (texts (codes "keys")))
    else if bytes_eq name (codes "serve") then serve_asked settings image typed
    else None

-- what words ask for that are accepted
abbrev pub asked_for : List Text → Option Request
asked_for words =
    option_and_then
    (λ name.
    asked_by name (settings_given words) (number_given words) (image_begins words) (settings_typed words)
    (texts_given words))
    (subcommand_named words)

-- why words that are not accepted are turned away: they ask for a text that is shown, or are refused, for a reason in
-- which no word brings a control byte
abbrev pub IsTurned : List Text → Request → Type 0
IsTurned words (request.Help text) = AsksForHelp words
IsTurned words (request.Refused text) = IsRefused words × (has_no_control (string_bytes text) ≡ true)
IsTurned words _ = ⊥

-- what a request says of the words: accepted words ask for it, or other words are turned away by it
abbrev pub Answers : List Text → Request → Type 0
Answers words r = (Accepts words × (asked_for words ≡ Some r)) ⊎ (¬ Accepts words × IsTurned words r)

-- what is asked for can be done: a script is run in 1 to 64 threads, on 1 to 64 shards
abbrev pub IsServable : Request → Type 0
IsServable (request.Drive config threads shards snapshots) =
    (1 ≤ threads) × (threads ≤ 64) × (1 ≤ shards) × (shards ≤ 64)
IsServable _ = Unit {0}
