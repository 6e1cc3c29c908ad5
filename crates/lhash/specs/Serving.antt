-- How a run answers its words
use Rattle.std.specs.Prelude.{◌≡◌, ◌⊎◌, ◌==◌, ◌||◌, ℕ, ◌<◌, ◌≤◌, Bool, false, true, List, Option, Some, IfSome, Result}
use Rattle.std.specs.Prelude.{codes}
use Rattle.std.specs.String.{string_bytes}
use Rattle.std.specs.Io.KnownBytes.{Appends, Keeps}
use Rattle.lh_subcommands.specs.Devices.{TakesBeginning}
use Rattle.lh_image.specs.declared.version.Version.{Version}
use Rattle.lh_image.specs.declared.version.Version.TheVariants.{One, Two}
use Rattle.lhash.specs.Driving.{EndsDriving}
use Rattle.lhash.specs.DrivingShards.{EndsDrivingShards}
use Rattle.lh_subcommands.specs.Continued.{EndsApplying, EndsApplyingTo, query_due, query_due_of}
use Rattle.lh_exchange.specs.declared.format.StreamFormat.TheVariants as stream
use Rattle.lh_subcommands.specs.Exporting.{export_due}
use Rattle.lh_subcommands.specs.Get.{EndsGetting}
use Rattle.lh_subcommands.specs.Images.{EndsBuilding, check_due, draw_due, dump_due, migrate_due}
use Rattle.lh_subcommands.specs.Loading.{EndsLoading}
use Rattle.lh_addr.specs.Settings.{Settings}
use Rattle.lh_options.specs.Escapes.{has_no_control}
use Rattle.lh_options.specs.Options.{Accepts, Answers, Asks, AsksForHelp, IsRefused, Text, format_given, image_begins}
use Rattle.lh_options.specs.Options.{IsWhetherText, keys_given, number_given, settings_given, settings_typed}
use Rattle.lh_options.specs.Options.{text_asked, version_numbered}
use Rattle.lh_script.specs.declared.notation.Notation.{Notation}
use Rattle.lh_script.specs.declared.notation.Notation.TheVariants as notated
use Rattle.lh_subcommands.specs.Run.{Ends, EndsReplay, EndsSteps, commands_due}
use Rattle.lh_serving.specs.Answers.{first_file}
use Rattle.lh_serving.specs.Conversations.{beginning}
use Rattle.lh_subcommands.specs.Serve.{EndsServing, EndsServingFrom, EndsServingOf}
use Rattle.lh_options.specs.declared.dump_format.DumpFormat.{DumpFormat}
use Rattle.lh_options.specs.declared.dump_format.DumpFormat.TheVariants.{Cdb, Db, Lines}
use Rattle.lh_options.specs.declared.options.ImageVersion.{ImageVersion}
use Rattle.lh_options.specs.declared.options.ImageVersion.TheVariants.{First, Second}
use Rattle.lh_options.specs.declared.options.Request.{Request}
use Rattle.lh_options.specs.declared.options.Request.TheVariants.{Commands, Steps, Replay, Build, Check, Draw, Dump}
use Rattle.lh_options.specs.declared.options.Request.TheVariants.{Drive, Get, Load, Migrate, Query, Apply, Serve}
use Rattle.lh_options.specs.declared.options.Request.TheVariants.{ServeImage, Help}
use Rattle.lh_options.specs.declared.options.Request.TheVariants.{Refused, MaxBelowInitial, SettingsBesideImage}
use Rattle.lh_options.specs.declared.options.Request.TheVariants.{SnapshotsOfShards}
use Rattle.lh_subcommands.specs.declared.status.DeviceFault.TheVariants.{Write}
use Rattle.lh_subcommands.specs.declared.status.InputFault.{InputFault}
use Rattle.lh_subcommands.specs.declared.status.Status.{Status}
use Rattle.lh_subcommands.specs.declared.status.Status.TheVariants.{Done, Words, Device, KeyAbsent, Memory}

-- all was done
abbrev pub IsDone : Status → Type 0
IsDone status = status ≡ Done

-- all was done, also where a key was absent
abbrev pub WritesAll : Status → Type 0
WritesAll status = IsDone status ⊎ (status ≡ KeyAbsent)

-- the words are refused for this reason, unless memory ran out
abbrev pub IsWordsOf : List ℕ → Status → Type 0
IsWordsOf reason (Words text) = string_bytes text ≡ reason
IsWordsOf reason Memory = Unit {0}
IsWordsOf reason _ = ⊥

-- help was written, or a beginning of it where the writer failed
abbrev pub IsHelped : List ℕ → Status → Option (List ℕ) → Option (List ℕ) → Type 0
IsHelped text Done before now = Appends before now text
IsHelped text (Device Write) before now = TakesBeginning before now text
IsHelped text _ before now = ⊥

-- `--max` is below `--initial`
abbrev pub below_initial : List ℕ
below_initial = codes "max is less than initial"

-- a setting stands beside `--image`
abbrev pub beside_image : List ℕ
beside_image = codes "--image excludes --initial, --capacity, --load and --max"

-- snapshots of more shards than one
abbrev pub snapshots_of_shards : List ℕ
snapshots_of_shards = codes "--snapshots needs --shards 1"

-- how `drive` ends: on one file, with snapshots or without, or on several shards
abbrev pub EndsDrivingIn : Notation → Bool → Settings → ℕ → ℕ → List ℕ → Status → Option (List ℕ) →
    Option (List ℕ) → Type 0
EndsDrivingIn notation true settings shards snapshots input status before now =
    EndsDriving notation settings snapshots input status before now
EndsDrivingIn notation false settings shards snapshots input status before now =
    EndsDrivingShards notation settings shards input status before now

-- how keys and values are written, by whether they are to be text
abbrev pub notation_by : Bool → Notation
notation_by true = notated.Text
notation_by false = notated.Hexadecimal

-- how words ask for keys and values to be written
abbrev pub IsNotationOf : List Text → Notation → Type 0
IsNotationOf words notation = (text : Bool) × IsWhetherText words text × (notation ≡ notation_by text)

-- the same of words that are accepted
abbrev pub notation_given : List Text → Notation
notation_given words = notation_by (text_asked words)

-- the version of an image that is asked for
abbrev pub wanted_version : ImageVersion → Version
wanted_version First = One
wanted_version Second = Two

-- what `dump` is to write for an input, in a format
abbrev pub dumped_due : Notation → DumpFormat → List ℕ → Result (List ℕ) InputFault
dumped_due notation Lines input = dump_due notation input
dumped_due notation Cdb input = export_due stream.Cdb input
dumped_due notation Db input = export_due stream.Db input

-- what a request led to, with whether the output is shown on a terminal, what the reader had left and has, and what the
-- writer held and holds
abbrev pub IsPerformed : Notation → Bool → Request → Status → Option (List ℕ) → Option (List ℕ) → Option (List ℕ) →
    Option (List ℕ) → Type 0
IsPerformed notation shown (Commands config) status left rest before now =
    IfSome left (λ input. Ends status (commands_due notation config input) before now)
IsPerformed notation shown (Steps config) status left rest before now =
    IfSome left (λ input. EndsSteps notation config input status before now)
IsPerformed notation shown (Replay config) status left rest before now =
    IfSome left (λ input. EndsReplay config input status before now)
IsPerformed notation shown (Build config image) status left rest before now =
    IfSome left (λ input. EndsBuilding notation (wanted_version image) config input status before now)
IsPerformed notation shown (Load config image) status left rest before now =
    IfSome left (λ input. EndsLoading (wanted_version image) config input status before now)
IsPerformed notation shown Check status left rest before now =
    IfSome left (λ input. Ends status (check_due input) before now)
IsPerformed notation shown (Dump format) status left rest before now =
    IfSome left (λ input. Ends status (dumped_due notation format input) before now)
IsPerformed notation shown Draw status left rest before now =
    IfSome left (λ input. Ends status (draw_due input) before now)
IsPerformed notation shown Migrate status left rest before now =
    IfSome left (λ input. Ends status (migrate_due input) before now)
IsPerformed notation shown Query status left rest before now =
    IfSome left (λ input. Ends status (query_due notation input) before now)
IsPerformed notation shown (Apply image) status left rest before now =
    IfSome left (λ input. EndsApplying notation (wanted_version image) input status before now)
IsPerformed notation shown (Get keys) status left rest before now =
    EndsGetting notation keys status left rest before now
IsPerformed notation shown (Drive config threads shards snapshots) status left rest before now =
    IfSome left (λ input. EndsDrivingIn notation (shards == 1) config shards snapshots input status before now)
IsPerformed notation shown (Serve config) status left rest before now =
    IfSome left (λ input. EndsServing (beginning notation shown (first_file config)) input status rest before now)
IsPerformed notation shown ServeImage status left rest before now =
    IfSome left (λ input. EndsServingFrom notation shown input status rest before now)
IsPerformed notation shown (Help text) status left rest before now =
    IsHelped (string_bytes text) status before now × Keeps left rest
IsPerformed notation shown (Refused text) status left rest before now =
    (status ≡ Words text) × Keeps left rest × Keeps before now
IsPerformed notation shown MaxBelowInitial status left rest before now =
    IsWordsOf below_initial status × Keeps left rest × Keeps before now
IsPerformed notation shown SettingsBesideImage status left rest before now =
    IsWordsOf beside_image status × Keeps left rest × Keeps before now
IsPerformed notation shown SnapshotsOfShards status left rest before now =
    IsWordsOf snapshots_of_shards status × Keeps left rest × Keeps before now

-- What a request led to whose input is a file, with what the file had left and has, and the reader: of `query`, `apply`
-- and `serve --image` the file is the image, and the reader has what follows; of all others the file is the whole.
abbrev pub IsPerformedOn : Notation → Bool → Request → Status → Option (List ℕ) → Option (List ℕ) → Option (List ℕ) →
    Option (List ℕ) → Option (List ℕ) → Option (List ℕ) → Type 0
IsPerformedOn notation shown Query status held kept left rest before now =
    IfSome held (λ image. IfSome left (λ text. Ends status (query_due_of notation image text) before now))
IsPerformedOn notation shown (Apply version) status held kept left rest before now =
    IfSome held
    (λ image. IfSome left (λ text. EndsApplyingTo notation (wanted_version version) image text status before now))
IsPerformedOn notation shown ServeImage status held kept left rest before now =
    IfSome held (λ image. IfSome left (λ lines. EndsServingOf notation shown image lines status rest before now))
IsPerformedOn notation shown request status held kept left rest before now =
    IsPerformed notation shown request status held kept before now × Keeps left rest

-- whether what a request reads behind an image is no part of the image's file
abbrev pub is_apart : Request → Bool
is_apart Query = true
is_apart (Apply image) = true
is_apart ServeImage = true
is_apart _ = false

-- whether what the words ask for is read so
abbrev pub IsWhetherApart : List Text → Bool → Type 0
IsWhetherApart words apart = (request : Request) × Answers words request × (apart ≡ is_apart request)

-- whether a request has an image written
abbrev pub is_image_written : Request → Bool
is_image_written (Build config image) = true
is_image_written (Load config image) = true
is_image_written Migrate = true
is_image_written (Apply image) = true
is_image_written _ = false

-- whether what the words ask for has an image written
abbrev pub IsWhetherImageAsked : List Text → Bool → Type 0
IsWhetherImageAsked words asked = (request : Request) × Answers words request × (asked ≡ is_image_written request)

-- how a run answers words that are not accepted: they are refused, for a reason in which no word brings a control byte,
-- and nothing was written; or they ask for help
abbrev pub IsTurnedAway : List Text → Status → Option (List ℕ) → Option (List ℕ) → Type 0
IsTurnedAway words (Words text) before now =
    IsRefused words × (has_no_control (string_bytes text) ≡ true) × Keeps before now
IsTurnedAway words Memory before now = Keeps before now
IsTurnedAway words Done before now = AsksForHelp words
IsTurnedAway words (Device Write) before now = AsksForHelp words
IsTurnedAway words _ before now = ⊥

-- What a run did with words: what they ask for, or memory ran out before that was known, with nothing read and nothing
-- written.
abbrev pub IsRun : Bool → List Text → Status → Option (List ℕ) → Option (List ℕ) → Option (List ℕ) →
    Option (List ℕ) → Type 0
IsRun shown words status left rest before now =
    ((request : Request) × Answers words request
    × ((notation : Notation) × IsNotationOf words notation
    × IsPerformed notation shown request status left rest before now))
    ⊎ ((status ≡ Memory) × Keeps left rest × Keeps before now)

-- what a run did with words and a file, as they name it; or memory ran out before that was known
abbrev pub IsRunOn : Bool → List Text → Status → Option (List ℕ) → Option (List ℕ) → Option (List ℕ) → Option (List ℕ) →
    Option (List ℕ) → Option (List ℕ) → Type 0
IsRunOn shown words status held kept left rest before now =
    ((request : Request) × Answers words request
    × ((notation : Notation) × IsNotationOf words notation
    × IsPerformedOn notation shown request status held kept left rest before now))
    ⊎ ((status ≡ Memory) × Keeps held kept × Keeps left rest × Keeps before now)

-- the run ended so, or it was done, also with a key absent, and what it left gathered could not be written
abbrev pub IsFlushedRun : Bool → List Text → Status → Option (List ℕ) → Option (List ℕ) → Option (List ℕ) →
    Option (List ℕ) → Type 0
IsFlushedRun shown words result left rest before now =
    (status : Status) × IsRun shown words status left rest before now
    × ((result ≡ status) ⊎ (WritesAll status × (result ≡ Device Write)))

-- the same of a run with a file
abbrev pub IsFlushedRunOn : Bool → List Text → Status → Option (List ℕ) → Option (List ℕ) → Option (List ℕ) →
    Option (List ℕ) → Option (List ℕ) → Option (List ℕ) → Type 0
IsFlushedRunOn shown words result held kept left rest before now =
    (status : Status) × IsRunOn shown words status held kept left rest before now
    × ((result ≡ status) ⊎ (WritesAll status × (result ≡ Device Write)))

-- ---- what follows of a run for words of each kind

-- how a run ends, by what the reader had left and what the writer held and holds
abbrev pub Ending : Type 1
Ending = List ℕ → Status → Option (List ℕ) → Option (List ℕ) → Type 0

-- a status where the replies to a script's calls are to be written
abbrev pub EndsCommands : Notation → Settings → Ending
EndsCommands notation settings input status before now = Ends status (commands_due notation settings input) before now

-- a status where this is to be written of an image
abbrev pub EndsTold : (List ℕ → Result (List ℕ) InputFault) → Ending
EndsTold due input status before now = Ends status (due input) before now

-- a run for words that ask for this subcommand and give settings in order ends by them, and by the notation
abbrev pub ServesFile : Text → (Notation → Settings → Ending) → Type 0
ServesFile name EndsWith =
    (shown : Bool) (words : List Text) (status : Status) (left rest before now : Option (List ℕ))
    (settings : Settings) →
    Asks words name → settings_given words ≡ Some settings → settings.initial ≤ settings.max →
    IsRun shown words status left rest before now →
    IfSome left (λ input. EndsWith (notation_given words) settings input status before now)

-- a run for words that ask for `serve` of an empty file, and give settings in order, ends by them
abbrev pub ServesClient : Type 0
ServesClient =
    (shown : Bool) (words : List Text) (status : Status) (left rest before now : Option (List ℕ))
    (settings : Settings) →
    Asks words (codes "serve") → image_begins words ≡ false → settings_given words ≡ Some settings →
    settings.initial ≤ settings.max → IsRun shown words status left rest before now →
    IfSome left (λ input.
    EndsServing (beginning (notation_given words) shown (first_file settings)) input status rest before now)

-- a run for words that ask for `serve` of the file of an image, and give no setting, ends so
abbrev pub ServesFrom : Type 0
ServesFrom =
    (shown : Bool) (words : List Text) (status : Status) (left rest before now : Option (List ℕ)) →
    Asks words (codes "serve") → image_begins words ≡ true → settings_typed words ≡ false →
    IsRun shown words status left rest before now →
    IfSome left (λ input. EndsServingFrom (notation_given words) shown input status rest before now)

-- a run for words that ask for this subcommand, which fills a file and has its image written, and give settings in
-- order and the number of a version, ends by them
abbrev pub ServesFilled : Text → (Notation → Version → Settings → Ending) → Type 0
ServesFilled name EndsWith =
    (shown : Bool) (words : List Text) (status : Status) (left rest before now : Option (List ℕ))
    (settings : Settings) (n : ℕ) →
    Asks words name → settings_given words ≡ Some settings → number_given words (codes "image") ≡ Some n →
    settings.initial ≤ settings.max → IsRun shown words status left rest before now →
    IfSome left (λ input.
    EndsWith (notation_given words) (wanted_version (version_numbered n)) settings input status before now)

-- a run for words that ask for `drive`, and give settings in order and the numbers of shards and of snapshots, where it
-- is one shard or no snapshot, ends by them
abbrev pub ServesDrive : Type 0
ServesDrive =
    (shown : Bool) (words : List Text) (status : Status) (left rest before now : Option (List ℕ)) (settings : Settings)
    (shards n : ℕ) →
    Asks words (codes "drive") → settings_given words ≡ Some settings →
    number_given words (codes "shards") ≡ Some shards →
    number_given words (codes "snapshots") ≡ Some n → (shards == 1 || n == 0) ≡ true → settings.initial ≤ settings.max →
    IsRun shown words status left rest before now →
    IfSome left (λ input.
    EndsDrivingIn (notation_given words) (shards == 1) settings shards n input status before now)

-- a run for words that ask for this subcommand, which reads an image, ends so
abbrev pub ServesImage : Text → (Notation → Ending) → Type 0
ServesImage name EndsWith =
    (shown : Bool) (words : List Text) (status : Status) (left rest before now : Option (List ℕ)) →
    Asks words name → IsRun shown words status left rest before now →
    IfSome left (λ input. EndsWith (notation_given words) input status before now)

-- a run for words that ask for `dump` ends by the format that they give
abbrev pub ServesDump : Type 0
ServesDump =
    (shown : Bool) (words : List Text) (status : Status) (left rest before now : Option (List ℕ)) →
    Asks words (codes "dump") → IsRun shown words status left rest before now →
    IfSome left (λ input. Ends status (dumped_due (notation_given words) (format_given words) input) before now)

-- a run for words that ask for `apply`, and give the number of a version, ends so
abbrev pub ServesApply : Type 0
ServesApply =
    (shown : Bool) (words : List Text) (status : Status) (left rest before now : Option (List ℕ)) (n : ℕ) →
    Asks words (codes "apply") → number_given words (codes "image") ≡ Some n →
    IsRun shown words status left rest before now →
    IfSome left (λ input.
    EndsApplying (notation_given words) (wanted_version (version_numbered n)) input status before now)

-- a run for words that ask for `get` ends by the words of their keys
abbrev pub ServesGet : Type 0
ServesGet =
    (shown : Bool) (words : List Text) (status : Status) (left rest before now : Option (List ℕ)) →
    Asks words (codes "get") → IsRun shown words status left rest before now →
    EndsGetting (notation_given words) (keys_given words) status left rest before now

-- a run for words that give settings out of order refuses them; those of `serve` with an image are refused, too, but
-- for another reason
abbrev pub RefusesBelow : Type 0
RefusesBelow =
    (shown : Bool) (words : List Text) (status : Status) (left rest before now : Option (List ℕ))
    (settings : Settings) →
    Accepts words → (Asks words (codes "serve") → image_begins words ≡ false) →
    settings_given words ≡ Some settings → settings.max < settings.initial →
    IsRun shown words status left rest before now → IsWordsOf below_initial status × Keeps left rest × Keeps before now

-- a run for words of `serve` that give a setting beside an image refuses them
abbrev pub RefusesBeside : Type 0
RefusesBeside =
    (shown : Bool) (words : List Text) (status : Status) (left rest before now : Option (List ℕ)) →
    Asks words (codes "serve") → image_begins words ≡ true → settings_typed words ≡ true →
    IsRun shown words status left rest before now → IsWordsOf beside_image status × Keeps left rest × Keeps before now

-- a run for words of `drive` that ask for snapshots of more shards than one, with settings in order, refuses them
abbrev pub RefusesSnapshots : Type 0
RefusesSnapshots =
    (shown : Bool) (words : List Text) (status : Status) (left rest before now : Option (List ℕ)) (settings : Settings)
    (threads shards n : ℕ) →
    Asks words (codes "drive") → settings_given words ≡ Some settings →
    number_given words (codes "threads") ≡ Some threads →
    number_given words (codes "shards") ≡ Some shards → number_given words (codes "snapshots") ≡ Some n →
    (shards == 1 || n == 0) ≡ false → settings.initial ≤ settings.max → IsRun shown words status left rest before now →
    IsWordsOf snapshots_of_shards status × Keeps left rest × Keeps before now

-- a run for words that are not accepted turns them away, and nothing is read
abbrev pub TurnsAway : Type 0
TurnsAway =
    (shown : Bool) (words : List Text) (status : Status) (left rest before now : Option (List ℕ)) →
    ¬ Accepts words → IsRun shown words status left rest before now →
    IsTurnedAway words status before now × Keeps left rest
