-- Words that are written out, and what they give
use Rattle.std.specs.Prelude.{◌≡◌, ℕ, Bool, true, false, List, [], ◌∷◌, Option, Some, codes, option_map}
use Rattle.clap.specs.Walk.{Text}
use Rattle.lh_addr.specs.Settings.{Settings}
use Rattle.lh_options.specs.declared.dump_format.DumpFormat.{DumpFormat}
use Rattle.lh_options.specs.declared.options.ImageVersion.{ImageVersion}
use Rattle.lh_options.specs.declared.options.Request.TheVariants as request
use Rattle.lh_options.specs.Options.{Accepts, Asks, asked_for, file_named, format_given, image_begins, keys_given}
use Rattle.lh_options.specs.Options.{number_given, settings_given, settings_typed, text_asked, text_given}
use Rattle.lh_options.specs.Options.{version_numbered}

abbrev pub no_options : List Text
no_options = codes "lhash" ∷ codes "commands" ∷ []

abbrev pub max_given : List Text
max_given = codes "lhash" ∷ codes "commands" ∷ codes "--initial" ∷ codes "3" ∷ codes "--max=7" ∷ []

abbrev pub steps_given : List Text
steps_given = codes "lhash" ∷ codes "steps" ∷ codes "--capacity=2" ∷ codes "--load" ∷ codes "200" ∷ []

abbrev pub replay_given : List Text
replay_given = codes "lhash" ∷ codes "replay" ∷ codes "--max=9" ∷ codes "--initial=9" ∷ []

abbrev pub serve_given : List Text
serve_given = codes "lhash" ∷ codes "serve" ∷ codes "--initial=2" ∷ codes "--capacity" ∷ codes "1" ∷ []

abbrev pub image_served : List Text
image_served = codes "lhash" ∷ codes "serve" ∷ codes "--image" ∷ []

abbrev pub max_beside_image : List Text
max_beside_image = codes "lhash" ∷ codes "serve" ∷ codes "--image" ∷ codes "--max" ∷ codes "7" ∷ []

abbrev pub image_served_twice : List Text
image_served_twice = codes "lhash" ∷ codes "serve" ∷ codes "--image" ∷ codes "--image" ∷ []

abbrev pub commands_with_image : List Text
commands_with_image = codes "lhash" ∷ codes "commands" ∷ codes "--image" ∷ []

abbrev pub no_subcommand : List Text
no_subcommand = codes "lhash" ∷ []

abbrev pub initial_zero : List Text
initial_zero = codes "lhash" ∷ codes "commands" ∷ codes "--initial" ∷ codes "0" ∷ []

abbrev pub max_over_limit : List Text
max_over_limit = codes "lhash" ∷ codes "commands" ∷ codes "--max=65537" ∷ []

abbrev pub max_below_initial : List Text
max_below_initial = codes "lhash" ∷ codes "commands" ∷ codes "--max" ∷ codes "7" ∷ codes "--initial" ∷ codes "8" ∷ []

abbrev pub max_with_plus : List Text
max_with_plus = codes "lhash" ∷ codes "commands" ∷ codes "--max" ∷ codes "+7" ∷ []

abbrev pub snapshots_with_minus : List Text
snapshots_with_minus = codes "lhash" ∷ codes "drive" ∷ codes "--snapshots=-0" ∷ []

abbrev pub image_with_plus : List Text
image_with_plus = codes "lhash" ∷ codes "build" ∷ codes "--image=+1" ∷ []

abbrev pub initial_twice : List Text
initial_twice = codes "lhash" ∷ codes "commands" ∷ codes "--initial=3" ∷ codes "--initial=3" ∷ []

abbrev pub unknown_option : List Text
unknown_option = codes "lhash" ∷ codes "commands" ∷ codes "--threads" ∷ codes "3" ∷ []

abbrev pub help_asked : List Text
help_asked = codes "lhash" ∷ codes "commands" ∷ codes "--help" ∷ []

abbrev pub program_version_asked : List Text
program_version_asked = codes "lhash" ∷ codes "--version" ∷ []

abbrev pub build_given : List Text
build_given = codes "lhash" ∷ codes "build" ∷ codes "--max" ∷ codes "1" ∷ []

abbrev pub first_image_given : List Text
first_image_given = codes "lhash" ∷ codes "build" ∷ codes "--image=1" ∷ []

abbrev pub third_image : List Text
third_image = codes "lhash" ∷ codes "build" ∷ codes "--image" ∷ codes "3" ∷ []

abbrev pub load_alone : List Text
load_alone = codes "lhash" ∷ codes "load" ∷ []

abbrev pub load_given : List Text
load_given = codes "lhash" ∷ codes "load" ∷ codes "--capacity=2" ∷ codes "--max" ∷ codes "9" ∷ codes "--image" ∷
    codes "1" ∷ []

abbrev pub load_max_below_initial : List Text
load_max_below_initial = codes "lhash" ∷ codes "load" ∷ codes "--initial=8" ∷ codes "--max=7" ∷ []

abbrev pub migrate_alone : List Text
migrate_alone = codes "lhash" ∷ codes "migrate" ∷ []

abbrev pub query_alone : List Text
query_alone = codes "lhash" ∷ codes "query" ∷ []

abbrev pub apply_alone : List Text
apply_alone = codes "lhash" ∷ codes "apply" ∷ []

abbrev pub first_image_applied : List Text
first_image_applied = codes "lhash" ∷ codes "apply" ∷ codes "--image" ∷ codes "1" ∷ []

abbrev pub apply_with_setting : List Text
apply_with_setting = codes "lhash" ∷ codes "apply" ∷ codes "--max" ∷ codes "1" ∷ []

abbrev pub get_given : List Text
get_given = codes "lhash" ∷ codes "get" ∷ codes "users.lhf" ∷ codes "616461" ∷ codes "626f62" ∷ []

abbrev pub get_without_key : List Text
get_without_key = codes "lhash" ∷ codes "get" ∷ codes "users.lhf" ∷ []

abbrev pub get_with_setting : List Text
get_with_setting = codes "lhash" ∷ codes "get" ∷ codes "--max=1" ∷ codes "users.lhf" ∷ codes "616461" ∷ []

abbrev pub check_alone : List Text
check_alone = codes "lhash" ∷ codes "check" ∷ []

abbrev pub dump_alone : List Text
dump_alone = codes "lhash" ∷ codes "dump" ∷ []

abbrev pub dump_as_cdb : List Text
dump_as_cdb = codes "lhash" ∷ codes "dump" ∷ codes "--format" ∷ codes "cdb" ∷ []

abbrev pub dump_as_db : List Text
dump_as_db = codes "lhash" ∷ codes "dump" ∷ codes "--format=db" ∷ []

abbrev pub dump_as_csv : List Text
dump_as_csv = codes "lhash" ∷ codes "dump" ∷ codes "--format" ∷ codes "csv" ∷ []

abbrev pub check_with_format : List Text
check_with_format = codes "lhash" ∷ codes "check" ∷ codes "--format" ∷ codes "cdb" ∷ []

abbrev pub draw_alone : List Text
draw_alone = codes "lhash" ∷ codes "draw" ∷ []

abbrev pub check_with_option : List Text
check_with_option = codes "lhash" ∷ codes "check" ∷ codes "--max" ∷ codes "1" ∷ []

abbrev pub drive_alone : List Text
drive_alone = codes "lhash" ∷ codes "drive" ∷ []

abbrev pub drive_given : List Text
drive_given = codes "lhash" ∷ codes "drive" ∷ codes "--threads" ∷ codes "64" ∷ codes "--initial=3" ∷ []

abbrev pub threads_zero : List Text
threads_zero = codes "lhash" ∷ codes "drive" ∷ codes "--threads=0" ∷ []

abbrev pub threads_over_limit : List Text
threads_over_limit = codes "lhash" ∷ codes "drive" ∷ codes "--threads" ∷ codes "65" ∷ []

abbrev pub shards_given : List Text
shards_given = codes "lhash" ∷ codes "drive" ∷ codes "--shards" ∷ codes "64" ∷ codes "--threads=2" ∷ []

abbrev pub shards_zero : List Text
shards_zero = codes "lhash" ∷ codes "drive" ∷ codes "--shards=0" ∷ []

abbrev pub shards_over_limit : List Text
shards_over_limit = codes "lhash" ∷ codes "drive" ∷ codes "--shards" ∷ codes "65" ∷ []

abbrev pub shards_with_plus : List Text
shards_with_plus = codes "lhash" ∷ codes "drive" ∷ codes "--shards=+2" ∷ []

abbrev pub snapshots_of_two_shards : List Text
snapshots_of_two_shards = codes "lhash" ∷ codes "drive" ∷ codes "--snapshots=1" ∷ codes "--shards=2" ∷ []

abbrev pub snapshots_given : List Text
snapshots_given = codes "lhash" ∷ codes "drive" ∷ codes "--snapshots" ∷ codes "1000" ∷ []

abbrev pub snapshots_over_limit : List Text
snapshots_over_limit = codes "lhash" ∷ codes "drive" ∷ codes "--snapshots=1001" ∷ []

abbrev pub file_given : List Text
file_given = codes "lhash" ∷ codes "check" ∷ codes "users.lhf" ∷ []

abbrev pub stream_given : List Text
stream_given = codes "lhash" ∷ codes "check" ∷ codes "-" ∷ []

abbrev pub files_given : List Text
files_given = codes "lhash" ∷ codes "apply" ∷ codes "old.lhf" ∷ codes "-o" ∷ codes "new.lhf" ∷ []

abbrev pub load_files_given : List Text
load_files_given = codes "lhash" ∷ codes "load" ∷ codes "in.cdb" ∷ codes "-o" ∷ codes "out.lhf" ∷ []

abbrev pub output_given : List Text
output_given = codes "lhash" ∷ codes "build" ∷ codes "--output=new.lhf" ∷ []

abbrev pub image_file_served : List Text
image_file_served = codes "lhash" ∷ codes "serve" ∷ codes "--image" ∷ codes "users.lhf" ∷ []

abbrev pub two_files : List Text
two_files = codes "lhash" ∷ codes "check" ∷ codes "a.lhf" ∷ codes "b.lhf" ∷ []

abbrev pub check_with_output : List Text
check_with_output = codes "lhash" ∷ codes "check" ∷ codes "-o" ∷ codes "a.txt" ∷ []

abbrev pub commands_of_text : List Text
commands_of_text = codes "lhash" ∷ codes "commands" ∷ codes "--text" ∷ codes "script.txt" ∷ []

abbrev pub steps_of_text : List Text
steps_of_text = codes "lhash" ∷ codes "steps" ∷ codes "--text" ∷ []

abbrev pub drive_of_text : List Text
drive_of_text = codes "lhash" ∷ codes "drive" ∷ codes "--threads=2" ∷ codes "--text" ∷ []

abbrev pub build_of_text : List Text
build_of_text = codes "lhash" ∷ codes "build" ∷ codes "--text" ∷ codes "-o" ∷ codes "new.lhf" ∷ []

abbrev pub query_of_text : List Text
query_of_text = codes "lhash" ∷ codes "query" ∷ codes "users.lhf" ∷ codes "--text" ∷ []

abbrev pub apply_of_text : List Text
apply_of_text = codes "lhash" ∷ codes "apply" ∷ codes "--image=1" ∷ codes "--text" ∷ []

abbrev pub serve_of_text : List Text
serve_of_text = codes "lhash" ∷ codes "serve" ∷ codes "--text" ∷ codes "--image" ∷ []

abbrev pub dump_of_text : List Text
dump_of_text = codes "lhash" ∷ codes "dump" ∷ codes "--text" ∷ []

abbrev pub get_of_text : List Text
get_of_text = codes "lhash" ∷ codes "get" ∷ codes "users.lhf" ∷ codes "ada" ∷ codes "--text" ∷ codes "bob" ∷ []

abbrev pub text_as_a_key : List Text
text_as_a_key = codes "lhash" ∷ codes "get" ∷ codes "users.lhf" ∷ codes "--" ∷ codes "--text" ∷ []

abbrev pub replay_of_text : List Text
replay_of_text = codes "lhash" ∷ codes "replay" ∷ codes "--text" ∷ []

abbrev pub load_of_text : List Text
load_of_text = codes "lhash" ∷ codes "load" ∷ codes "--text" ∷ []

abbrev pub check_of_text : List Text
check_of_text = codes "lhash" ∷ codes "check" ∷ codes "--text" ∷ []

abbrev pub text_twice : List Text
text_twice = codes "lhash" ∷ codes "commands" ∷ codes "--text" ∷ codes "--text" ∷ []

abbrev pub text_with_value : List Text
text_with_value = codes "lhash" ∷ codes "commands" ∷ codes "--text=yes" ∷ []

-- the words are accepted, and this is whether they ask for keys and values as text
abbrev pub GivesText : List Text → Bool → Type 0
GivesText words text = Accepts words × (text_asked words ≡ text)

-- the words are accepted, and name these files, to be read and to be written
abbrev pub GivesFiles : List Text → Option Text → Option Text → Type 0
GivesFiles words input output =
    Accepts words × (file_named (text_given words (codes "file")) ≡ input)
    × (file_named (text_given words (codes "output")) ≡ output)

-- the words are accepted, name `commands`, and give these settings
abbrev pub GivesCommands : List Text → Settings → Type 0
GivesCommands words s = Asks words (codes "commands") × (settings_given words ≡ Some s)

-- the words are accepted, name `steps`, and give these settings
abbrev pub GivesSteps : List Text → Settings → Type 0
GivesSteps words s = Asks words (codes "steps") × (settings_given words ≡ Some s)

-- the words are accepted, name `replay`, and give these settings
abbrev pub GivesReplay : List Text → Settings → Type 0
GivesReplay words s = Asks words (codes "replay") × (settings_given words ≡ Some s)

-- the words are accepted, name `serve`, and give these settings, and no image that the input begins with
abbrev pub GivesServe : List Text → Settings → Type 0
GivesServe words s = Asks words (codes "serve") × (settings_given words ≡ Some s) × (image_begins words ≡ false)

-- the words are accepted, name `serve`, and say that the input begins with an image; and whether they give a setting
abbrev pub GivesServeImage : List Text → Bool → Type 0
GivesServeImage words typed =
    Asks words (codes "serve") × (image_begins words ≡ true) × (settings_typed words ≡ typed)

-- the words are accepted, name `build`, and give these settings and this version of the image
abbrev pub GivesBuild : List Text → Settings → ImageVersion → Type 0
GivesBuild words s version =
    Asks words (codes "build") × (settings_given words ≡ Some s)
    × (option_map version_numbered (number_given words (codes "image")) ≡ Some version)

-- the words are accepted, name `load`, and give these settings and this version of the image
abbrev pub GivesLoad : List Text → Settings → ImageVersion → Type 0
GivesLoad words s version =
    Asks words (codes "load") × (settings_given words ≡ Some s)
    × (option_map version_numbered (number_given words (codes "image")) ≡ Some version)

-- the words are accepted, name `dump`, and give this format
abbrev pub GivesDump : List Text → DumpFormat → Type 0
GivesDump words format = Asks words (codes "dump") × (format_given words ≡ format)

-- the words are accepted, and refused for a greatest number of buckets that is less than the initial one
abbrev pub RefusesMax : List Text → Type 0
RefusesMax words = Accepts words × (asked_for words ≡ Some request.MaxBelowInitial)

-- the words are accepted, name `apply`, and give this version of the image
abbrev pub GivesApply : List Text → ImageVersion → Type 0
GivesApply words version =
    Asks words (codes "apply") × (option_map version_numbered (number_given words (codes "image")) ≡ Some version)

-- the words are accepted, name `get`, and give this file and these words of keys
abbrev pub GivesGet : List Text → Option Text → List Text → Type 0
GivesGet words input keys =
    Asks words (codes "get") × (file_named (text_given words (codes "file")) ≡ input) × (keys_given words ≡ keys)

-- the words are accepted, name `drive`, and give these settings and numbers of threads, of shards and of snapshots
abbrev pub GivesDrive : List Text → Settings → ℕ → ℕ → ℕ → Type 0
GivesDrive words s threads shards snapshots =
    Asks words (codes "drive") × (settings_given words ≡ Some s)
    × (number_given words (codes "threads") ≡ Some threads) × (number_given words (codes "shards") ≡ Some shards)
    × (number_given words (codes "snapshots") ≡ Some snapshots)

-- the words are not accepted
abbrev pub Refuses : List Text → Type 0
Refuses words = ¬ Accepts words
