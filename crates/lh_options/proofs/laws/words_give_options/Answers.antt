-- Each example computes.
use Rattle.std.proofs.Common.{[], ◌∷◌, None, Some, ap, refl, inl, inr, codes, false, true}
use Rattle.std.proofs.lemmas.Bool.{false≢true}
use Rattle.clap.proofs.OnLiterals.{clap_on_literals}
use Rattle.clap.specs.Walk.{is_empty}
use Rattle.clap.specs.declared.error.kind.ErrorKind.TheVariants as kind
use Rattle.lh_options.specs.OptionLaws.{GivesApply, GivesBuild, GivesCommands, GivesDrive, GivesReplay, GivesServe}
use Rattle.lh_options.specs.OptionLaws.{GivesFiles, GivesGet, check_with_output, file_given, files_given, get_given}
use Rattle.lh_options.specs.OptionLaws.{get_with_setting, get_without_key, image_file_served}
use Rattle.lh_options.specs.OptionLaws.{output_given, stream_given, two_files}
use Rattle.lh_options.specs.OptionLaws.{GivesServeImage, GivesSteps, Refuses, apply_alone, apply_with_setting}
use Rattle.lh_options.specs.OptionLaws.{build_given, check_alone, check_with_option, commands_with_image, draw_alone}
use Rattle.lh_options.specs.OptionLaws.{drive_alone, drive_given, dump_alone, first_image_applied, first_image_given}
use Rattle.lh_options.specs.OptionLaws.{help_asked, image_served, image_served_twice, image_with_plus, initial_twice}
use Rattle.lh_options.specs.OptionLaws.{initial_zero, max_below_initial, max_beside_image, max_given, max_over_limit}
use Rattle.lh_options.specs.OptionLaws.{max_with_plus, migrate_alone, no_options, no_subcommand, program_version_asked}
use Rattle.lh_options.specs.OptionLaws.{query_alone, replay_given, shards_given, shards_over_limit, shards_with_plus}
use Rattle.lh_options.specs.OptionLaws.{shards_zero, snapshots_given, snapshots_of_two_shards, snapshots_over_limit}
use Rattle.lh_options.specs.OptionLaws.{snapshots_with_minus, steps_given, third_image, threads_over_limit}
use Rattle.lh_options.specs.OptionLaws.{threads_zero, unknown_option, serve_given}
use Rattle.lh_options.specs.OptionLaws.{GivesDump, GivesLoad, RefusesMax, check_with_format, dump_as_cdb, dump_as_csv}
use Rattle.lh_options.specs.OptionLaws.{dump_as_db, load_alone, load_files_given, load_given, load_max_below_initial}
use Rattle.lh_options.specs.OptionLaws.{GivesText, apply_of_text, build_of_text, check_of_text, commands_of_text}
use Rattle.lh_options.specs.OptionLaws.{drive_of_text, dump_of_text, get_of_text, load_of_text, query_of_text}
use Rattle.lh_options.specs.OptionLaws.{replay_of_text, serve_of_text, steps_of_text, text_as_a_key, text_twice}
use Rattle.lh_options.specs.OptionLaws.{text_with_value}
use Rattle.lh_options.specs.declared.dump_format.DumpFormat.TheVariants.{Cdb, Db, Lines}
use Rattle.lh_options.specs.declared.options.ImageVersion.TheVariants.{First, Second}
use Rattle.lh_options.specs.Options.{Accepts, Asks, AsksForHelp, asked_by, settings_given, subcommand_named}
use Rattle.lh_options.proofs.laws.words_give_options.Goals as goal

left_out : GivesCommands no_options (record { initial = 1; capacity = 14; load = 100; max = 65536 })
unfolding clap_on_literals Accepts settings_given subcommand_named
left_out = (((refl, refl, refl), refl), refl)

given : GivesCommands max_given (record { initial = 3; capacity = 14; load = 100; max = 7 })
unfolding clap_on_literals Accepts settings_given subcommand_named
given = (((refl, refl, refl), refl), refl)

below : GivesCommands max_below_initial (record { initial = 8; capacity = 14; load = 100; max = 7 })
unfolding clap_on_literals Accepts settings_given subcommand_named
below = (((refl, refl, refl), refl), refl)

steps : GivesSteps steps_given (record { initial = 1; capacity = 2; load = 200; max = 65536 })
unfolding clap_on_literals Accepts settings_given subcommand_named
steps = (((refl, refl, refl), refl), refl)

replay : GivesReplay replay_given (record { initial = 9; capacity = 14; load = 100; max = 9 })
unfolding clap_on_literals Accepts settings_given subcommand_named
replay = (((refl, refl, refl), refl), refl)

build : GivesBuild build_given (record { initial = 1; capacity = 14; load = 100; max = 1 }) Second
unfolding clap_on_literals Accepts settings_given subcommand_named
build = (((refl, refl, refl), refl), refl, refl)

first : GivesBuild first_image_given (record { initial = 1; capacity = 14; load = 100; max = 65536 }) First
unfolding clap_on_literals Accepts settings_given subcommand_named
first = (((refl, refl, refl), refl), refl, refl)

load : GivesLoad load_alone (record { initial = 1; capacity = 14; load = 100; max = 65536 }) Second
unfolding clap_on_literals Accepts settings_given subcommand_named
load = (((refl, refl, refl), refl), refl, refl)

load_settings : GivesLoad load_given (record { initial = 1; capacity = 2; load = 100; max = 9 }) First
unfolding clap_on_literals Accepts settings_given subcommand_named
load_settings = (((refl, refl, refl), refl), refl, refl)

load_below : RefusesMax load_max_below_initial
unfolding clap_on_literals Accepts asked_by settings_given subcommand_named
load_below = ((refl, refl, refl), refl)

migrate : Asks migrate_alone (codes "migrate")
unfolding clap_on_literals Accepts subcommand_named
migrate = ((refl, refl, refl), refl)

drive : GivesDrive drive_given (record { initial = 3; capacity = 14; load = 100; max = 65536 }) 64 1 0
unfolding clap_on_literals Accepts settings_given subcommand_named
drive = (((refl, refl, refl), refl), refl, refl, refl, refl)

drive_left_out : GivesDrive drive_alone (record { initial = 1; capacity = 14; load = 100; max = 65536 }) 4 1 0
unfolding clap_on_literals Accepts settings_given subcommand_named
drive_left_out = (((refl, refl, refl), refl), refl, refl, refl, refl)

shards : GivesDrive shards_given (record { initial = 1; capacity = 14; load = 100; max = 65536 }) 2 64 0
unfolding clap_on_literals Accepts settings_given subcommand_named
shards = (((refl, refl, refl), refl), refl, refl, refl, refl)

snapshots : GivesDrive snapshots_given (record { initial = 1; capacity = 14; load = 100; max = 65536 }) 4 1 1000
unfolding clap_on_literals Accepts settings_given subcommand_named
snapshots = (((refl, refl, refl), refl), refl, refl, refl, refl)

of_shards : GivesDrive snapshots_of_two_shards (record { initial = 1; capacity = 14; load = 100; max = 65536 }) 4 2 1
unfolding clap_on_literals Accepts settings_given subcommand_named
of_shards = (((refl, refl, refl), refl), refl, refl, refl, refl)

check : Asks check_alone (codes "check")
unfolding clap_on_literals Accepts subcommand_named
check = ((refl, refl, refl), refl)

dump : GivesDump dump_alone Lines
unfolding clap_on_literals Accepts subcommand_named
dump = (((refl, refl, refl), refl), refl)

dump_cdb : GivesDump dump_as_cdb Cdb
unfolding clap_on_literals Accepts subcommand_named
dump_cdb = (((refl, refl, refl), refl), refl)

dump_db : GivesDump dump_as_db Db
unfolding clap_on_literals Accepts subcommand_named
dump_db = (((refl, refl, refl), refl), refl)

no_csv : Refuses dump_as_csv
unfolding clap_on_literals Accepts
no_csv = λ e. false≢true e.2

no_format : Refuses check_with_format
unfolding clap_on_literals Accepts
no_format = λ e. false≢true (ap is_empty e.0)

draw : Asks draw_alone (codes "draw")
unfolding clap_on_literals Accepts subcommand_named
draw = ((refl, refl, refl), refl)

query : Asks query_alone (codes "query")
unfolding clap_on_literals Accepts subcommand_named
query = ((refl, refl, refl), refl)

apply : GivesApply apply_alone Second
unfolding clap_on_literals Accepts subcommand_named
apply = (((refl, refl, refl), refl), refl)

first_applied : GivesApply first_image_applied First
unfolding clap_on_literals Accepts subcommand_named
first_applied = (((refl, refl, refl), refl), refl)

get : GivesGet get_given (Some (codes "users.lhf")) (codes "616461" ∷ codes "626f62" ∷ [])
unfolding clap_on_literals Accepts subcommand_named
get = (((refl, refl, refl), refl), refl, refl)

without_key : Refuses get_without_key
unfolding clap_on_literals Accepts
without_key = λ e. false≢true (ap is_empty e.0)

get_without_settings : Refuses get_with_setting
unfolding clap_on_literals Accepts
get_without_settings = λ e. false≢true (ap is_empty e.0)

serve : GivesServe serve_given (record { initial = 2; capacity = 1; load = 100; max = 65536 })
unfolding clap_on_literals Accepts settings_given subcommand_named
serve = (((refl, refl, refl), refl), refl, refl)

serve_image : GivesServeImage image_served false
unfolding clap_on_literals Accepts subcommand_named
serve_image = (((refl, refl, refl), refl), refl, refl)

beside_image : GivesServeImage max_beside_image true
unfolding clap_on_literals Accepts subcommand_named
beside_image = (((refl, refl, refl), refl), refl, refl)

without_settings : Refuses apply_with_setting
unfolding clap_on_literals Accepts
without_settings = λ e. false≢true (ap is_empty e.0)

without_options : Refuses check_with_option
unfolding clap_on_literals Accepts
without_options = λ e. false≢true (ap is_empty e.0)

none : Refuses no_subcommand
unfolding clap_on_literals Accepts
none = λ e. false≢true (ap is_empty e.0)

too_small : Refuses initial_zero
unfolding clap_on_literals Accepts
too_small = λ e. false≢true (ap is_empty e.0)

no_thread : Refuses threads_zero
unfolding clap_on_literals Accepts
no_thread = λ e. false≢true (ap is_empty e.0)

too_many_threads : Refuses threads_over_limit
unfolding clap_on_literals Accepts
too_many_threads = λ e. false≢true (ap is_empty e.0)

no_shard : Refuses shards_zero
unfolding clap_on_literals Accepts
no_shard = λ e. false≢true (ap is_empty e.0)

too_many_shards : Refuses shards_over_limit
unfolding clap_on_literals Accepts
too_many_shards = λ e. false≢true (ap is_empty e.0)

too_many_snapshots : Refuses snapshots_over_limit
unfolding clap_on_literals Accepts
too_many_snapshots = λ e. false≢true (ap is_empty e.0)

too_great : Refuses max_over_limit
unfolding clap_on_literals Accepts
too_great = λ e. false≢true (ap is_empty e.0)

no_third : Refuses third_image
unfolding clap_on_literals Accepts
no_third = λ e. false≢true (ap is_empty e.0)

no_plus : Refuses max_with_plus
unfolding clap_on_literals Accepts
no_plus = λ e. false≢true e.1

no_plus_of_shards : Refuses shards_with_plus
unfolding clap_on_literals Accepts
no_plus_of_shards = λ e. false≢true e.1

no_minus : Refuses snapshots_with_minus
unfolding clap_on_literals Accepts
no_minus = λ e. false≢true e.1

no_plus_of_image : Refuses image_with_plus
unfolding clap_on_literals Accepts
no_plus_of_image = λ e. false≢true e.1

twice : Refuses initial_twice
unfolding clap_on_literals Accepts
twice = λ e. false≢true (ap is_empty e.0)

image_twice : Refuses image_served_twice
unfolding clap_on_literals Accepts
image_twice = λ e. false≢true (ap is_empty e.0)

no_image : Refuses commands_with_image
unfolding clap_on_literals Accepts
no_image = λ e. false≢true (ap is_empty e.0)

unknown : Refuses unknown_option
unfolding clap_on_literals Accepts
unknown = λ e. false≢true (ap is_empty e.0)

file : GivesFiles file_given (Some (codes "users.lhf")) None
unfolding clap_on_literals Accepts
file = ((refl, refl, refl), refl, refl)

stream : GivesFiles stream_given None None
unfolding clap_on_literals Accepts
stream = ((refl, refl, refl), refl, refl)

files : GivesFiles files_given (Some (codes "old.lhf")) (Some (codes "new.lhf"))
unfolding clap_on_literals Accepts
files = ((refl, refl, refl), refl, refl)

load_files : GivesFiles load_files_given (Some (codes "in.cdb")) (Some (codes "out.lhf"))
unfolding clap_on_literals Accepts
load_files = ((refl, refl, refl), refl, refl)

output : GivesFiles output_given None (Some (codes "new.lhf"))
unfolding clap_on_literals Accepts
output = ((refl, refl, refl), refl, refl)

image_file : GivesFiles image_file_served (Some (codes "users.lhf")) None
unfolding clap_on_literals Accepts
image_file = ((refl, refl, refl), refl, refl)

image_and_file : GivesServeImage image_file_served false
unfolding clap_on_literals Accepts subcommand_named
image_and_file = (((refl, refl, refl), refl), refl, refl)

second_file : Refuses two_files
unfolding clap_on_literals Accepts
second_file = λ e. false≢true (ap is_empty e.0)

no_output : Refuses check_with_output
unfolding clap_on_literals Accepts
no_output = λ e. false≢true (ap is_empty e.0)

commands_text : GivesText commands_of_text true
unfolding clap_on_literals Accepts
commands_text = ((refl, refl, refl), refl)

steps_text : GivesText steps_of_text true
unfolding clap_on_literals Accepts
steps_text = ((refl, refl, refl), refl)

drive_text : GivesText drive_of_text true
unfolding clap_on_literals Accepts
drive_text = ((refl, refl, refl), refl)

build_text : GivesText build_of_text true
unfolding clap_on_literals Accepts
build_text = ((refl, refl, refl), refl)

query_text : GivesText query_of_text true
unfolding clap_on_literals Accepts
query_text = ((refl, refl, refl), refl)

apply_text : GivesText apply_of_text true
unfolding clap_on_literals Accepts
apply_text = ((refl, refl, refl), refl)

serve_text : GivesText serve_of_text true
unfolding clap_on_literals Accepts
serve_text = ((refl, refl, refl), refl)

dump_text : GivesText dump_of_text true
unfolding clap_on_literals Accepts
dump_text = ((refl, refl, refl), refl)

get_text : GivesText get_of_text true
unfolding clap_on_literals Accepts
get_text = ((refl, refl, refl), refl)

text_left_out : GivesText no_options false
unfolding clap_on_literals Accepts
text_left_out = ((refl, refl, refl), refl)

text_is_a_key : GivesText text_as_a_key false
unfolding clap_on_literals Accepts
text_is_a_key = ((refl, refl, refl), refl)

no_text_of_replay : Refuses replay_of_text
unfolding clap_on_literals Accepts
no_text_of_replay = λ e. false≢true (ap is_empty e.0)

no_text_of_load : Refuses load_of_text
unfolding clap_on_literals Accepts
no_text_of_load = λ e. false≢true (ap is_empty e.0)

no_text_of_check : Refuses check_of_text
unfolding clap_on_literals Accepts
no_text_of_check = λ e. false≢true (ap is_empty e.0)

no_second_text : Refuses text_twice
unfolding clap_on_literals Accepts
no_second_text = λ e. false≢true (ap is_empty e.0)

no_value_of_text : Refuses text_with_value
unfolding clap_on_literals Accepts
no_value_of_text = λ e. false≢true (ap is_empty e.0)

help : AsksForHelp help_asked
unfolding clap_on_literals AsksForHelp
help = (kind.DisplayHelp, inl refl, inl refl)

version : AsksForHelp program_version_asked
unfolding clap_on_literals AsksForHelp
version = (kind.DisplayVersion, inl refl, inr refl)

pub returns : goal.returns
returns c = record {
  left_out = left_out;
  given = given;
  below = below;
  steps = steps;
  replay = replay;
  build = build;
  first = first;
  load = load;
  load_settings = load_settings;
  load_below = load_below;
  migrate = migrate;
  drive = drive;
  drive_left_out = drive_left_out;
  shards = shards;
  snapshots = snapshots;
  of_shards = of_shards;
  check = check;
  dump = dump;
  dump_cdb = dump_cdb;
  dump_db = dump_db;
  no_csv = no_csv;
  no_format = no_format;
  draw = draw;
  query = query;
  apply = apply;
  first_applied = first_applied;
  get = get;
  without_key = without_key;
  get_without_settings = get_without_settings;
  serve = serve;
  serve_image = serve_image;
  beside_image = beside_image;
  without_options = without_options;
  without_settings = without_settings;
  none = none;
  too_small = too_small;
  no_thread = no_thread;
  too_many_threads = too_many_threads;
  no_shard = no_shard;
  too_many_shards = too_many_shards;
  too_many_snapshots = too_many_snapshots;
  too_great = too_great;
  no_third = no_third;
  no_plus = no_plus;
  no_plus_of_shards = no_plus_of_shards;
  no_minus = no_minus;
  no_plus_of_image = no_plus_of_image;
  twice = twice;
  image_twice = image_twice;
  no_image = no_image;
  unknown = unknown;
  file = file;
  stream = stream;
  files = files;
  load_files = load_files;
  output = output;
  image_file = image_file;
  image_and_file = image_and_file;
  second_file = second_file;
  no_output = no_output;
  commands_text = commands_text;
  steps_text = steps_text;
  drive_text = drive_text;
  build_text = build_text;
  query_text = query_text;
  apply_text = apply_text;
  serve_text = serve_text;
  dump_text = dump_text;
  get_text = get_text;
  text_left_out = text_left_out;
  text_is_a_key = text_is_a_key;
  no_text_of_replay = no_text_of_replay;
  no_text_of_load = no_text_of_load;
  no_text_of_check = no_text_of_check;
  no_second_text = no_second_text;
  no_value_of_text = no_value_of_text;
  help = help;
  version = version;
}
