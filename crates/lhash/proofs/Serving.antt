-- What follows of a run for the words of each kind
use Rattle.std.proofs.Common.{◌≡◌, ◌==◌, ◌||◌, ◌∙◌, ℕ, Bool, true, false, cond, ◌<◌, ◌≤◌, List, Option, None, Some}
use Rattle.std.proofs.Common.{IfSome, inl, inr, refl, sym, ap, subst, codes}
use Rattle.std.specs.Prelude.{option_and_then, option_map, Result, Ok, Err}
use Rattle.std.specs.Io.KnownBytes.{Keeps}
use Rattle.lh_addr.specs.Settings.{Settings}
use Rattle.lh_bucket.specs.declared.call.Call.{Call}
use Rattle.lh_bucket.specs.Listing.{Lists}
use Rattle.lh_image.specs.declared.fault.ImageFault.{ImageFault}
use Rattle.lh_image.specs.declared.version.Version.{Version}
use Rattle.lh_image.specs.Reading.{following, leading, reading_of}
use Rattle.lh_options.specs.Options.{Accepts, Asks, Text, asked_by, asked_for, format_given, image_begins, keys_given}
use Rattle.lh_options.specs.Options.{number_given, settings_given, settings_typed, subcommand_named, texts_given}
use Rattle.lh_options.specs.Options.{version_numbered}
use Rattle.lh_options.specs.AskingLaws.{apply, asked_named, build, commands, drive, get, load, refused_alone}
use Rattle.lh_options.specs.AskingLaws.{refuses_setting, replay, serves_file, serves_image, steps, unapplied, undriven}
use Rattle.lh_options.specs.declared.options.ImageVersion.{ImageVersion}
use Rattle.lh_options.specs.declared.options.Request.{Request}
use Rattle.lh_options.specs.declared.options.Request.TheVariants as request
use Rattle.lh_script.specs.declared.fault.ScriptFault.{ScriptFault}
use Rattle.lh_script.specs.declared.notation.Notation.{Notation}
use Rattle.lhash.specs.Driving.{EndsThreaded}
use Rattle.lh_subcommands.specs.Continued.{EndsApplying, EndsLeaving, query_due, script_behind}
use Rattle.lh_subcommands.specs.Get.{EndsFound, EndsGetting, EndsGettingOf, IsRefusedFor, found_of, keys_of}
use Rattle.lh_subcommands.specs.Images.{EndsBuilding, check_due, draw_due, migrate_due}
use Rattle.lh_subcommands.specs.Loading.{EndsLoading}
use Rattle.lh_subcommands.specs.Run.{EndsReplay, EndsSteps}
use Rattle.lh_serving.specs.Answers.{first_file}
use Rattle.lh_serving.specs.Conversations.{Beginning, beginning}
use Rattle.lh_subcommands.specs.Serve.{EndsGoingOn, EndsServing, EndsServingFrom}
use Rattle.lhash.specs.Serving.{Ending, EndsCommands, EndsDrivingIn, EndsTold, IsRun, IsWordsOf}
use Rattle.lhash.specs.Serving.{RefusesBelow, RefusesBeside, RefusesSnapshots, IsPerformed, IsPerformedOn}
use Rattle.lhash.specs.Serving.{ServesApply, ServesClient, ServesDrive, ServesDump, ServesFile, ServesFilled}
use Rattle.lhash.specs.Serving.{ServesFrom, ServesGet}
use Rattle.lhash.specs.Serving.{ServesImage, below_initial, beside_image, dumped_due, snapshots_of_shards}
use Rattle.lhash.specs.Serving.{IsNotationOf, notation_by, notation_given, wanted_version}
use Rattle.lh_subcommands.specs.declared.status.Status.{Status}
use Rattle.lh_subcommands.specs.declared.status.Status.TheVariants.{Memory}

-- a request is served as what it is
pub served_as : (k : Notation) (t : Bool) {r asked : Request} → r ≡ asked → (status : Status)
    (left rest before now : Option (List ℕ)) →
    IsPerformed k t asked status left rest before now → IsPerformed k t r status left rest before now
served_as k t is status left rest before now =
    subst (λ (r : Request). IsPerformed k t r status left rest before now) (sym is)

-- a request that is none of `query`, `apply` and `serve --image` is performed on its file as on a whole input, where
-- the reader keeps what it had
pub performed_on_whole : (k : Notation) (t : Bool) (r : Request) → ¬ (r ≡ request.Query) →
    ((version : ImageVersion) → ¬ (r ≡ request.Apply version)) → ¬ (r ≡ request.ServeImage) → (status : Status)
    (held kept left rest before now : Option (List ℕ)) →
    IsPerformed k t r status held kept before now → Keeps left rest →
    IsPerformedOn k t r status held kept left rest before now
performed_on_whole k t request.Query query apply image status held kept left rest before now performed keeps =
    absurd (query refl)
performed_on_whole k t (request.Apply version) query apply image status held kept left rest before now performed keeps =
    absurd (apply version refl)
performed_on_whole k t request.ServeImage query apply image status held kept left rest before now performed keeps =
    absurd (image refl)
performed_on_whole k t r query apply image status held kept left rest before now performed keeps = (performed, keeps)

-- a run for accepted words is one in the notation that they give
abbrev IsPerformedBy : Bool → List Text → Request → Status → Option (List ℕ) → Option (List ℕ) → Option (List ℕ) →
    Option (List ℕ) → Type 0
IsPerformedBy t words r status left rest before now =
    (k : Notation) × IsNotationOf words k × IsPerformed k t r status left rest before now

in_notation : (t : Bool) (words : List Text) (r : Request) (status : Status) (left rest before now : Option (List ℕ)) →
    Accepts words → IsPerformedBy t words r status left rest before now →
    IsPerformed (notation_given words) t r status left rest before now
in_notation t words r status left rest before now accepts run =
    subst (λ (k : Notation). IsPerformed k t r status left rest before now)
    (run.1.2 ∙ ap notation_by (run.1.1.accepted accepts)) run.2

-- what ended out of memory, with nothing written, ended in a way that allows it
unwritten : (EndsWith : Ending) (status : Status) (left before now : Option (List ℕ)) →
    ((input : List ℕ) → Keeps before now → EndsWith input Memory before now) → status ≡ Memory → Keeps before now →
    IfSome left (λ input. EndsWith input status before now)
unwritten EndsWith status None before now allows is keeps = tt
unwritten EndsWith status (Some input) before now allows is keeps =
    subst (λ (s : Status). EndsWith input s before now) (sym is) (allows input keeps)

-- accepted words with settings out of order are refused for them
below_asked : (words : List Text) (name : Option Text) → subcommand_named words ≡ name →
    (subcommand_named words ≡ Some (codes "serve") → image_begins words ≡ false) → (settings : Settings) →
    settings_given words ≡ Some settings →
    settings.max < settings.initial → (r : Request) → asked_for words ≡ Some r → r ≡ request.MaxBelowInitial
below_asked words None named none settings given below r is =
    let empty : asked_for words ≡ None =
    ap
    (option_and_then
    (λ n. asked_by n (settings_given words) (number_given words) (image_begins words) (settings_typed words)
    (texts_given words)))
    named in
    absurd cc
below_asked words (Some name) named none settings given below r is =
    let one : asked_for words ≡
    asked_by name (settings_given words) (number_given words) (image_begins words) (settings_typed words)
    (texts_given words) =
    ap
    (option_and_then
    (λ n. asked_by n (settings_given words) (number_given words) (image_begins words) (settings_typed words)
    (texts_given words)))
    named in
    let by : asked_by name (settings_given words) (number_given words) (image_begins words) (settings_typed words)
    (texts_given words) ≡
    asked_by name (Some settings) (number_given words) (image_begins words) (settings_typed words) (texts_given words) =
    ap (λ s. asked_by name s (number_given words) (image_begins words) (settings_typed words)
    (texts_given words)) given in
    refused_alone name (number_given words) (image_begins words) (settings_typed words)
    (texts_given words) settings r below
    (λ n. none (named ∙ ap (λ x. Some x) n)) (sym (one ∙ by) ∙ is)

-- a run for words that ask for one thing served it, or ran out of memory
served : (t : Bool) (words : List Text) (status : Status) (left rest before now : Option (List ℕ)) (name : Text)
    (r : Request) (EndsWith : Ending) →
    (IsPerformed (notation_given words) t r status left rest before now →
    IfSome left (λ input. EndsWith input status before now)) →
    ((input : List ℕ) → Keeps before now → EndsWith input Memory before now) →
    Asks words name →
    asked_by name (settings_given words) (number_given words) (image_begins words) (settings_typed words)
    (texts_given words) ≡ Some r →
    IsRun t words status left rest before now → IfSome left (λ input. EndsWith input status before now)
served t words status left rest before now name r EndsWith ends allows asks is (inl run) =
    let same : Some run.0 ≡ Some r = sym (asked_named words name run.0 asks run.1) ∙ is in
    let one : run.0 ≡ r = cc in
    ends (subst (λ (x : Request). IsPerformed (notation_given words) t x status left rest before now) one
    (in_notation t words run.0 status left rest before now asks.0 run.2))
served t words status left rest before now name r EndsWith ends allows asks is (inr run) =
    unwritten EndsWith status left before now allows run.0 run.2

-- a run for words that ask for `commands`, and give settings in order, ends by them
pub serves_commands : ServesFile (codes "commands") EndsCommands
serves_commands t words status left rest before now settings asks given within run =
    served t words status left rest before now (codes "commands") (request.Commands settings)
    (EndsCommands (notation_given words) settings)
    (λ h. h) (λ input keeps. keeps) asks
    (commands (codes "commands") _ _ (image_begins words) (settings_typed words)
    (texts_given words) settings refl given within) run

-- the same of `steps`
pub serves_steps : ServesFile (codes "steps") EndsSteps
unfolding EndsSteps
serves_steps t words status left rest before now settings asks given within run =
    served t words status left rest before now (codes "steps") (request.Steps settings)
    (EndsSteps (notation_given words) settings)
    (λ h. h) (λ input keeps. keeps) asks
    (steps (codes "steps") _ _ (image_begins words) (settings_typed words)
    (texts_given words) settings refl given within) run

-- the same of `replay`
pub serves_replay : ServesFile (codes "replay") (λ notation. EndsReplay)
unfolding EndsReplay
serves_replay t words status left rest before now settings asks given within run =
    served t words status left rest before now (codes "replay") (request.Replay settings) (EndsReplay settings)
    (λ h. h) (λ input keeps. keeps) asks
    (replay (codes "replay") _ _ (image_begins words) (settings_typed words)
    (texts_given words) settings refl given within) run

-- a conversation that did not begin, with nothing read and nothing written
unserved : (start : Beginning) (status : Status) (left rest before now : Option (List ℕ)) → status ≡ Memory →
    Keeps left rest →
    Keeps before now → IfSome left (λ input. EndsServing start input status rest before now)
unserved start status None rest before now is unread keeps = tt
unserved start status (Some input) rest before now is unread keeps =
    subst (λ (s : Status). EndsServing start input s rest before now) (sym is) (unread, keeps)

-- a run for words that ask for `serve` of an empty file, and give settings in order, ends by them
pub serves_client : ServesClient
serves_client t words status left rest before now settings asks none given within (inl run) =
    subst (λ (x : Request). IsPerformed (notation_given words) t x status left rest before now)
    (serves_file words settings run.0 asks none given within run.1)
    (in_notation t words run.0 status left rest before now asks.0 run.2)
serves_client t words status left rest before now settings asks none given within (inr run) =
    unserved (beginning (notation_given words) t (first_file settings)) status left rest before now run.0 run.1 run.2

-- nor did one that was to go on from an image
no_image : (k : Notation) (t : Bool) (due : Result Lists ImageFault) (lines : List ℕ)
    (rest before now : Option (List ℕ)) → Keeps before now →
    EndsGoingOn k t due lines Memory rest before now
no_image k t (Ok l) lines rest before now keeps = inr (inr refl, keeps)
no_image k t (Err fault) lines rest before now keeps = keeps

unheard : (k : Notation) (t : Bool) (status : Status) (left rest before now : Option (List ℕ)) → status ≡ Memory →
    Keeps before now →
    IfSome left (λ input. EndsServingFrom k t input status rest before now)
unfolding EndsServingFrom
unheard k t status None rest before now is keeps = tt
unheard k t status (Some input) rest before now is keeps =
    subst (λ (s : Status). EndsGoingOn k t (reading_of (leading input)) (following input) s rest before now) (sym is)
    (no_image k t (reading_of (leading input)) (following input) rest before now keeps)

-- a run for words that ask for `serve` of the file of an image, and give no setting, ends as `serve` does on it
pub serves_from : ServesFrom
serves_from t words status left rest before now asks begins none (inl run) =
    subst (λ (x : Request). IsPerformed (notation_given words) t x status left rest before now)
    (serves_image words run.0 asks begins none run.1)
    (in_notation t words run.0 status left rest before now asks.0 run.2)
serves_from t words status left rest before now asks begins none (inr run) =
    unheard (notation_given words) t status left rest before now run.0 run.2

-- a run for words of `serve` that give a setting beside an image refuses them
pub refuses_beside : RefusesBeside
refuses_beside t words status left rest before now asks begins given (inl run) =
    subst (λ (x : Request). IsPerformed (notation_given words) t x status left rest before now)
    (refuses_setting words run.0 asks begins given run.1)
    (in_notation t words run.0 status left rest before now asks.0 run.2)
refuses_beside t words status left rest before now asks begins given (inr run) =
    (subst (IsWordsOf beside_image) (sym run.0) tt, run.1, run.2)

-- a run for words that ask for `build`, and give settings in order and the number of a version, ends by them
pub serves_build : ServesFilled (codes "build") EndsBuilding
unfolding EndsBuilding
serves_build t words status left rest before now settings n asks given image within run =
    served t words status left rest before now (codes "build") (request.Build settings (version_numbered n))
    (EndsBuilding (notation_given words) (wanted_version (version_numbered n)) settings)
    (λ h. h) (λ input keeps. keeps) asks
    (build (codes "build") _ _ (image_begins words) (settings_typed words) (texts_given words) settings
    (version_numbered n) refl given
    (ap (option_map version_numbered) image) within) run

-- the same of `load`
pub serves_load : ServesFilled (codes "load") (λ notation. EndsLoading)
unfolding EndsLoading
serves_load t words status left rest before now settings n asks given image within run =
    served t words status left rest before now (codes "load") (request.Load settings (version_numbered n))
    (EndsLoading (wanted_version (version_numbered n)) settings)
    (λ h. h) (λ input keeps. keeps) asks
    (load (codes "load") _ _ (image_begins words) (settings_typed words) (texts_given words) settings
    (version_numbered n) refl given
    (ap (option_map version_numbered) image) within) run

-- a run in threads that ended out of memory wrote nothing
driven_nothing : (k : Notation) (one : Bool) (settings : Settings) (shards snapshots : ℕ) (input : List ℕ)
    (before now : Option (List ℕ)) → Keeps before now →
    EndsDrivingIn k one settings shards snapshots input Memory before now
unfolding EndsThreaded
driven_nothing k true settings shards snapshots input before now keeps = keeps
driven_nothing k false settings shards snapshots input before now keeps = keeps

-- words that ask for a run in threads give their number, or ask for nothing
driven : (t : Bool) (words : List Text) (status : Status) (left rest before now : Option (List ℕ)) (settings : Settings)
    (shards snapshots : ℕ) (threads : Option ℕ) →
    number_given words (codes "threads") ≡ threads → Asks words (codes "drive") → settings_given words ≡ Some settings →
    number_given words (codes "shards") ≡ Some shards → number_given words (codes "snapshots") ≡ Some snapshots →
    (shards == 1 || snapshots == 0) ≡ true →
    settings.initial ≤ settings.max → IsRun t words status left rest before now →
    IfSome left (λ input.
    EndsDrivingIn (notation_given words) (shards == 1) settings shards snapshots input status before now)
driven t words status left rest before now settings h k (Some n) counted asks given parts taken allowed within run =
    served t words status left rest before now (codes "drive") (request.Drive settings n h k)
    (EndsDrivingIn (notation_given words) (h == 1) settings h k)
    (λ h. h) (λ input keeps. driven_nothing (notation_given words) (h == 1) settings h k input before now keeps) asks
    (drive (codes "drive") _ _ (image_begins words) (settings_typed words)
    (texts_given words) settings n h k refl given counted parts taken
    within
    ∙ ap (λ b. Some (cond b (request.Drive settings n h k) request.SnapshotsOfShards)) allowed) run
driven t words status left rest before now settings h k None counted asks given parts taken allowed within (inl run) =
    let none : asked_by (codes "drive") (settings_given words) (number_given words) (image_begins words)
    (settings_typed words) (texts_given words) ≡ None =
    undriven (codes "drive") _ _ (image_begins words) (settings_typed words) (texts_given words) settings refl given
    (inl counted) within in
    let some = asked_named words (codes "drive") run.0 asks run.1 in
    let apart : Some run.0 ≡ None = sym some ∙ none in
    absurd cc
driven t words status left rest before now settings h k None counted asks given parts taken allowed within (inr run) =
    unwritten (EndsDrivingIn (notation_given words) (h == 1) settings h k) status left before now
    (λ input keeps. driven_nothing (notation_given words) (h == 1) settings h k input before now keeps) run.0 run.2

-- a run for words that ask for `drive`, with settings in order, and one shard or no snapshot, ends by them
pub serves_drive : ServesDrive
serves_drive t words status left rest before now settings shards snapshots asks given parts taken allowed within run =
    driven t words status left rest before now settings shards snapshots (number_given words (codes "threads")) refl
    asks given parts taken allowed within run

-- a run for words of `drive` that ask for snapshots of more shards than one, with settings in order, refuses them
pub refuses_snapshots : RefusesSnapshots
refuses_snapshots t words status left rest before now settings n h k asks given counted parts taken apart within
    (inl run) =
    let is =
    drive (codes "drive") _ _ (image_begins words) (settings_typed words)
    (texts_given words) settings n h k refl given counted parts
    taken within
    ∙ ap (λ b. Some (cond b (request.Drive settings n h k) request.SnapshotsOfShards)) apart in
    let same : Some run.0 ≡ Some request.SnapshotsOfShards =
    sym (asked_named words (codes "drive") run.0 asks run.1) ∙ is in
    let one : run.0 ≡ request.SnapshotsOfShards = cc in
    subst (λ (x : Request). IsPerformed (notation_given words) t x status left rest before now) one
    (in_notation t words run.0 status left rest before now asks.0 run.2)
refuses_snapshots t words status left rest before now settings n h k asks given counted parts taken apart within
    (inr run) =
    (subst (IsWordsOf snapshots_of_shards) (sym run.0) tt, run.1, run.2)

-- a run for words that ask for a subcommand which takes no settings served it, or ran out of memory
serves_alone : (t : Bool) (words : List Text) (status : Status) (left rest before now : Option (List ℕ)) (name : Text)
    (r : Request) (EndsWith : Ending)
    (settings : Option Settings) → settings_given words ≡ settings →
    (IsPerformed (notation_given words) t r status left rest before now →
    IfSome left (λ input. EndsWith input status before now)) →
    ((input : List ℕ) → Keeps before now → EndsWith input Memory before now) → Asks words name →
    asked_by name None (number_given words) (image_begins words) (settings_typed words) (texts_given words) ≡ Some r →
    ((s : Settings) →
    asked_by name (Some s) (number_given words) (image_begins words) (settings_typed words) (texts_given words)
    ≡ None) →
    IsRun t words status left rest before now → IfSome left (λ input. EndsWith input status before now)
serves_alone t words status left rest before now name r EndsWith None given ends allows asks alone none run =
    served t words status left rest before now name r EndsWith ends allows asks
    (ap (λ s. asked_by name s (number_given words) (image_begins words) (settings_typed words) (texts_given words))
    given ∙ alone) run
serves_alone t words status left rest before now name r EndsWith (Some s) given ends allows asks alone none (inl run) =
    let some = asked_named words name run.0 asks run.1 in
    let same : asked_by name (settings_given words) (number_given words) (image_begins words) (settings_typed words)
    (texts_given words) ≡
    None =
    ap (λ x. asked_by name x (number_given words) (image_begins words) (settings_typed words) (texts_given words)) given
    ∙ none s in
    absurd cc
serves_alone t words status left rest before now name r EndsWith (Some s) given ends allows asks alone none (inr run) =
    unwritten EndsWith status left before now allows run.0 run.2

-- a run for words that ask for `check` ends as `check` does on its input
pub serves_check : ServesImage (codes "check") (λ notation. EndsTold check_due)
unfolding asked_by
serves_check t words status left rest before now asks run =
    serves_alone t words status left rest before now (codes "check") request.Check (EndsTold check_due)
    (settings_given words) refl
    (λ h. h) (λ input keeps. keeps) asks refl (λ s. refl) run

-- a run for words that ask for `dump` ends as `dump` does, in the format that they give
pub serves_dump : ServesDump
unfolding asked_by
serves_dump t words status left rest before now asks run =
    serves_alone t words status left rest before now (codes "dump") (request.Dump (format_given words))
    (EndsTold (dumped_due (notation_given words) (format_given words)))
    (settings_given words) refl
    (λ h. h) (λ input keeps. keeps) asks refl (λ s. refl) run

-- the same of `draw`, as of `check`
pub serves_draw : ServesImage (codes "draw") (λ notation. EndsTold draw_due)
unfolding asked_by
serves_draw t words status left rest before now asks run =
    serves_alone t words status left rest before now (codes "draw") request.Draw (EndsTold draw_due)
    (settings_given words) refl
    (λ h. h) (λ input keeps. keeps) asks refl (λ s. refl) run

-- the same of `migrate`
pub serves_migrate : ServesImage (codes "migrate") (λ notation. EndsTold migrate_due)
unfolding asked_by
serves_migrate t words status left rest before now asks run =
    serves_alone t words status left rest before now (codes "migrate") request.Migrate (EndsTold migrate_due)
    (settings_given words) refl
    (λ h. h) (λ input keeps. keeps) asks refl (λ s. refl) run

-- the same of `query`
pub serves_query : ServesImage (codes "query") (λ notation. EndsTold (query_due notation))
unfolding asked_by
serves_query t words status left rest before now asks run =
    serves_alone t words status left rest before now (codes "query") request.Query
    (EndsTold (query_due (notation_given words)))
    (settings_given words) refl
    (λ h. h) (λ input keeps. keeps) asks refl (λ s. refl) run

-- no key was looked up, for want of memory
ungot : (k : Notation) (given : Result (List (List ℕ)) _) (status : Status) (left rest before now : Option (List ℕ)) →
    status ≡ Memory → Keeps left rest → Keeps before now → EndsGettingOf k given status left rest before now
ungot k (Ok keys) status None rest before now is unread keeps = tt
ungot k (Ok keys) status (Some input) rest before now is unread keeps =
    subst (λ (s : Status). EndsFound k s (found_of input keys) before now) (sym is) keeps
ungot k (Err wrong) status left rest before now is unread keeps =
    (subst (IsRefusedFor wrong) (sym is) tt, unread, keeps)

got_nothing : (words : List Text) (status : Status) (left rest before now : Option (List ℕ)) → status ≡ Memory →
    Keeps left rest → Keeps before now →
    EndsGetting (notation_given words) (keys_given words) status left rest before now
unfolding EndsGetting
got_nothing words status left rest before now is unread keeps =
    ungot (notation_given words) (keys_of (notation_given words) (keys_given words)) status left rest before now is
    unread keeps

-- words that ask for look-ups give no settings, or ask for nothing
got : (t : Bool) (words : List Text) (status : Status) (left rest before now : Option (List ℕ))
    (settings : Option Settings) →
    settings_given words ≡ settings → Asks words (codes "get") → IsRun t words status left rest before now →
    EndsGetting (notation_given words) (keys_given words) status left rest before now
unfolding asked_by
got t words status left rest before now None given asks (inl run) =
    let is = get (codes "get") (settings_given words) (number_given words) (image_begins words) (settings_typed words)
    (texts_given words) refl given in
    let same : Some run.0 ≡ Some (request.Get (keys_given words)) =
    sym (asked_named words (codes "get") run.0 asks run.1) ∙ is in
    let one : run.0 ≡ request.Get (keys_given words) = cc in
    subst (λ (x : Request). IsPerformed (notation_given words) t x status left rest before now) one
    (in_notation t words run.0 status left rest before now asks.0 run.2)
got t words status left rest before now (Some s) given asks (inl run) =
    let none : asked_by (codes "get") (settings_given words) (number_given words) (image_begins words)
    (settings_typed words) (texts_given words) ≡ None =
    ap
    (λ x.
    asked_by (codes "get") x (number_given words) (image_begins words) (settings_typed words) (texts_given words))
    given in
    let some = asked_named words (codes "get") run.0 asks run.1 in
    let apart : Some run.0 ≡ None = sym some ∙ none in
    absurd cc
got t words status left rest before now settings given asks (inr run) =
    got_nothing words status left rest before now run.0 run.1 run.2

-- a run for words that ask for `get` ends by the words of their keys
pub serves_get : ServesGet
serves_get t words status left rest before now asks run =
    got t words status left rest before now (settings_given words) refl asks run

-- an image that is not written keeps what the writer holds
leaves_nothing : (version : Version) (file : Result Lists ImageFault) (given : Result (List Call) ScriptFault)
    (before now : Option (List ℕ)) →
    Keeps before now → EndsLeaving version Memory file given before now
leaves_nothing version (Ok l) given before now keeps = keeps
leaves_nothing version (Err fault) given before now keeps = keeps

applies_nothing : (k : Notation) (version : Version) (input : List ℕ) (before now : Option (List ℕ)) →
    Keeps before now →
    EndsApplying k version input Memory before now
unfolding EndsApplying
applies_nothing k version input before now keeps =
    leaves_nothing version (reading_of (leading input)) (script_behind k input) before now keeps

unasked : (s : Settings) (numbers : Text → Option ℕ) (image typed : Bool) (texts : Text → List Text) →
    asked_by (codes "apply") (Some s) numbers image typed texts ≡ None
unfolding asked_by
unasked s numbers image typed texts = unapplied s (numbers (codes "image"))

-- words that ask for the image which a script leaves give no settings, or ask for nothing
applied : (t : Bool) (words : List Text) (status : Status) (left rest before now : Option (List ℕ)) (n : ℕ)
    (settings : Option Settings) →
    settings_given words ≡ settings → Asks words (codes "apply") → number_given words (codes "image") ≡ Some n →
    IsRun t words status left rest before now →
    IfSome left (λ input.
    EndsApplying (notation_given words) (wanted_version (version_numbered n)) input status before now)
applied t words status left rest before now n None given asks image run =
    served t words status left rest before now (codes "apply") (request.Apply (version_numbered n))
    (EndsApplying (notation_given words) (wanted_version (version_numbered n)))
    (λ h. h) (λ input keeps.
    applies_nothing (notation_given words) (wanted_version (version_numbered n)) input before now keeps) asks
    (apply (codes "apply") _ _ (image_begins words) (settings_typed words) (texts_given words)
    (version_numbered n) refl given
    (ap (option_map version_numbered) image)) run
applied t words status left rest before now n (Some s) given asks image (inl run) =
    let none : asked_by (codes "apply") (settings_given words) (number_given words) (image_begins words)
    (settings_typed words) (texts_given words) ≡ None =
    ap (λ x. asked_by (codes "apply") x (number_given words) (image_begins words) (settings_typed words)
    (texts_given words)) given
    ∙ unasked s (number_given words) (image_begins words) (settings_typed words) (texts_given words) in
    let some = asked_named words (codes "apply") run.0 asks run.1 in
    let apart : Some run.0 ≡ None = sym some ∙ none in
    absurd cc
applied t words status left rest before now n (Some s) given asks image (inr run) =
    unwritten (EndsApplying (notation_given words) (wanted_version (version_numbered n))) status left before now
    (λ input keeps.
    applies_nothing (notation_given words) (wanted_version (version_numbered n)) input before now keeps) run.0 run.2

-- a run for words that ask for `apply`, and give the number of a version, ends by it
pub serves_apply : ServesApply
serves_apply t words status left rest before now n asks image run =
    applied t words status left rest before now n (settings_given words) refl asks image run

-- what is refused for its settings
pub refuses_below : RefusesBelow
refuses_below t words status left rest before now settings accepts none given below (inl (r, inl answers, serves)) =
    let is =
    below_asked words (subcommand_named words) refl (λ n. none (accepts, n)) settings given below r answers.1 in
    subst (λ (x : Request). IsPerformed (notation_given words) t x status left rest before now) is
    (in_notation t words r status left rest before now accepts serves)
refuses_below t words status left rest before now settings accepts none given below (inl (r, inr answers, serves)) =
    absurd (answers.0 accepts)
refuses_below t words status left rest before now settings accepts none given below (inr run) =
    (subst (IsWordsOf below_initial) (sym run.0) tt, run.1, run.2)
