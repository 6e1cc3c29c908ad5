-- Laws of the definitions in specs/Options.antt: what each subcommand asks for
use Rattle.std.proofs.Common.{◌≡◌, ◌∙◌, ◌≤◌, ◌<◌, ◌⊎◌, ℕ, Bool, true, false, inl, inr, refl, sym, ap, List, Option}
use Rattle.std.proofs.Common.{None, Some, codes, if◌then◌else◌}
use Rattle.std.specs.Prelude.{option_and_then, option_map}
use Rattle.std.specs.Str.{bytes_eq}
use Rattle.std.proofs.lemmas.Bool.{le-ltb, lt-ltb}
use Rattle.std.proofs.lemmas.Slice.Eq.{bytes_eq-Decides}
use Rattle.clap.specs.Walk.{Text}
use Rattle.lh_addr.specs.Settings.{Settings}
use Rattle.lh_options.specs.Options.{Answers, Asks, IsMaxBelowInitial, asked_by, apply_asked, drive_asked, driven}
use Rattle.lh_options.specs.Options.{chosen_format, image_begins, in_order, number_given, serve_asked, settings_given}
use Rattle.lh_options.specs.Options.{settings_typed, texts_given, version_numbered}
use Rattle.lh_options.specs.declared.options.ImageVersion.{ImageVersion}
use Rattle.lh_options.specs.declared.options.Request.{Request}
use Rattle.lh_options.specs.declared.options.Request.TheVariants as request

-- settings in order are passed on
passed_on : (s : Settings) (ask : Settings → Option Request) → s.initial ≤ s.max → in_order (Some s) ask ≡ ask s
passed_on s ask within = ap (λ b. if b then Some request.MaxBelowInitial else ask s) (le-ltb s.max s.initial within)

pub commands : (name : Text) (settings : Option Settings) (numbers : Text → Option ℕ) (image typed : Bool)
    (texts : Text → List Text)
    (s : Settings) →
    name ≡ codes "commands" → settings ≡ Some s → s.initial ≤ s.max →
    asked_by name settings numbers image typed texts ≡ Some (request.Commands s)
unfolding asked_by
commands name settings numbers image typed texts s n e within =
    (λ i. asked_by (n i) (e i) numbers image typed texts) ∙ passed_on s (λ x. Some (request.Commands x)) within

pub steps : (name : Text) (settings : Option Settings) (numbers : Text → Option ℕ) (image typed : Bool)
    (texts : Text → List Text) (s : Settings) →
    name ≡ codes "steps" → settings ≡ Some s → s.initial ≤ s.max →
    asked_by name settings numbers image typed texts ≡ Some (request.Steps s)
unfolding asked_by
steps name settings numbers image typed texts s n e within =
    (λ i. asked_by (n i) (e i) numbers image typed texts) ∙ passed_on s (λ x. Some (request.Steps x)) within

pub replay : (name : Text) (settings : Option Settings) (numbers : Text → Option ℕ) (image typed : Bool)
    (texts : Text → List Text)
    (s : Settings) →
    name ≡ codes "replay" → settings ≡ Some s → s.initial ≤ s.max →
    asked_by name settings numbers image typed texts ≡ Some (request.Replay s)
unfolding asked_by
replay name settings numbers image typed texts s n e within =
    (λ i. asked_by (n i) (e i) numbers image typed texts) ∙ passed_on s (λ x. Some (request.Replay x)) within

-- `serve` asks by its settings, whether an image begins the input, and whether a setting is typed
pub serve_by : (name : Text) (settings : Option Settings) (numbers : Text → Option ℕ) (image typed : Bool)
    (texts : Text → List Text) →
    name ≡ codes "serve" → asked_by name settings numbers image typed texts ≡ serve_asked settings image typed
unfolding asked_by
serve_by name settings numbers image typed texts n = λ i. asked_by (n i) settings numbers image typed texts

pub serve : (name : Text) (settings : Option Settings) (numbers : Text → Option ℕ) (image typed : Bool)
    (texts : Text → List Text) (s : Settings) →
    name ≡ codes "serve" → image ≡ false → settings ≡ Some s → s.initial ≤ s.max →
    asked_by name settings numbers image typed texts ≡ Some (request.Serve s)
serve name settings numbers image typed texts s n none e within =
    serve_by name settings numbers image typed texts n ∙ (λ i. serve_asked (e i) (none i) typed)
    ∙ passed_on s (λ x. Some (request.Serve x)) within

built : (s : Settings) (version : ImageVersion) (image : Option ℕ) → option_map version_numbered image ≡ Some version →
    option_map (λ n. request.Build s (version_numbered n)) image ≡ Some (request.Build s version)
built s version None f = absurd cc
built s version (Some n) f = ap (option_map (λ v. request.Build s v)) f

pub build : (name : Text) (settings : Option Settings) (numbers : Text → Option ℕ) (image typed : Bool)
    (texts : Text → List Text) (s : Settings)
    (version : ImageVersion) →
    name ≡ codes "build" → settings ≡ Some s → option_map version_numbered (numbers (codes "image")) ≡ Some version →
    s.initial ≤ s.max →
    asked_by name settings numbers image typed texts ≡ Some (request.Build s version)
unfolding asked_by
build name settings numbers image typed texts s version named e f within =
    (λ i. asked_by (named i) (e i) numbers image typed texts)
    ∙ passed_on s (λ x. option_map (λ n. request.Build x (version_numbered n)) (numbers (codes "image"))) within
    ∙ built s version (numbers (codes "image")) f

loaded : (s : Settings) (version : ImageVersion) (image : Option ℕ) → option_map version_numbered image ≡ Some version →
    option_map (λ n. request.Load s (version_numbered n)) image ≡ Some (request.Load s version)
loaded s version None f = absurd cc
loaded s version (Some n) f = ap (option_map (λ v. request.Load s v)) f

pub load : (name : Text) (settings : Option Settings) (numbers : Text → Option ℕ) (image typed : Bool)
    (texts : Text → List Text) (s : Settings)
    (version : ImageVersion) →
    name ≡ codes "load" → settings ≡ Some s → option_map version_numbered (numbers (codes "image")) ≡ Some version →
    s.initial ≤ s.max →
    asked_by name settings numbers image typed texts ≡ Some (request.Load s version)
unfolding asked_by
load name settings numbers image typed texts s version named e f within =
    (λ i. asked_by (named i) (e i) numbers image typed texts)
    ∙ passed_on s (λ x. option_map (λ n. request.Load x (version_numbered n)) (numbers (codes "image"))) within
    ∙ loaded s version (numbers (codes "image")) f

-- `drive` asks by its settings, where those are in order, and by its numbers
pub drive_by : (name : Text) (settings : Option Settings) (numbers : Text → Option ℕ) (image typed : Bool)
    (texts : Text → List Text)
    (s : Settings) →
    name ≡ codes "drive" → settings ≡ Some s → s.initial ≤ s.max →
    asked_by name settings numbers image typed texts ≡ drive_asked numbers s
unfolding asked_by
drive_by name settings numbers image typed texts s named e within =
    (λ i. asked_by (named i) (e i) numbers image typed texts) ∙ passed_on s (drive_asked numbers) within

pub drive : (name : Text) (settings : Option Settings) (numbers : Text → Option ℕ) (image typed : Bool)
    (texts : Text → List Text) (s : Settings)
    (n h k : ℕ) →
    name ≡ codes "drive" → settings ≡ Some s → numbers (codes "threads") ≡ Some n → numbers (codes "shards") ≡ Some h →
    numbers (codes "snapshots") ≡ Some k → s.initial ≤ s.max →
    asked_by name settings numbers image typed texts ≡ Some (driven s n h k)
drive name settings numbers image typed texts s n h k named e f g j within =
    drive_by name settings numbers image typed texts s named e within
    ∙ (λ i.
    option_and_then
    (λ threads. option_and_then (λ shards. option_map (λ snapshots. driven s threads shards snapshots) (j i)) (g i))
    (f i))

pub check : (name : Text) (settings : Option Settings) (numbers : Text → Option ℕ) (image typed : Bool)
    (texts : Text → List Text) →
    name ≡ codes "check" → settings ≡ None → asked_by name settings numbers image typed texts ≡ Some request.Check
unfolding asked_by
check name settings numbers image typed texts n e = λ i. asked_by (n i) (e i) numbers image typed texts

pub dump : (name : Text) (settings : Option Settings) (numbers : Text → Option ℕ) (image typed : Bool)
    (texts : Text → List Text) →
    name ≡ codes "dump" → settings ≡ None →
    asked_by name settings numbers image typed texts ≡ Some (request.Dump (chosen_format (texts (codes "format"))))
unfolding asked_by
dump name settings numbers image typed texts n e = λ i. asked_by (n i) (e i) numbers image typed texts

pub draw : (name : Text) (settings : Option Settings) (numbers : Text → Option ℕ) (image typed : Bool)
    (texts : Text → List Text) →
    name ≡ codes "draw" → settings ≡ None → asked_by name settings numbers image typed texts ≡ Some request.Draw
unfolding asked_by
draw name settings numbers image typed texts n e = λ i. asked_by (n i) (e i) numbers image typed texts

pub migrate : (name : Text) (settings : Option Settings) (numbers : Text → Option ℕ) (image typed : Bool)
    (texts : Text → List Text) →
    name ≡ codes "migrate" → settings ≡ None → asked_by name settings numbers image typed texts ≡ Some request.Migrate
unfolding asked_by
migrate name settings numbers image typed texts n e = λ i. asked_by (n i) (e i) numbers image typed texts

pub query : (name : Text) (settings : Option Settings) (numbers : Text → Option ℕ) (image typed : Bool)
    (texts : Text → List Text) →
    name ≡ codes "query" → settings ≡ None → asked_by name settings numbers image typed texts ≡ Some request.Query
unfolding asked_by
query name settings numbers image typed texts n e = λ i. asked_by (n i) (e i) numbers image typed texts

pub get : (name : Text) (settings : Option Settings) (numbers : Text → Option ℕ) (image typed : Bool)
    (texts : Text → List Text) →
    name ≡ codes "get" → settings ≡ None →
    asked_by name settings numbers image typed texts ≡ Some (request.Get (texts (codes "keys")))
unfolding asked_by
get name settings numbers image typed texts n e = λ i. asked_by (n i) (e i) numbers image typed texts

applied : (version : ImageVersion) (image : Option ℕ) → option_map version_numbered image ≡ Some version →
    apply_asked None image ≡ Some (request.Apply version)
applied version None f = absurd cc
applied version (Some n) f = ap (option_map (λ v. request.Apply v)) f

pub apply : (name : Text) (settings : Option Settings) (numbers : Text → Option ℕ) (image typed : Bool)
    (texts : Text → List Text)
    (version : ImageVersion) →
    name ≡ codes "apply" → settings ≡ None → option_map version_numbered (numbers (codes "image")) ≡ Some version →
    asked_by name settings numbers image typed texts ≡ Some (request.Apply version)
unfolding asked_by
apply name settings numbers image typed texts version named e f =
    (λ i. asked_by (named i) (e i) numbers image typed texts) ∙ applied version (numbers (codes "image")) f

-- no image is asked for with settings
pub unapplied : (s : Settings) (image : Option ℕ) → apply_asked (Some s) image ≡ None
unapplied s None = refl
unapplied s (Some n) = refl

nothing : (o : Option ℕ) → ◌≡◌ {A = Option Request} (option_and_then (λ (n : ℕ). None) o) None
nothing None = refl
nothing (Some n) = refl

-- no number of threads or of shards, and nothing is asked for
pub undriven : (name : Text) (settings : Option Settings) (numbers : Text → Option ℕ) (image typed : Bool)
    (texts : Text → List Text)
    (s : Settings) →
    name ≡ codes "drive" → settings ≡ Some s → (numbers (codes "threads") ≡ None) ⊎ (numbers (codes "shards") ≡ None) →
    s.initial ≤ s.max →
    asked_by name settings numbers image typed texts ≡ None
undriven name settings numbers image typed texts s named e (inl f) within =
    drive_by name settings numbers image typed texts s named e within
    ∙ (λ i.
    option_and_then
    (λ threads.
    option_and_then
    (λ shards. option_map (λ snapshots. driven s threads shards snapshots) (numbers (codes "snapshots")))
    (numbers (codes "shards"))) (f i))
undriven name settings numbers image typed texts s named e (inr f) within =
    drive_by name settings numbers image typed texts s named e within
    ∙ (λ i.
    option_and_then
    (λ threads.
    option_and_then
    (λ shards. option_map (λ snapshots. driven s threads shards snapshots) (numbers (codes "snapshots"))) (f i))
    (numbers (codes "threads")))
    ∙ nothing (numbers (codes "threads"))

-- settings out of order are refused
refused : (s : Settings) (ask : Settings → Option Request) → s.max < s.initial →
    in_order (Some s) ask ≡ Some request.MaxBelowInitial
refused s ask below = ap (λ b. if b then Some request.MaxBelowInitial else ask s) (lt-ltb s.max s.initial below)

-- the name of a subcommand that is refused for settings out of order, whatever else its words give
abbrev pub IsOrdered : Text → Type 0
IsOrdered name =
    (name ≡ codes "commands")
    ⊎ ((name ≡ codes "steps") ⊎ ((name ≡ codes "build") ⊎ ((name ≡ codes "drive")
    ⊎ ((name ≡ codes "replay") ⊎ (name ≡ codes "load")))))

pub out_of_order : (name : Text) (settings : Option Settings) (numbers : Text → Option ℕ) (image typed : Bool)
    (texts : Text → List Text) →
    IsOrdered name → IsMaxBelowInitial settings →
    asked_by name settings numbers image typed texts ≡ Some request.MaxBelowInitial
unfolding asked_by
out_of_order name None numbers image typed texts is below = absurd below
out_of_order name (Some s) numbers image typed texts (inl n) below =
    (λ i. asked_by (n i) (Some s) numbers image typed texts) ∙ refused s (λ x. Some (request.Commands x)) below
out_of_order name (Some s) numbers image typed texts (inr (inl n)) below =
    (λ i. asked_by (n i) (Some s) numbers image typed texts) ∙ refused s (λ x. Some (request.Steps x)) below
out_of_order name (Some s) numbers image typed texts (inr (inr (inl n))) below =
    (λ i. asked_by (n i) (Some s) numbers image typed texts)
    ∙ refused s (λ x. option_map (λ n. request.Build x (version_numbered n)) (numbers (codes "image"))) below
out_of_order name (Some s) numbers image typed texts (inr (inr (inr (inl n)))) below =
    (λ i. asked_by (n i) (Some s) numbers image typed texts) ∙ refused s (drive_asked numbers) below
out_of_order name (Some s) numbers image typed texts (inr (inr (inr (inr (inl n))))) below =
    (λ i. asked_by (n i) (Some s) numbers image typed texts) ∙ refused s (λ x. Some (request.Replay x)) below
out_of_order name (Some s) numbers image typed texts (inr (inr (inr (inr (inr n))))) below =
    (λ i. asked_by (n i) (Some s) numbers image typed texts)
    ∙ refused s (λ x. option_map (λ n. request.Load x (version_numbered n)) (numbers (codes "image"))) below

-- whatever each part of a choice leads to, where it leads to something, is m
chosen : (b : Bool) (x y : Option Request) (m r : Request) → (x ≡ Some r → r ≡ m) → (y ≡ Some r → r ≡ m) →
    (if b then x else y) ≡ Some r → r ≡ m
chosen true x y m r first second is = first is
chosen false x y m r first second is = second is

is_just : (x : Option Request) (m r : Request) → x ≡ Some m → x ≡ Some r → r ≡ m
is_just x m r e is = let same : Some r ≡ Some m = sym is ∙ e in cc

is_none : (x : Option Request) (m r : Request) → x ≡ None → x ≡ Some r → r ≡ m
is_none x m r e is = let same : Some r ≡ None = sym is ∙ e in cc

-- `serve` without an image is, too
serve_refused : (b image typed : Bool) (s : Settings) (r : Request) → s.max < s.initial → (b ≡ true → image ≡ false) →
    (if b then serve_asked (Some s) image typed else None) ≡ Some r → r ≡ request.MaxBelowInitial
serve_refused true image typed s r below none =
    is_just (serve_asked (Some s) image typed) request.MaxBelowInitial r
    (ap (λ b. serve_asked (Some s) b typed) (none refl) ∙ refused s (λ x. Some (request.Serve x)) below)
serve_refused false image typed s r below none = is_none None request.MaxBelowInitial r refl

-- whatever is asked for with settings out of order is refused for them, but `serve` with an image
pub refused_alone : (name : Text) (numbers : Text → Option ℕ) (image typed : Bool) (texts : Text → List Text)
    (s : Settings) (r : Request) →
    s.max < s.initial → (name ≡ codes "serve" → image ≡ false) → asked_by name (Some s) numbers image typed texts ≡
    Some r →
    r ≡ request.MaxBelowInitial
unfolding asked_by
refused_alone name numbers image typed texts s r below none =
    let m : Request = request.MaxBelowInitial in
    let turned : (ask : Settings → Option Request) → in_order (Some s) ask ≡ Some r → r ≡ m =
    λ ask. is_just (in_order (Some s) ask) m r (refused s ask below) in
    chosen (bytes_eq name (codes "commands")) _ _ m r (turned (λ x. Some (request.Commands x))) (
    chosen (bytes_eq name (codes "steps")) _ _ m r (turned (λ x. Some (request.Steps x))) (
    chosen (bytes_eq name (codes "replay")) _ _ m r (turned (λ x. Some (request.Replay x))) (
    chosen (bytes_eq name (codes "build")) _ _ m r
    (turned (λ x. option_map (λ n. request.Build x (version_numbered n)) (numbers (codes "image")))) (
    chosen (bytes_eq name (codes "load")) _ _ m r
    (turned (λ x. option_map (λ n. request.Load x (version_numbered n)) (numbers (codes "image")))) (
    chosen (bytes_eq name (codes "drive")) _ _ m r (turned (drive_asked numbers)) (
    chosen (bytes_eq name (codes "check")) _ _ m r (is_none None m r refl) (
    chosen (bytes_eq name (codes "dump")) _ _ m r (is_none None m r refl) (
    chosen (bytes_eq name (codes "draw")) _ _ m r (is_none None m r refl) (
    chosen (bytes_eq name (codes "migrate")) _ _ m r (is_none None m r refl) (
    chosen (bytes_eq name (codes "query")) _ _ m r (is_none None m r refl) (
    chosen (bytes_eq name (codes "apply")) _ _ m r
    (is_none (apply_asked (Some s) (numbers (codes "image"))) m r (unapplied s (numbers (codes "image")))) (
    chosen (bytes_eq name (codes "get")) _ _ m r (is_none None m r refl) (
    serve_refused (bytes_eq name (codes "serve")) image typed s r below
    (λ same. none ((bytes_eq-Decides name (codes "serve")).0 same)))))))))))))))

-- what accepted words ask for that name a subcommand
pub asked_named : (words : List Text) (name : Text) (r : Request) → Asks words name → Answers words r →
    asked_by name (settings_given words) (number_given words) (image_begins words) (settings_typed words)
    (texts_given words) ≡ Some r
asked_named words name r asks (inl answers) =
    ap
    (option_and_then
    (λ n. asked_by n (settings_given words) (number_given words) (image_begins words) (settings_typed words)
    (texts_given words)))
    (sym asks.1)
    ∙ answers.1
asked_named words name r asks (inr answers) = absurd (answers.0 asks.0)

-- words of `serve` with an image ask to go on from it, where they give no setting
pub serves_image : (words : List Text) (r : Request) → Asks words (codes "serve") → image_begins words ≡ true →
    settings_typed words ≡ false → Answers words r → r ≡ request.ServeImage
serves_image words r asks begins none answers =
    is_just _ request.ServeImage r
    (serve_by (codes "serve") (settings_given words) (number_given words) (image_begins words) (settings_typed words)
    (texts_given words)
    refl
    ∙ (λ i. serve_asked (settings_given words) (begins i) (none i)))
    (asked_named words (codes "serve") r asks answers)

-- and are refused, where they give one
pub refuses_setting : (words : List Text) (r : Request) → Asks words (codes "serve") → image_begins words ≡ true →
    settings_typed words ≡ true → Answers words r → r ≡ request.SettingsBesideImage
refuses_setting words r asks begins given answers =
    is_just _ request.SettingsBesideImage r
    (serve_by (codes "serve") (settings_given words) (number_given words) (image_begins words) (settings_typed words)
    (texts_given words)
    refl
    ∙ (λ i. serve_asked (settings_given words) (begins i) (given i)))
    (asked_named words (codes "serve") r asks answers)

-- words of `serve` without an image ask for a file of their settings, where those are in order
pub serves_file : (words : List Text) (s : Settings) (r : Request) → Asks words (codes "serve") →
    image_begins words ≡ false →
    settings_given words ≡ Some s → s.initial ≤ s.max → Answers words r → r ≡ request.Serve s
serves_file words s r asks none given within answers =
    is_just _ (request.Serve s) r
    (serve (codes "serve") (settings_given words) (number_given words) (image_begins words) (settings_typed words)
    (texts_given words) s
    refl none given within)
    (asked_named words (codes "serve") r asks answers)
