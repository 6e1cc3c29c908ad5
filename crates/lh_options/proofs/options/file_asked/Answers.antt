use Rattle.std.proofs.Common.{◌≡◌, ◌∙◌, ℕ, Bool, List, Option, None, Some, ap, codes, false, if◌then◌else◌, inl, inr}
use Rattle.std.proofs.lemmas.Bool.{lt-ltb}
use Rattle.clap.specs.Walk.{Text}
use Rattle.lh_addr.specs.Settings.{Settings}
use Rattle.lh_options.specs.AskingLaws.{build, commands, drive_by, load, out_of_order, replay, serve, serve_by, steps}
use Rattle.lh_options.specs.OptionSteps.{IsFileCommand}
use Rattle.lh_options.specs.Options.{IsMaxBelowInitial, asked_by, serve_asked}
use Rattle.lh_options.specs.declared.options.Request.TheVariants as request
use Rattle.lh_options.proofs.options.file_asked.Goals as goal

-- `serve` refuses settings out of order, where no image begins the input
serve-refuses : (settings : Option Settings) (image typed : Bool) → image ≡ false → IsMaxBelowInitial settings →
    serve_asked settings image typed ≡ Some request.MaxBelowInitial
serve-refuses None image typed none below = absurd below
serve-refuses (Some s) image typed none below =
    (λ i. serve_asked (Some s) (none i) typed)
    ∙ ap (λ b. if b then Some request.MaxBelowInitial else Some (request.Serve s)) (lt-ltb s.max s.initial below)

-- so does each subcommand with the options of a file's settings
file-refuses : (name : Text) (settings : Option Settings) (numbers : Text → Option ℕ) (image typed : Bool)
    (texts : Text → List Text) →
    IsFileCommand name → (name ≡ codes "serve" → image ≡ false) → IsMaxBelowInitial settings →
    asked_by name settings numbers image typed texts ≡ Some request.MaxBelowInitial
file-refuses name settings numbers image typed texts (inl n) none below = out_of_order _ _ _ _ _ _ (inl n) below
file-refuses name settings numbers image typed texts (inr (inl n)) none below = out_of_order _ _ _ _ _ _
    (inr (inl n)) below
file-refuses name settings numbers image typed texts (inr (inr (inl n))) none below =
    out_of_order _ _ _ _ _ _ (inr (inr (inl n))) below
file-refuses name settings numbers image typed texts (inr (inr (inr (inl n)))) none below =
    out_of_order _ _ _ _ _ _ (inr (inr (inr (inl n)))) below
file-refuses name settings numbers image typed texts (inr (inr (inr (inr (inl n))))) none below =
    out_of_order _ _ _ _ _ _ (inr (inr (inr (inr (inl n))))) below
file-refuses name settings numbers image typed texts (inr (inr (inr (inr (inr (inl n)))))) none below =
    serve_by name settings numbers image typed texts n ∙ serve-refuses settings image typed (none n) below
file-refuses name settings numbers image typed texts (inr (inr (inr (inr (inr (inr n)))))) none below =
    out_of_order _ _ _ _ _ _ (inr (inr (inr (inr (inr n))))) below

pub returns-in_default-clause-value : goal.returns-in_default-clause-value
returns-in_default-clause-value c =
    file-refuses _ _ _ _ _ _ c.requires.named c.requires.serve c.in_default.ensures.none

pub returns-in-commands-clause-value : goal.returns-in-commands-clause-value
returns-in-commands-clause-value c =
    commands _ _ _ _ _ _ _ c.in-commands.is c.in-Some.ensures.some c.in-Some.ensures.in_range.max.0

pub returns-in-steps-clause-value : goal.returns-in-steps-clause-value
returns-in-steps-clause-value c =
    steps _ _ _ _ _ _ _ c.in-steps.is c.in-Some.ensures.some c.in-Some.ensures.in_range.max.0

pub returns-in-build-clause-value : goal.returns-in-build-clause-value
returns-in-build-clause-value c =
    build _ _ _ _ _ _ _ _ c.in-build.is c.in-Some.ensures.some c.version_in.ensures c.in-Some.ensures.in_range.max.0

pub returns-in-load-clause-value : goal.returns-in-load-clause-value
returns-in-load-clause-value c =
    load _ _ _ _ _ _ _ _ c.in-load.is c.in-Some.ensures.some c.version_in-in-load.ensures
    c.in-Some.ensures.in_range.max.0

pub returns-in-drive-clause-value : goal.returns-in-drive-clause-value
returns-in-drive-clause-value c =
    drive_by _ _ _ _ _ _ _ c.in-drive.is c.in-Some.ensures.some c.in-Some.ensures.in_range.max.0
    ∙ c.drive_asked.ensures.value

pub returns-in-replay-clause-value : goal.returns-in-replay-clause-value
returns-in-replay-clause-value c =
    replay _ _ _ _ _ _ _ c.in-replay.is c.in-Some.ensures.some c.in-Some.ensures.in_range.max.0

pub returns-in-serve-clause-value : goal.returns-in-serve-clause-value
returns-in-serve-clause-value c =
    serve _ _ _ _ _ _ _ c.in-serve.is (c.requires.serve c.in-serve.is) c.in-Some.ensures.some
    c.in-Some.ensures.in_range.max.0
