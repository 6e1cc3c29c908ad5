-- What the steps that make a command leave of what clap reads of it
use Rattle.std.proofs.Common.{◌≡◌, ◌∙◌, ◌||◌, Option, Some, false, true, ap, ap₂}
use Rattle.std.specs.Borrow.{Bor}
use Rattle.clap.specs.Simple.{app_of_fields}
use Rattle.clap.specs.Words.{AddsArg, AddsSubcommand, App, Rule, Text, rule_of, with_rule, with_subcommand}
use Rattle.clap.specs.declared.builder.arg.Arg.{Arg}
use Rattle.clap.specs.declared.builder.command.Command.{Command}
use Rattle.clap.specs.declared.builder.command.Command.TheViews.{out-Command}
use Rattle.lh_options.specs.Options.{with_subcommand_required, with_version}
use Rattle.lh_options.specs.OptionSteps.{Reads}

-- a text for help changes nothing of it
pub about-reads : (old new : Command) (app : App) (text : Option (Bor Text)) →
    out-Command new ≡ record (out-Command old) { about = text } → Reads app old → Reads app new
about-reads old new app text is k = (ap app_of_fields is ∙ k.0, ap (λ f. f.has_globals) is ∙ k.1)

-- nor does a text behind the help
pub example-reads : (old new : Command) (app : App) (text : Option (Bor Text)) →
    out-Command new ≡ record (out-Command old) { after_help = text } → Reads app old → Reads app new
example-reads old new app text is k = (ap app_of_fields is ∙ k.0, ap (λ f. f.has_globals) is ∙ k.1)

-- clap reads of it that it asks for a subcommand
pub required-reads : (old new : Command) (app : App) →
    out-Command new ≡ record (out-Command old) { subcommand_required = true } → Reads app old
    → Reads (with_subcommand_required app) new
required-reads old new app is k =
    (ap app_of_fields is ∙ ap with_subcommand_required k.0, ap (λ f. f.has_globals) is ∙ k.1)

-- a version
pub version-reads : (old new : Command) (app : App) (text : Bor Text) →
    out-Command new ≡ record (out-Command old) { version = Some text } → Reads app old
    → Reads (with_version app) new
version-reads old new app text is k = (ap app_of_fields is ∙ ap with_version k.0, ap (λ f. f.has_globals) is ∙ k.1)

-- an option
pub option-reads : (old new : Command) (a : Arg) (app : App) (rule : Rule) → AddsArg old a new → a.global ≡ false →
    rule_of a ≡ rule
    → Reads app old → Reads (with_rule app rule) new
option-reads old new a app rule h local r k =
    (h.shape local ∙ ap₂ with_rule k.0 r, h.globals ∙ ap₂ (λ x y. x || y) k.1 local)

-- clap reads of it the subcommand that was added
pub subcommand-reads : (old sub new : Command) (app below : App) → AddsSubcommand old sub new → Reads app old →
    Reads below sub
    → Reads (with_subcommand app below.top) new
subcommand-reads old sub new app below h k j =
    (h.shape j.1 ∙ ap₂ with_subcommand k.0 (ap (λ (a : App). a.top) j.0), h.globals ∙ ap₂ (λ x y. x || y) k.1 j.1)
