use Rattle.std.proofs.Common.{◌≡◌, ◌∙◌, Option, Some, None, refl, sym, ap}
use Rattle.std.specs.Prelude.{find, option_and_then, option_map}
use Rattle.std.specs.Str.{bytes_eq}
use Rattle.clap.specs.Facts.{Entry}
use Rattle.clap.specs.Matches.{matched_of}
use Rattle.clap.specs.Walk.{Row, Text, row_of}
use Rattle.clap.specs.Words.{found_of, rows_of}
use Rattle.clap.specs.declared.parser.matches.Found.{Found}
use Rattle.clap.specs.declared.parser.matches.MatchedArg.{MatchedArg}
use Rattle.clap.specs.declared.parser.matches.ValueSource.{ValueSource}
use Rattle.clap.specs.declared.parser.matches.ValueSource.TheVariants.{CommandLine, DefaultValue}
use Rattle.clap.proofs.WalkLemmas.{find_row}
use Rattle.lh_options.specs.Options.{is_from_words, typed_in}
use Rattle.lh_options.proofs.options.is_typed.Goals as goal

-- where a value came from, by the rows
source-rows : (f : Found) (name : Text) → option_and_then (λ (a : MatchedArg). a.source) (matched_of f name)
    ≡ option_and_then (λ (r : Row). r.source) (find (λ r. bytes_eq r.id name) (rows_of f))
source-rows f name =
    go (find (λ e. bytes_eq e.0.now name) f.entries.items)
    ∙ ap (option_and_then (λ (r : Row). r.source)) (sym (find_row f.entries.items name))
  where
    go : (o : Option Entry) →
        option_and_then (λ (a : MatchedArg). a.source) (option_map (λ e. e.1) o) ≡
        option_and_then (λ (r : Row). r.source) (option_map row_of o)
    go None = refl
    go (Some e) = refl

-- whether it came from the words
from-source : (f : Found) (name : Text) (given source : Option ValueSource) →
    given ≡ option_and_then (λ (a : MatchedArg). a.source) (matched_of f name)
    → given ≡ source → is_from_words source ≡ typed_in (rows_of f) name
from-source f name given source found is = ap is_from_words (sym is ∙ found ∙ source-rows f name)

pub returns-in-Some-CommandLine : goal.returns-in-Some-CommandLine
returns-in-Some-CommandLine c =
    from-source (found_of c.args.matches.now) c.args.name.now c.value_source.result (Some CommandLine)
    c.value_source.ensures
    (c.in-Some-CommandLine.is ∙ ap (λ (s : ValueSource). Some s) c.in-Some-CommandLine.field-0-is)

pub returns-in-Some-DefaultValue : goal.returns-in-Some-DefaultValue
returns-in-Some-DefaultValue c =
    from-source (found_of c.args.matches.now) c.args.name.now c.value_source.result (Some DefaultValue)
    c.value_source.ensures
    (c.in-Some-DefaultValue.is ∙ ap (λ (s : ValueSource). Some s) c.in-Some-DefaultValue.field-0-is)

pub returns-in-None : goal.returns-in-None
returns-in-None c =
    from-source (found_of c.args.matches.now) c.args.name.now c.value_source.result None c.value_source.ensures
    c.in-None.is
