use Rattle.std.proofs.Common.{◌≡◌, ◌∙◌, Option, None, Some, codes, is_some, sym, ap, true}
use Rattle.std.specs.Prelude.{option_map}
use Rattle.std.specs.Option.{option_map_or}
use Rattle.clap.specs.Words.{Text, first_of, found_of, rows_of}
use Rattle.clap.proofs.WalkLemmas.{first_value-rows}
use Rattle.lh_options.specs.Options.{format_named}
use Rattle.lh_options.proofs.options.is_format_named.Goals as goal

pub returns-in-Some : goal.returns-in-Some
returns-in-Some c =
    let found = found_of c.args.matches.now in
    let word : first_of (codes "format") (rows_of found) ≡ Some c.in-Some.word.now =
    sym (first_value-rows found (codes "format")) ∙ sym c.get_str.ensures
    ∙ ap (λ o. option_map (λ s. s.now) o) c.in-Some.is in
    c.is_some.ensures ∙ ap is_some c.named.ensures
    ∙ sym (ap (λ (o : Option Text). option_map_or (λ w. is_some (format_named w)) o true) word)

pub returns-in-None : goal.returns-in-None
returns-in-None c =
    let found = found_of c.args.matches.now in
    let word : first_of (codes "format") (rows_of found) ≡ None =
    sym (first_value-rows found (codes "format")) ∙ sym c.get_str.ensures
    ∙ ap (λ o. option_map (λ s. s.now) o) c.in-None.is in
    sym (ap (λ (o : Option Text). option_map_or (λ w. is_some (format_named w)) o true) word)
