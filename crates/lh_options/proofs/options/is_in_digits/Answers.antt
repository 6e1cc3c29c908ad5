use Rattle.std.proofs.Common.{◌≡◌, ◌∙◌, Option, Some, None, true, sym, ap}
use Rattle.std.specs.Prelude.{option_map}
use Rattle.std.specs.Char.{is_ascii_digit}
use Rattle.std.specs.List.{list_all}
use Rattle.std.specs.Option.{option_map_or}
use Rattle.clap.specs.Words.{Text, first_of, found_of, rows_of}
use Rattle.clap.proofs.WalkLemmas.{first_value-rows}
use Rattle.lh_options.proofs.options.is_in_digits.Goals as goal

pub returns-in-Some : goal.returns-in-Some
returns-in-Some c =
    let found = found_of c.args.matches.now in
    let text : first_of c.args.name.now (rows_of found) ≡ Some c.in-Some.text.now =
    sym (first_value-rows found c.args.name.now) ∙ sym c.get_str.ensures
    ∙ ap (λ o. option_map (λ s. s.now) o) c.in-Some.is in
    c.is_digits.ensures ∙ sym (ap (λ (o : Option Text). option_map_or (λ t. list_all is_ascii_digit t) o true) text)

pub returns-in-None : goal.returns-in-None
returns-in-None c =
    let found = found_of c.args.matches.now in
    let text : first_of c.args.name.now (rows_of found) ≡ None =
    sym (first_value-rows found c.args.name.now) ∙ sym c.get_str.ensures
    ∙ ap (λ o. option_map (λ s. s.now) o) c.in-None.is in
    sym (ap (λ (o : Option Text). option_map_or (λ t. list_all is_ascii_digit t) o true) text)
