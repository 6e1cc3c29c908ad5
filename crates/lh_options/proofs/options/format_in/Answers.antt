use Rattle.std.proofs.Common.{◌≡◌, ◌∙◌, None, Some, codes, sym, ap}
use Rattle.std.specs.Prelude.{option_and_then, option_map, unwrap_or}
use Rattle.clap.specs.Words.{first_of, found_of, rows_of}
use Rattle.clap.proofs.WalkLemmas.{first_value-rows}
use Rattle.lh_options.specs.Options.{format_named}
use Rattle.lh_options.specs.declared.dump_format.DumpFormat.TheVariants.{Lines}
use Rattle.lh_options.proofs.Requests.{format-first}
use Rattle.lh_options.proofs.options.format_in.Goals as goal

pub returns-in-Some : goal.returns-in-Some
returns-in-Some c =
    let found = found_of c.args.matches.now in
    let word : first_of (codes "format") (rows_of found) ≡ Some c.in-Some.word.now =
    sym (first_value-rows found (codes "format")) ∙ sym c.get_str.ensures
    ∙ ap (λ o. option_map (λ s. s.now) o) c.in-Some.is in
    c.unwrap_or.ensures ∙ ap (λ o. unwrap_or o Lines) c.named.ensures
    ∙ sym
    (format-first (rows_of found) (codes "format")
    ∙ ap (λ o. unwrap_or (option_and_then format_named o) Lines) word)

pub returns-in-None : goal.returns-in-None
returns-in-None c =
    let found = found_of c.args.matches.now in
    let word : first_of (codes "format") (rows_of found) ≡ None =
    sym (first_value-rows found (codes "format")) ∙ sym c.get_str.ensures
    ∙ ap (λ o. option_map (λ s. s.now) o) c.in-None.is in
    sym
    (format-first (rows_of found) (codes "format")
    ∙ ap (λ o. unwrap_or (option_and_then format_named o) Lines) word)
