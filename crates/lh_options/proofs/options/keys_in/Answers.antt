use Rattle.std.proofs.Common.{◌≡◌, ◌∙◌, [], None, Some, codes, map, sym, ap}
use Rattle.std.specs.Prelude.{option_map, unwrap_or}
use Rattle.std.proofs.lemmas.Result.{IfOk-weaker}
use Rattle.clap.specs.Words.{all_of, found_of, rows_of}
use Rattle.clap.proofs.WalkLemmas.{raw_values-rows}
use Rattle.lh_options.proofs.options.keys_in.Goals as goal

pub returns-in-Some : goal.returns-in-Some
returns-in-Some c =
    let found = found_of c.args.matches.now in
    let given : all_of (codes "keys") (rows_of found) ≡ Some (map (λ v. v.now) c.in-Some.words.now) =
    sym (raw_values-rows found (codes "keys")) ∙ sym c.get_strs.ensures
    ∙ ap (λ o. option_map (λ s. map (λ v. v.now) s.now) o) c.in-Some.is in
    IfOk-weaker c.of.result _ _ (λ keys h. h ∙ sym (ap (λ o. unwrap_or o []) given)) c.of.ensures

pub returns-in-None : goal.returns-in-None
returns-in-None c =
    let found = found_of c.args.matches.now in
    let given : all_of (codes "keys") (rows_of found) ≡ None =
    sym (raw_values-rows found (codes "keys")) ∙ sym c.get_strs.ensures
    ∙ ap (λ o. option_map (λ s. map (λ v. v.now) s.now) o) c.in-None.is in
    IfOk-weaker c.of-in-None.result _ _ (λ keys h. h ∙ sym (ap (λ o. unwrap_or o []) given)) c.of-in-None.ensures
