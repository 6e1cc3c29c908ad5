use Rattle.std.proofs.Common.{◌≡◌, ◌∙◌, Bool, Some, None, codes, false, true, if◌then◌else◌, refl, sym, ap}
use Rattle.std.specs.Prelude.{option_map}
use Rattle.std.specs.Str.{bytes_eq}
use Rattle.std.proofs.lemmas.Slice.Eq.{bytes_eq-Decides}
use Rattle.clap.specs.Words.{Text, first_of, found_of, rows_of}
use Rattle.clap.proofs.WalkLemmas.{first_value-rows}
use Rattle.lh_options.specs.Options.{file_named}
use Rattle.lh_options.proofs.options.file_in.Goals as goal

-- another text than `-` names a file
names : (t : Text) → (t ≡ codes "-" → ⊥) → file_named (Some t) ≡ Some t
names t other = go (bytes_eq t (codes "-")) refl
  where
    go : (b : Bool) → bytes_eq t (codes "-") ≡ b → (if b then None else Some t) ≡ Some t
    go true is = absurd (other ((bytes_eq-Decides t (codes "-")).0 is))
    go false is = refl

pub returns-in-None : goal.returns-in-None
returns-in-None c =
    let found = found_of c.args.matches.now in
    let text : first_of c.args.name.now (rows_of found) ≡ None =
    sym (first_value-rows found c.args.name.now) ∙ sym c.get_str.ensures
    ∙ ap (λ o. option_map (λ s. s.now) o) c.in-None.is in
    sym (ap file_named text)

pub returns-in-Some-text : goal.returns-in-Some-text
returns-in-Some-text c =
    let found = found_of c.args.matches.now in
    let text : first_of c.args.name.now (rows_of found) ≡ Some (codes "-") =
    sym (first_value-rows found c.args.name.now) ∙ sym c.get_str.ensures
    ∙ ap (λ o. option_map (λ s. s.now) o) c.in-Some-text.is ∙ ap (λ (t : Text). Some t) c.in-Some-text.is-text in
    sym (ap file_named text)

pub returns-in_ok-from_str-in-Some : goal.returns-in_ok-from_str-in-Some
returns-in_ok-from_str-in-Some c =
    let found = found_of c.args.matches.now in
    let text : first_of c.args.name.now (rows_of found) ≡ Some c.in-Some.text.now =
    sym (first_value-rows found c.args.name.now) ∙ sym c.get_str.ensures
    ∙ ap (λ o. option_map (λ s. s.now) o) c.in-Some.is in
    ap (λ (t : Text). Some t) c.in_ok-from_str-in-Some.ensures.ok
    ∙ sym (ap file_named text ∙ names c.in-Some.text.now c.in-Some.not-text)
