-- Where clap finds no fault in the words of a command that asks for a subcommand, the words name one, other than `help`
use Rattle.std.proofs.Common.{◌≡◌, ◌&&◌, not, Bool, true, false, refl, subst, List, [], ◌∷◌, Option, Some, None}
use Rattle.std.proofs.Common.{is_some, codes, if◌then◌else◌}
use Rattle.std.specs.Prelude.{option_map, find}
use Rattle.std.specs.Str.{bytes_eq}
use Rattle.std.specs.Option.{option_map_or}
use Rattle.std.specs.List.{list_any}
use Rattle.clap.specs.Facts.{explicit_source}
use Rattle.clap.specs.Takes.{is_given}
use Rattle.clap.specs.Walk.{Row, Text, answers_to, finished, nothing_held, rows_after, settled, walk, walk_from}
use Rattle.clap.specs.Simple.{App, Shape, entered, label_of, names_of, rows_at}
use Rattle.clap.specs.Kinds.{check_kinds}
use Rattle.clap.specs.Faults.{built_fault, check_fault, defaults_fault, entered_fault, level_fault, settle_fault}
use Rattle.clap.specs.Faults.{walk_fault}
use Rattle.lh_options.proofs.RowLemmas.{Every, find-every, or_else-nil}
use Rattle.lh_options.proofs.StopLemmas.{StopsElsewhere, walk-stops}

-- what is found passes the test
pub find-passes : {X : Type 0} (test : X → Bool) (xs : List X) (x : X) → find test xs ≡ Some x → test x ≡ true
find-passes test [] x e = cc
find-passes {X} test (y ∷ ys) x e = go (test y) refl e (find-passes test ys x)
  where
    go : (b : Bool) → test y ≡ b → (if b then Some y else find test ys) ≡ Some x →
        (find test ys ≡ Some x → test x ≡ true) → test x ≡ true
    go true is k rec =
        let same : y ≡ x = cc in
        subst (λ (z : X). test z ≡ true) same is
    go false is k rec = rec k

needs-subcommand : (has wants_help wants_argument : Bool) →
    check_kinds (not has && wants_help) (not has && true) wants_argument ≡ [] → has ≡ true
needs-subcommand true wants_help wants_argument e = refl
needs-subcommand false true wants_argument e = cc
needs-subcommand false false wants_argument e = cc

required-subcommand : (s : Shape) (rows : List Row) (has : Bool) → s.subcommand_required ≡ true →
    check_fault s rows has ≡ [] → has ≡ true
required-subcommand s rows has required e =
    let help : Bool = s.arg_required_else_help && not (list_any (λ r. explicit_source r.source) rows) in
    let argument : Bool =
    not (s.subcommand_negates_reqs && has) && list_any (λ a. a.required && not (is_given a.id rows)) s.rules in
    needs-subcommand has help argument
    (subst (λ b. check_kinds (not has && help) (not has && b) argument ≡ []) required e)

-- of the subcommand, where it is not `help` and clap finds no fault in its words, its name and rows have the fact
abbrev pub Leaves : (Text → List Row → Type 0) → Shape → Type 0
Leaves P s = (t : Text) → answers_to t (label_of s) ≡ true → bytes_eq t (codes "help") ≡ false → (words : List Text)
    → level_fault s [] nothing_held words false [] ≡ [] → P s.name (rows_after s.rules [] words)

module _ (app : App) (P : Text → List Row → Type 0) (each : Every (Leaves P) app.subs) where
  entered-at : (stop : Option (Text × List Text)) → StopsElsewhere stop → entered_fault app stop ≡ [] →
      is_some (entered app stop) ≡ true
      → (e : Text × List Row) × (entered app stop ≡ Some e) × P e.0 e.1
  entered-at None k e some = cc
  entered-at (Some p) k e some = go (find (λ s. answers_to p.0 (label_of s)) app.subs) refl e some
    where
      go : (o : Option Shape) → find (λ s. answers_to p.0 (label_of s)) app.subs ≡ o
          → option_map_or (λ (s : Shape). level_fault s [] nothing_held p.1 false []) o [] ≡ [] →
          is_some (option_map (λ (s : Shape). rows_at s p.1) o) ≡ true
          → (e : Text × List Row) × (option_map (λ (s : Shape). rows_at s p.1) o ≡ Some e) × P e.0 e.1
      go None is f has = cc
      go (Some s) is f has = (
        rows_at s p.1,
        refl,
        find-every (Leaves P) _ app.subs s each is p.0
            (find-passes (λ s. answers_to p.0 (label_of s)) app.subs s is) k p.1 f,
      )

  -- where a command asks for a subcommand, words without a fault enter one, and its name and rows have the fact
  pub entered-some : app.top.subcommand_required ≡ true → app.top.disable_help_subcommand ≡ false →
      (words : List Text) → built_fault app nothing_held words ≡ []
      → (e : Text × List Row) × (entered app (walk app.top.rules (names_of app) nothing_held words).stopped ≡ Some e)
      × P e.0 e.1
  entered-some required has_help words e =
      let end = walk app.top.rules (names_of app) nothing_held words in
      let has = is_some (entered app end.stopped) in
      let walked = or_else-nil (walk_fault app.top (names_of app) (walk_from nothing_held) words) _ e in
      let below = or_else-nil (entered_fault app end.stopped) _ walked.1 in
      let settles = or_else-nil (settle_fault app.top.rules app.top.args_override_self end.held) _ below.1 in
      let defaulted = or_else-nil (defaults_fault (settled app.top.rules end.held).rows app.top.rules) _ settles.1 in
      let some : has ≡ true = required-subcommand app.top (finished app.top.rules end.held) has required defaulted.1 in
      entered-at end.stopped (walk-stops app.top has_help (names_of app) (walk_from nothing_held) words walked.0 tt)
      below.0 some
