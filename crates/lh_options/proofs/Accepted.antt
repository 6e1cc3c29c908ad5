-- Words in which clap finds no fault name a subcommand, whose rows have the numbers of all its options
use Rattle.std.proofs.Common.{◌≡◌, ◌∙◌, ◌⊎◌, ◌||◌, ℕ, zero, suc, inl, inr, Bool, true, false, refl, sym, ap, List, []}
use Rattle.std.proofs.Common.{◌∷◌, ◌++◌, Option, Some, None, codes, arith, subst}
use Rattle.std.specs.Prelude.{◌&&◌, drop, find, not, option_and_then, take}
use Rattle.std.specs.List.{list_all}
use Rattle.std.specs.Str.{bytes_eq}
use Rattle.std.proofs.lemmas.Bool.{false≢true}
use Rattle.std.proofs.lemmas.Slice.Eq.{bytes_eq-Decides}
use Rattle.clap.proofs.WalkLemmas.{both}
use Rattle.clap.specs.Walk.{Row, Rule, Text, nothing_held, row_text, rows_after}
use Rattle.clap.specs.Simple.{Shape, argument_words, built, filled, subcommand_of}
use Rattle.clap.specs.Faults.{fault_of, level_fault}
use Rattle.lh_addr.specs.Limits.{most_initial, most_capacity, least_load, most_load, most_buckets}
use Rattle.lh_options.specs.Options.{commands_app, most_snapshots, number_in, numeral_value, option_rule, program_app}
use Rattle.lh_options.specs.Options.{settings_from}
use Rattle.lh_options.specs.OptionSteps.{HasDriveNumbers, HasImage, HasNumber, HasSettings, IsBuildCommand}
use Rattle.lh_options.specs.OptionSteps.{IsFileCommand, IsImageCommand, settings_in}
use Rattle.lh_options.proofs.Levels.{entered-some, find-passes}
use Rattle.lh_options.proofs.RowLemmas.{Every, FitsHere, HasTarget, IsTarget, find-every, level-every, level-row}
use Rattle.lh_options.proofs.NumberLemmas.{number-fits}
use Rattle.lh_options.proofs.Unlike.{unlike}

-- the four options are among these rules, each alone with its name
pub record HasOptions (rules : List Rule) : Type 0 where
  pub initial : Every (IsTarget (codes "initial") (codes "1") 1 most_initial) rules
      × HasTarget (codes "initial") (codes "1") 1 most_initial rules
  pub capacity : Every (IsTarget (codes "capacity") (codes "14") 1 most_capacity) rules
      × HasTarget (codes "capacity") (codes "14") 1 most_capacity rules
  pub load : Every (IsTarget (codes "load") (codes "100") least_load most_load) rules
      × HasTarget (codes "load") (codes "100") least_load most_load rules
  pub max : Every (IsTarget (codes "max") (codes "65536") 1 most_buckets) rules
      × HasTarget (codes "max") (codes "65536") 1 most_buckets rules

settings-after : (s : Shape) → HasOptions s.rules → (words : List Text) →
    level_fault s [] nothing_held words false [] ≡ [] → HasSettings (rows_after s.rules [] words)
settings-after s h words e =
    let initial =
    level-row (codes "initial") (codes "1") 1 most_initial s h.initial.0 h.initial.1 [] words false [] e in
    let capacity =
    level-row (codes "capacity") (codes "14") 1 most_capacity s h.capacity.0 h.capacity.1 [] words false [] e in
    let load = level-row (codes "load") (codes "100") least_load most_load s h.load.0 h.load.1 [] words false [] e in
    let max = level-row (codes "max") (codes "65536") 1 most_buckets s h.max.0 h.max.1 [] words false [] e in
    record {
      initial = number-fits (codes "initial") (codes "1") 1 most_initial _ initial.0 initial.1 initial.2;
      capacity = number-fits (codes "capacity") (codes "14") 1 most_capacity _ capacity.0 capacity.1 capacity.2;
      load = number-fits (codes "load") (codes "100") least_load most_load _ load.0 load.1 load.2;
      max = number-fits (codes "max") (codes "65536") 1 most_buckets _ max.0 max.1 max.2;
    }

-- a text of another name fails the test, so what the test would lead to need not be shown
unequal : {P : Type 0} → false ≡ true → P
unequal h = absurd (false≢true h)

-- a rule that hasn't this id is not the option's
another : (name default : Text) (least most : ℕ) (a : Rule) → not (bytes_eq a.id name) ≡ true →
    IsTarget name default least most a
another name default least most a e = λ same. absurd (go (bytes_eq a.id name) same e)
  where
    go : (b : Bool) → b ≡ true → not b ≡ true → ⊥
    go true same e = false≢true e
    go false same e = false≢true same

-- the rules of which none has this id are none of the option's
others : (name default : Text) (least most : ℕ) (rules : List Rule) →
    list_all (λ a. not (bytes_eq a.id name)) rules ≡ true → Every (IsTarget name default least most) rules
others name default least most [] e = tt
others name default least most (a ∷ rest) e =
    let parts = both (not (bytes_eq a.id name)) _ e in
    (another name default least most a parts.0, others name default least most rest parts.1)

-- an option among rules of which none has its id is there, and alone
among : (name default : Text) (least most : ℕ) (before after : List Rule) →
    list_all (λ a. not (bytes_eq a.id name)) (before ++ after) ≡ true →
    Every (IsTarget name default least most) (before ++ filled (option_rule name default least most) ∷ after)
    × HasTarget name default least most (before ++ filled (option_rule name default least most) ∷ after)
among name default least most [] after e = (((λ _. refl), others name default least most after e), inl refl)
among name default least most (a ∷ rest) after e =
    let parts = both (not (bytes_eq a.id name)) _ e in
    let below = among name default least most rest after parts.1 in
    ((another name default least most a parts.0, below.0), inr below.1)

-- an option that is none of the rules has no row, and so no number
no-number : (name : Text) (s : Shape) → Every (IsTarget name (codes "1") 1 0) s.rules → (words : List Text) →
    level_fault s [] nothing_held words false [] ≡ []
    → number_in (rows_after s.rules [] words) name ≡ None
no-number name s none words e = go (find (λ r. bytes_eq r.id name) (rows_after s.rules [] words)) refl
  where
    go : (o : Option Row) → find (λ r. bytes_eq r.id name) (rows_after s.rules [] words) ≡ o →
        number_in (rows_after s.rules [] words) name ≡ None
    go None is = ap (λ (found : Option Row). option_and_then numeral_value (option_and_then row_text found)) is
    go (Some r) is =
        let every = level-every name (codes "1") 1 0 s none [] words false [] e in
        let fits =
        find-every (FitsHere name (codes "1") 1 0) (λ r. bytes_eq r.id name) _ r every is
        (find-passes (λ r. bytes_eq r.id name) (rows_after s.rules [] words) r is) in
        let number = number-fits name (codes "1") 1 0 _ r is fits in
        absurd (omega (arith, number.low, number.high))

-- a subcommand without the option `--initial` gives no settings
no-settings : (s : Shape) → list_all (λ a. not (bytes_eq a.id (codes "initial"))) s.rules ≡ true →
    (words : List Text) → level_fault s [] nothing_held words false [] ≡ []
    → settings_in (rows_after s.rules [] words) ≡ None
unfolding settings_in
no-settings s none words e =
    let rows = rows_after s.rules [] words in
    ap
    (λ initial.
    settings_from initial (number_in rows (codes "capacity")) (number_in rows (codes "load"))
    (number_in rows (codes "max")))
    (no-number (codes "initial") s (others (codes "initial") (codes "1") 1 0 s.rules none) words e)

abbrev shape_at : ℕ → List Shape → Shape
shape_at n [] = commands_app.top
shape_at zero (s ∷ rest) = s
shape_at (suc n) (s ∷ rest) = shape_at n rest

-- the subcommands, as building leaves them
abbrev commands_built : Shape
commands_built = shape_at 0 (built program_app).subs

abbrev steps_built : Shape
steps_built = shape_at 1 (built program_app).subs

abbrev replay_built : Shape
replay_built = shape_at 2 (built program_app).subs

abbrev build_built : Shape
build_built = shape_at 3 (built program_app).subs

abbrev load_built : Shape
load_built = shape_at 4 (built program_app).subs

abbrev check_built : Shape
check_built = shape_at 5 (built program_app).subs

abbrev dump_built : Shape
dump_built = shape_at 6 (built program_app).subs

abbrev drive_built : Shape
drive_built = shape_at 7 (built program_app).subs

abbrev draw_built : Shape
draw_built = shape_at 8 (built program_app).subs

abbrev migrate_built : Shape
migrate_built = shape_at 9 (built program_app).subs

abbrev query_built : Shape
query_built = shape_at 10 (built program_app).subs

abbrev apply_built : Shape
apply_built = shape_at 11 (built program_app).subs

abbrev serve_built : Shape
serve_built = shape_at 12 (built program_app).subs

abbrev get_built : Shape
get_built = shape_at 13 (built program_app).subs

-- a subcommand whose first rules are the four options, and none of whose others has the id of one of them
abbrev lead : List Rule → List Rule
lead rest = filled (option_rule (codes "initial") (codes "1") 1 most_initial)
    ∷ filled (option_rule (codes "capacity") (codes "14") 1 most_capacity)
    ∷ filled (option_rule (codes "load") (codes "100") least_load most_load)
    ∷ filled (option_rule (codes "max") (codes "65536") 1 most_buckets) ∷ rest

abbrev have_others : List Rule → Bool
have_others rules =
    list_all (λ a. not (bytes_eq a.id (codes "initial"))) rules
    && (list_all (λ a. not (bytes_eq a.id (codes "capacity"))) rules
    && (list_all (λ a. not (bytes_eq a.id (codes "load"))) rules
    && list_all (λ a. not (bytes_eq a.id (codes "max"))) rules))

leading : (rest : List Rule) → have_others rest ≡ true → HasOptions (lead rest)
leading rest e =
    let initial = both (list_all (λ a. not (bytes_eq a.id (codes "initial"))) rest) _ e in
    let capacity = both (list_all (λ a. not (bytes_eq a.id (codes "capacity"))) rest) _ initial.1 in
    let load = both (list_all (λ a. not (bytes_eq a.id (codes "load"))) rest) _ capacity.1 in
    record {
      initial = (((λ _. refl), (unequal, (unequal, (unequal, others _ _ _ _ rest initial.0)))), inl refl);
      capacity = ((unequal, ((λ _. refl), (unequal, (unequal, others _ _ _ _ rest capacity.0)))), inr (inl refl));
      load = ((unequal, (unequal, ((λ _. refl), (unequal, others _ _ _ _ rest load.0)))), inr (inr (inl refl)));
      max = ((unequal, (unequal, (unequal, ((λ _. refl), others _ _ _ _ rest load.1)))), inr (inr (inr (inl refl))));
    }

commands-options : HasOptions commands_built.rules
commands-options = leading (drop 4 commands_built.rules) refl

steps-options : HasOptions steps_built.rules
steps-options = leading (drop 4 steps_built.rules) refl

replay-options : HasOptions replay_built.rules
replay-options = leading (drop 4 replay_built.rules) refl

build-options : HasOptions build_built.rules
build-options = leading (drop 4 build_built.rules) refl

load-options : HasOptions load_built.rules
load-options = leading (drop 4 load_built.rules) refl

drive-options : HasOptions drive_built.rules
drive-options = leading (drop 4 drive_built.rules) refl

serve-options : HasOptions serve_built.rules
serve-options = leading (drop 4 serve_built.rules) refl

-- an option that stands behind k rules of a subcommand, of which none has its id, has a number in its range
number-after : (name default : Text) (least most k : ℕ) (s : Shape) →
    s.rules ≡ take k s.rules ++ filled (option_rule name default least most) ∷ drop (suc k) s.rules →
    list_all (λ a. not (bytes_eq a.id name)) (take k s.rules ++ drop (suc k) s.rules) ≡ true → (words : List Text) →
    level_fault s [] nothing_held words false [] ≡ [] → HasNumber (rows_after s.rules [] words) name least most
number-after name default least most k s is alone words e =
    let stands = among name default least most (take k s.rules) (drop (suc k) s.rules) alone in
    let row = level-row name default least most s (subst (Every (IsTarget name default least most)) (sym is) stands.0)
    (subst (HasTarget name default least most) (sym is) stands.1) [] words false [] e in
    number-fits name default least most _ row.0 row.1 row.2

-- the numbers of threads, of shards and of snapshots
drive-after : (words : List Text) → level_fault drive_built [] nothing_held words false [] ≡ [] →
    HasDriveNumbers (rows_after drive_built.rules [] words)
drive-after words e = record {
  threads = number-after (codes "threads") (codes "4") 1 64 5 drive_built refl refl words e;
  shards = number-after (codes "shards") (codes "1") 1 64 6 drive_built refl refl words e;
  snapshots = number-after (codes "snapshots") (codes "0") 0 most_snapshots 7 drive_built refl refl words e;
}

is_help : (t : Text) → (bytes_eq (codes "help") t || false) ≡ true → bytes_eq t (codes "help") ≡ true
is_help t e =
    (bytes_eq-Decides t (codes "help")).1
    (sym ((bytes_eq-Decides (codes "help") t).0 (go (bytes_eq (codes "help") t) e)))
  where
    go : (b : Bool) → (b || false) ≡ true → b ≡ true
    go true f = refl
    go false f = f

-- the subcommands that the words may name, and what holds of their rows
abbrev pub IsEntered : Text → List Row → Type 0
IsEntered name rows =
    (IsFileCommand name × HasSettings rows × (name ≡ codes "drive" → HasDriveNumbers rows)
    × (IsBuildCommand name → HasImage rows))
    ⊎ (IsImageCommand name × (settings_in rows ≡ None) × (name ≡ codes "apply" → HasImage rows))

-- of a subcommand of another name nothing is said
other-name : {P : Type 0} (name given : Text) → bytes_eq name given ≡ false → name ≡ given → P
other-name name given other is = absurd (unlike name given other is)

-- nor of one that fills no file
other-builder : {P : Type 0} (name : Text) → bytes_eq name (codes "build") ≡ false →
    bytes_eq name (codes "load") ≡ false → IsBuildCommand name → P
other-builder name build load (inl is) = other-name name _ build is
other-builder name build load (inr is) = other-name name _ load is

-- accepted words name such a subcommand
pub accepted-rows : (words : List Text) → fault_of program_app words ≡ [] →
    (e : Text × List Row) × (subcommand_of program_app words ≡ Some e) × IsEntered e.0 e.1
accepted-rows words e = entered-some (built program_app) IsEntered (
  (λ t is other ws f.
      inl (
        inl refl,
        settings-after commands_built commands-options ws f,
        other-name (codes "commands") _ refl,
        other-builder (codes "commands") refl refl,
      )),
  (
    (λ t is other ws f.
        inl (
          inr (inl refl),
          settings-after steps_built steps-options ws f,
          other-name (codes "steps") _ refl,
          other-builder (codes "steps") refl refl,
        )),
    (
      (λ t is other ws f.
          inl (
            inr (inr (inr (inr (inl refl)))),
            settings-after replay_built replay-options ws f,
            other-name (codes "replay") _ refl,
            other-builder (codes "replay") refl refl,
          )),
      (
        (λ t is other ws f.
            inl (
              inr (inr (inl refl)),
              settings-after build_built build-options ws f,
              other-name (codes "build") _ refl,
              λ _. number-after (codes "image") (codes "2") 1 2 6 build_built refl refl ws f,
            )),
        (
          (λ t is other ws f.
              inl (
                inr (inr (inr (inr (inr (inr refl))))),
                settings-after load_built load-options ws f,
                other-name (codes "load") _ refl,
                λ _. number-after (codes "image") (codes "2") 1 2 6 load_built refl refl ws f,
              )),
          (
            (λ t is other ws f.
                inr (inl refl, no-settings check_built refl ws f, other-name (codes "check") _ refl)),
            (
              (λ t is other ws f.
                  inr (inr (inl refl), no-settings dump_built refl ws f, other-name (codes "dump") _ refl)),
              (
                (λ t is other ws f.
                    inl (
                      inr (inr (inr (inl refl))),
                      settings-after drive_built drive-options ws f,
                      (λ _. drive-after ws f),
                      other-builder (codes "drive") refl refl,
                    )),
                (
                  (λ t is other ws f.
                      inr (
                        inr (inr (inl refl)),
                        no-settings draw_built refl ws f,
                        other-name (codes "draw") _ refl,
                      )),
                  (
                    (λ t is other ws f.
                        inr (
                          inr (inr (inr (inl refl))),
                          no-settings migrate_built refl ws f,
                          other-name (codes "migrate") _ refl,
                        )),
                    (
                      (λ t is other ws f.
                          inr (
                            inr (inr (inr (inr (inl refl)))),
                            no-settings query_built refl ws f,
                            other-name (codes "query") _ refl,
                          )),
                      (
                        (λ t is other ws f.
                            inr (
                              inr (inr (inr (inr (inr (inl refl))))),
                              no-settings apply_built refl ws f,
                              λ _. number-after (codes "image") (codes "2") 1 2 2 apply_built refl refl ws f,
                            )),
                        (
                          (λ t is other ws f.
                              inl (
                                inr (inr (inr (inr (inr (inl refl))))),
                                settings-after serve_built serve-options ws f,
                                other-name (codes "serve") _ refl,
                                other-builder (codes "serve") refl refl,
                              )),
                          (
                            (λ t is other ws f.
                                inr (
                                  inr (inr (inr (inr (inr (inr refl))))),
                                  no-settings get_built refl ws f,
                                  other-name (codes "get") _ refl,
                                )),
                            ((λ t is other ws f. absurd (false≢true (sym other ∙ is_help t is))), tt),
                          ),
                        ),
                      ),
                    ),
                  ),
                ),
              ),
            ),
          ),
        ),
      ),
    ),
  ),
)
    refl refl (argument_words (built program_app) words) e

-- whether a name is that of a subcommand which reads an image
abbrev reads_image : Text → Bool
reads_image name =
    bytes_eq name (codes "check") || (bytes_eq name (codes "dump") || (bytes_eq name (codes "draw") || (
    bytes_eq name (codes "migrate") || (bytes_eq name (codes "query") || (bytes_eq name (codes "apply")
    || bytes_eq name (codes "get"))))))

file-reads : (name : Text) → IsFileCommand name → reads_image name ≡ false
file-reads name (inl is) = ap reads_image is
file-reads name (inr (inl is)) = ap reads_image is
file-reads name (inr (inr (inl is))) = ap reads_image is
file-reads name (inr (inr (inr (inl is)))) = ap reads_image is
file-reads name (inr (inr (inr (inr (inl is))))) = ap reads_image is
file-reads name (inr (inr (inr (inr (inr (inl is)))))) = ap reads_image is
file-reads name (inr (inr (inr (inr (inr (inr is)))))) = ap reads_image is

image-reads : (name : Text) → IsImageCommand name → reads_image name ≡ true
image-reads name (inl is) = ap reads_image is
image-reads name (inr (inl is)) = ap reads_image is
image-reads name (inr (inr (inl is))) = ap reads_image is
image-reads name (inr (inr (inr (inl is)))) = ap reads_image is
image-reads name (inr (inr (inr (inr (inl is))))) = ap reads_image is
image-reads name (inr (inr (inr (inr (inr (inl is)))))) = ap reads_image is
image-reads name (inr (inr (inr (inr (inr (inr is)))))) = ap reads_image is

-- no subcommand has settings and reads an image
apart : (name : Text) → IsFileCommand name → IsImageCommand name → ⊥
apart name file image = false≢true (sym (file-reads name file) ∙ image-reads name image)

-- a subcommand that the words may name has the options of a file's settings, or reads an image
pub entered-named : (name : Text) (rows : List Row) → IsEntered name rows → IsFileCommand name ⊎ IsImageCommand name
entered-named name rows (inl h) = inl h.0
entered-named name rows (inr h) = inr h.0

-- where it has those options, its rows give each setting a number in its range
pub entered-settings : (name : Text) (rows : List Row) → IsEntered name rows → IsFileCommand name → HasSettings rows
entered-settings name rows (inl h) is = h.1
entered-settings name rows (inr h) is = absurd (apart name is h.0)

-- the rows of `drive` give the numbers of threads, of shards and of snapshots, each in its range
pub entered-drive : (name : Text) (rows : List Row) → IsEntered name rows → name ≡ codes "drive" → HasDriveNumbers rows
entered-drive name rows (inl h) is = h.2 is
entered-drive name rows (inr h) is = absurd (apart name (inr (inr (inr (inl is)))) h.0)

-- the name of a subcommand that fills a file is that of one with the options of its settings
build-file : (name : Text) → IsBuildCommand name → IsFileCommand name
build-file name (inl is) = inr (inr (inl is))
build-file name (inr is) = inr (inr (inr (inr (inr (inr is)))))

-- the rows of `build` and `load` give the version of the image, one of the two
pub entered-image : (name : Text) (rows : List Row) → IsEntered name rows → IsBuildCommand name → HasImage rows
entered-image name rows (inl h) is = h.3 is
entered-image name rows (inr h) is = absurd (apart name (build-file name is) h.0)

-- the same of `apply`
pub entered-applied : (name : Text) (rows : List Row) → IsEntered name rows → name ≡ codes "apply" → HasImage rows
entered-applied name rows (inl h) is = absurd (apart name h.0 (inr (inr (inr (inr (inr (inl is)))))))
entered-applied name rows (inr h) is = h.2 is

-- the rows of a subcommand that reads an image give no settings
pub entered-none : (name : Text) (rows : List Row) → IsEntered name rows → IsImageCommand name → settings_in rows ≡ None
entered-none name rows (inl h) is = absurd (apart name h.0 is)
entered-none name rows (inr h) is = h.1
