-- From what the functions give to what a request says of the words
use Rattle.std.proofs.Common.{◌≡◌, ◌∙◌, ◌<◌, ◌≤◌, ◌⊎◌, ℕ, inl, inr, refl, sym, ap, subst, List, [], ◌∷◌, length}
use Rattle.std.proofs.Common.{Option, Some, None, codes, false, nat_lt, true, if◌then◌else◌}
use Rattle.std.specs.Prelude.{find, option_and_then, option_map, slice_get, unwrap_or}
use Rattle.std.specs.Str.{bytes_eq}
use Rattle.std.specs.Option.{option_map_or}
use Rattle.std.proofs.lemmas.Bool.{cases_lt, false≢true, ltb-true}
use Rattle.std.specs.List.{list_all}
use Rattle.std.specs.Char.{digit_value}
use Rattle.clap.proofs.WalkLemmas.{both}
use Rattle.std.specs.Str.Parse.{AllDigits, IsNumeral, digits_value, without_leading_plus}
use Rattle.clap.specs.ValueTests.{is_numeral}
use Rattle.clap.specs.Kinds.{HasKind, IsAmong, Kinds}
use Rattle.clap.specs.Values.{kind_of}
use Rattle.clap.specs.Walk.{Row, Text, first_of, rows_of}
use Rattle.clap.specs.Matches.{found_of, subcommand_name_of}
use Rattle.clap.specs.Simple.{App, HasMatchesOf, subcommand_of, subcommand_rows_of}
use Rattle.clap.specs.Faults.{fault_of, is_simple_and_free}
use Rattle.clap.specs.declared.error.Error.{Error}
use Rattle.clap.specs.declared.error.kind.ErrorKind.{ErrorKind}
use Rattle.clap.specs.declared.error.kind.ErrorKind.TheVariants as kind
use Rattle.clap.specs.declared.parser.matches.ArgMatches.{ArgMatches}
use Rattle.clap.specs.declared.parser.matches.ArgMatches.TheViews.{out-ArgMatches}
use Rattle.lh_addr.specs.Limits.{IsSize}
use Rattle.lh_addr.specs.Settings.{Settings}
use Rattle.lh_addr.specs.Config.{IsFirstOutOfRange}
use Rattle.lh_addr.specs.declared.config.Range.{Range}
use Rattle.lh_addr.specs.declared.config.Range.TheVariants.{Max}
use Rattle.lh_options.specs.Options.{Accepts, Answers, AsksForHelp, IsRefused, IsServable}
use Rattle.lh_options.specs.Options.{all_in_digits, asked_by, asked_for, chosen_format, format_named}
use Rattle.lh_options.specs.Options.{image_begins, names_format, number_in, numeral_value, program_app}
use Rattle.lh_options.specs.Options.{setting_typed_in, settings_from, settings_given, settings_typed, subcommand_named}
use Rattle.lh_options.specs.Options.{texts_given, texts_in, typed_in, write_digits, write_format}
use Rattle.lh_options.specs.OptionSteps.{HasNumber, IsAccepted, IsMiswritten, IsRefusal, IsRefusedText}
use Rattle.lh_options.specs.OptionSteps.{IsWellWritten, asked_in, settings_in}
use Rattle.lh_options.specs.declared.dump_format.DumpFormat.TheVariants.{Lines}
use Rattle.lh_options.specs.declared.options.Request.{Request}
use Rattle.lh_options.specs.declared.options.Request.TheVariants as request
use Rattle.lh_options.proofs.Accepted.{IsEntered, accepted-rows}

-- the settings are the four numbers
pub settings-are : (rows : List Row) (initial capacity load max : ℕ) → number_in rows (codes "initial") ≡ Some initial →
    number_in rows (codes "capacity") ≡ Some capacity
    → number_in rows (codes "load") ≡ Some load → number_in rows (codes "max") ≡ Some max
    → settings_in rows ≡ Some (record { initial = initial; capacity = capacity; load = load; max = max })
unfolding settings_in
settings-are rows initial capacity load max a b c d = λ i. settings_from (a i) (b i) (c i) (d i)

-- the test says that there is a digit, and that all are digits
pub digits-all : (ds : Text) → is_numeral ds ≡ true → IsNumeral 10 ds
digits-all ds e =
    let parts = both (nat_lt 0 (length ds)) _ e in
    (ltb-true 0 (length ds) parts.0, each ds parts.1)
  where
    each : (xs : Text) → list_all (λ d. nat_lt (digit_value d) 10) xs ≡ true → AllDigits 10 xs
    each [] f = tt
    each (x ∷ xs) f =
        let parts = both (nat_lt (digit_value x) 10) _ f in
        (ltb-true (digit_value x) 10 parts.0, each xs parts.1)

-- a text of digits writes the number of its digits
numeral_value-numeral : (text : Text) → is_numeral (without_leading_plus text) ≡ true →
    numeral_value text ≡ Some (digits_value 10 (without_leading_plus text))
numeral_value-numeral text e = ap (λ b. if b then Some (digits_value 10 (without_leading_plus text)) else None) e

-- the number that rows give an option is the one that its text writes
pub number-is : (rows : List Row) (name : Text) (least most : ℕ) (given : HasNumber rows name least most)
    → number_in rows name ≡ Some (digits_value 10 (without_leading_plus given.text))
number-is rows name least most given =
    ap (option_and_then numeral_value) given.as_read ∙ numeral_value-numeral given.text given.numeral

-- the number of an option is at most the greatest of its range
pub number-at-most : (rows : List Row) (name : Text) (least most n : ℕ) → HasNumber rows name least most →
    number_in rows name ≡ Some n → n ≤ most
number-at-most rows name least most n given is =
    let read : number_in rows name ≡ Some (digits_value 10 (without_leading_plus given.text)) =
    number-is rows name least most given in
    let same : digits_value 10 (without_leading_plus given.text) ≡ n = cc in
    subst (λ (k : ℕ). k ≤ most) same given.high

-- a size that is out of its limits, and not too great, is too small
below-initial : (initial max : ℕ) → max ≤ 65536 → (IsSize initial max → ⊥) → max < initial
below-initial initial max high out =
    elim (cases_lt max initial) [ inl below ↦ below | inr above ↦ absurd (out (above, high)) ]

-- settings that are refused for their greatest number of buckets, which is not too great, have it too small
pub max-refused : (s : Settings) (e : Range) → IsFirstOutOfRange s e → e ≡ Max → s.max ≤ 65536 → s.max < s.initial
max-refused s e out is high =
    let at_max : IsFirstOutOfRange s Max = subst (IsFirstOutOfRange s) is out in
    below-initial s.initial s.max high at_max.3

option_map-twice : {A B C : Type 0} (f : B → C) (g : A → B) (o : Option A) →
    option_map f (option_map g o) ≡ option_map (λ x. f (g x)) o
option_map-twice f g None = refl
option_map-twice f g (Some x) = refl

name-of-rows : (m : ArgMatches) → option_map (λ p. p.0) (subcommand_rows_of m) ≡ subcommand_name_of m
name-of-rows m = option_map-twice _ _ (out-ArgMatches m).subcommand

-- the subcommand that a parse of accepted words entered
entered-is : (m : ArgMatches) (words : List Text) (name : Text) (rows : List Row) →
    subcommand_rows_of m ≡ subcommand_of program_app words
    → Some name ≡ subcommand_name_of m → Some rows ≡ option_map (λ p. p.1) (subcommand_rows_of m) →
    fault_of program_app words ≡ []
    → (subcommand_of program_app words ≡ Some (name, rows)) × IsEntered name rows
entered-is m words name rows same named with_rows no_fault =
    let got = accepted-rows words no_fault in
    let is : subcommand_rows_of m ≡ Some got.0 = same ∙ got.1 in
    let same_name : Some name ≡ Some got.0.0 = named ∙ (sym (name-of-rows m) ∙ ap (option_map (λ p. p.0)) is) in
    let same_rows : Some rows ≡ Some got.0.1 = with_rows ∙ ap (option_map (λ p. p.1)) is in
    let name_is : got.0.0 ≡ name = cc in
    let rows_are : got.0.1 ≡ rows = cc in (
      got.1
          ∙ (λ i. Some (name_is i, rows_are i)),
      subst (IsEntered name) rows_are (subst (λ (n : Text). IsEntered n got.0.1) name_is got.2),
    )

-- the settings that the words give are those in the rows of the subcommand
settings-at : (words : List Text) (name : Text) (rows : List Row) →
    subcommand_of program_app words ≡ Some (name, rows) → settings_given words ≡ settings_in rows
unfolding settings_given settings_in
settings-at words name rows is = λ i. settings_from
    (option_and_then (λ s. number_in s.1 (codes "initial")) (is i))
    (option_and_then (λ s. number_in s.1 (codes "capacity")) (is i))
    (option_and_then (λ s. number_in s.1 (codes "load")) (is i))
    (option_and_then (λ s. number_in s.1 (codes "max")) (is i))

-- what the words ask for is what the subcommand asks for by its rows
asked-is : (words : List Text) (name : Text) (rows : List Row) → subcommand_of program_app words ≡ Some (name, rows) →
    asked_for words ≡ asked_in name rows
unfolding subcommand_named
asked-is words name rows is =
    let named : subcommand_named words ≡ Some name = ap (option_map (λ s. s.0)) is in
    let begins : image_begins words ≡ typed_in rows (codes "from_image") =
    ap (λ (o : Option (Text × List Row)). option_map_or (λ s. typed_in s.1 (codes "from_image")) o false) is in
    let typed : settings_typed words ≡ setting_typed_in rows =
    ap (λ (o : Option (Text × List Row)). option_map_or (λ s. setting_typed_in s.1) o false) is in
    let texts : (id : Text) → texts_given words id ≡ texts_in rows id =
    λ id. ap (λ (o : Option (Text × List Row)). option_map_or (λ s. texts_in s.1 id) o []) is in
    λ i. option_and_then
    (λ n.
    asked_by n (settings-at words name rows is i) (λ o. option_and_then (λ s. number_in s.1 o) (is i)) (begins i)
    (typed i) (λ id. texts id i))
    (named i)

-- the format that rows give is the one that the first text of the option names
pub format-first : (rows : List Row) (name : Text) →
    chosen_format (texts_in rows name) ≡ unwrap_or (option_and_then format_named (first_of name rows)) Lines
format-first rows name = go (find (λ r. bytes_eq r.id name) rows)
  where
    by-values : (values : List Text) → chosen_format values ≡
        unwrap_or (option_and_then format_named (slice_get values 0)) Lines
    by-values [] = refl
    by-values (v ∷ vs) = refl

    go : (o : Option Row) → chosen_format (unwrap_or (option_map (λ r. r.values) o) []) ≡
        unwrap_or (option_and_then format_named (option_and_then (λ r. slice_get r.values 0) o)) Lines
    go None = refl
    go (Some r) = by-values r.values

-- one of some kinds, where there is none
none-among : (k : ErrorKind) (kinds : Kinds) → IsAmong k kinds → kinds ≡ [] → ⊥
none-among k kinds among none = subst (IsAmong k) none among

-- an error of clap's turns the words away, or says that memory ran out
pub refusal-answers : (words : List Text) (e : Error) (r : Request) → HasKind (fault_of program_app words) e →
    IsRefusal (kind_of e) r → Answers words r
unfolding Accepts AsksForHelp IsRefused
refusal-answers words e (request.Help text) (inl memory) (inl h) = cc
refusal-answers words e (request.Help text) (inl memory) (inr h) = cc
refusal-answers words e (request.Help text) (inr among) h =
    inr (λ a. none-among (kind_of e) _ among a.0, (kind_of e, among, h))
refusal-answers words e (request.Refused text) (inl memory) h = absurd (h.1 memory)
refusal-answers words e (request.Refused text) (inr among) h =
    inr (λ a. none-among (kind_of e) _ among a.0, (inl (kind_of e, among, h.0), h.2))
refusal-answers words e (request.Commands config) among h = absurd h
refusal-answers words e (request.Steps config) among h = absurd h
refusal-answers words e (request.Replay config) among h = absurd h
refusal-answers words e (request.Serve config) among h = absurd h
refusal-answers words e (request.Build config version) among h = absurd h
refusal-answers words e (request.Load config version) among h = absurd h
refusal-answers words e (request.Drive config threads shards snapshots) among h = absurd h
refusal-answers words e request.Check among h = absurd h
refusal-answers words e (request.Dump format) among h = absurd h
refusal-answers words e request.Draw among h = absurd h
refusal-answers words e request.Migrate among h = absurd h
refusal-answers words e request.Query among h = absurd h
refusal-answers words e (request.Apply version) among h = absurd h
refusal-answers words e (request.Get keys) among h = absurd h
refusal-answers words e request.ServeImage among h = absurd h
refusal-answers words e request.MaxBelowInitial among h = absurd h
refusal-answers words e request.SettingsBesideImage among h = absurd h
refusal-answers words e request.SnapshotsOfShards among h = absurd h

-- a request that turns words away runs nothing
pub refusal-servable : (k : ErrorKind) (r : Request) → IsRefusal k r → IsServable r
refusal-servable k (request.Drive config threads shards snapshots) h = absurd h
refusal-servable k _ h = tt

-- what a parse that succeeds says of the words, and of the subcommand that it entered
pub record HasEntered (words : List Text) (name : Text) (rows : List Row) : Type 0 where
  pub no_fault : fault_of program_app words ≡ []
  pub is : subcommand_of program_app words ≡ Some (name, rows)
  pub asked : IsEntered name rows

-- a parse that succeeds has entered the subcommand that its matches name, with the rows that they give
pub entered-from : (a : App) (m : ArgMatches) (words : List Text) (name : Text) (rows : List Row) → a ≡ program_app
    → (is_simple_and_free a ≡ true → fault_of a words ≡ []) → HasMatchesOf a words m
    → Some name ≡ subcommand_name_of m → Some rows ≡ option_map (λ p. p.1) (subcommand_rows_of m) →
    HasEntered words name rows
entered-from a m words name rows is none matches named with_rows =
    let found : is_simple_and_free program_app ≡ true → fault_of program_app words ≡ [] =
    subst (λ (x : App). is_simple_and_free x ≡ true → fault_of x words ≡ []) is none in
    let same : HasMatchesOf program_app words m = subst (λ (x : App). HasMatchesOf x words m) is matches in
    let entered = entered-is m words name rows (same refl).1 named with_rows (found refl) in
    record { no_fault = found refl; is = entered.0; asked = entered.1 }

-- the error of a parse that fails has one of the kinds that clap finds in the words, or memory ran out
pub failed-from : (a : App) (words : List Text) (e : Error) → a ≡ program_app →
    (is_simple_and_free a ≡ true → HasKind (fault_of a words) e)
    → HasKind (fault_of program_app words) e
failed-from a words e is failed =
    (subst (λ (x : App). is_simple_and_free x ≡ true → HasKind (fault_of x words) e) is failed) refl

-- whether the words write each number in digits alone, by the rows of the subcommand
write-is : (words : List Text) (name : Text) (rows : List Row) → subcommand_of program_app words ≡ Some (name, rows) →
    write_digits words ≡ all_in_digits rows
write-is words name rows is = ap (λ (o : Option (Text × List Row)). option_map_or (λ s. all_in_digits s.1) o true) is

-- whether the word that they write for a format names one, by the same rows
format-is : (words : List Text) (name : Text) (rows : List Row) → subcommand_of program_app words ≡ Some (name, rows) →
    write_format words ≡ names_format rows
format-is words name rows is = ap (λ (o : Option (Text × List Row)). option_map_or (λ s. names_format s.1) o true) is

-- words whose rows are well written are accepted
accepts-by : (words : List Text) (name : Text) (rows : List Row) → HasEntered words name rows → IsWellWritten rows →
    Accepts words
unfolding Accepts
accepts-by words name rows entered well = (
  entered.no_fault,
  write-is words name rows entered.is ∙ well.0,
  format-is words name rows entered.is ∙ well.1,
)

-- of words whose rows are not, a number has a sign, or a word names no format
miswritten-is : (words : List Text) (name : Text) (rows : List Row) → HasEntered words name rows → IsMiswritten rows →
    (write_digits words ≡ false) ⊎ (write_format words ≡ false)
miswritten-is words name rows entered (inl digits) = inl (write-is words name rows entered.is ∙ digits)
miswritten-is words name rows entered (inr format) = inr (format-is words name rows entered.is ∙ format)

-- and they are not accepted
pub refuses-by : (words : List Text) (name : Text) (rows : List Row) → HasEntered words name rows → IsMiswritten rows →
    Accepts words → ⊥
unfolding Accepts
refuses-by words name rows entered bad a =
    elim (miswritten-is words name rows entered bad) [
      | inl digits ↦ false≢true (sym digits ∙ a.1)
      | inr format ↦ false≢true (sym format ∙ a.2)
    ]

-- what accepted words ask for by the rows of their subcommand answers them
pub asked-answers : (words : List Text) (name : Text) (rows : List Row) (r : Request) → HasEntered words name rows →
    IsWellWritten rows → asked_in name rows ≡ Some r → Answers words r
asked-answers words name rows r entered well h =
    inl (accepts-by words name rows entered well, asked-is words name rows entered.is ∙ h)

-- a number with a sign, or a word that names no format, turns the words away
pub miswritten-answers : (words : List Text) (name : Text) (rows : List Row) (r : Request) →
    HasEntered words name rows → IsMiswritten rows → IsRefusedText r → Answers words r
unfolding IsRefused
miswritten-answers words name rows (request.Refused text) entered bad h =
    inr (refuses-by words name rows entered bad, (inr (entered.no_fault, miswritten-is words name rows entered bad), h))
miswritten-answers words name rows _ entered bad h = absurd h

-- where clap turns the words away no subcommand is accepted
pub unaccepted-words : (words : List Text) (e : Error) (found : Option ArgMatches) →
    HasKind (fault_of program_app words) e → (kind_of e ≡ kind.OutOfMemory → ⊥) × (found ≡ None) →
    IsAccepted words found
unfolding Accepts
unaccepted-words words e found (inl memory) h = absurd (h.0 memory)
unaccepted-words words e found (inr among) h =
    subst (IsAccepted words) (sym h.1) (λ a. none-among (kind_of e) _ among a.0)

-- the subcommand of words that are well written is
pub accepted-words : (words : List Text) (name : Text) (m : ArgMatches) →
    HasEntered words name (rows_of (found_of m)) → IsWellWritten (rows_of (found_of m)) → IsAccepted words (Some m)
accepted-words words name m entered well = (accepts-by words name _ entered well, (name, entered.is))
