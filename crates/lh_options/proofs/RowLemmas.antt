-- What holds of an option's row after a level of a parse in which clap finds no fault
use Rattle.std.proofs.Common.{◌≡◌, ◌∙◌, ◌<◌, ◌+◌, ◌&&◌, ◌||◌, ◌⊎◌, inl, inr, ℕ, Bool, true, false, zero, suc, refl, sym}
use Rattle.std.proofs.Common.{ap, subst, arith, List, [], ◌∷◌, ◌++◌, length, length-append, Option, Some, None, is_some}
use Rattle.std.proofs.Common.{if◌then◌else◌, pos}
use Rattle.std.specs.Prelude.{find, fold, slice_get, encode_utf8, drop, min}
use Rattle.std.specs.Option.{option_map_or}
use Rattle.std.specs.Str.{bytes_eq, chars}
use Rattle.std.proofs.lemmas.Slice.Eq.{bytes_eq-Decides}
use Rattle.clap.specs.Lexer.{long_of, short_of}
use Rattle.clap.specs.Walk.{Held, Names, Outcome, Row, Rule, Step, Text, Waiting, Walk, done, waits, plain, refused}
use Rattle.clap.specs.Walk.{next, trailing, subcommand, value, idle, option, positional}
use Rattle.clap.specs.Walk.{action_of, after_flag, after_step, arg_by_id, arg_by_index, arg_by_long, arg_by_short}
use Rattle.clap.specs.Walk.{at_row, attached_value, bundle, bundle_met, bundle_step, count_of, counted, default_rows}
use Rattle.clap.specs.Walk.{flag_met, has_row, is_pending, long_met, long_or_other, more_values, new_count}
use Rattle.clap.specs.Walk.{nothing_held, option_met, option_word, plain_word, positional_held, reacted, reading_by}
use Rattle.clap.specs.Walk.{rows_after, settled, settled_rows, short_met, short_or_plain, subcommand_met}
use Rattle.clap.specs.Walk.{subcommand_or_other, takes_several, takes_values, to_positional, used, used_as, used_by_id}
use Rattle.clap.specs.Walk.{values_or_missing, walk, walk_from, walked, walked_from, with_count, with_default}
use Rattle.clap.specs.Walk.{with_values, without, word_met}
use Rattle.clap.specs.Simple.{Shape, filled}
use Rattle.clap.specs.Kinds.{Kinds, or_else, range_kinds, value_kinds, values_kinds}
use Rattle.clap.specs.Faults.{bundle_step_fault, default_fault, defaults_fault, flag_word_fault, flags_fault}
use Rattle.clap.specs.Faults.{given_default_fault, level_fault, long_fault, option_fault, other_fault, positional_fault}
use Rattle.clap.specs.Faults.{react_fault, repeat_fault, set_fault, settle_fault, short_fault, stray_fault, step_fault}
use Rattle.clap.specs.Faults.{turn_fault, use_fault, walk_fault, word_fault}
use Rattle.clap.specs.declared.builder.action.ArgAction.{ArgAction}
use Rattle.clap.specs.declared.builder.action.ArgAction.TheVariants.{Set, Append, SetTrue, SetFalse, Count}
use Rattle.clap.specs.declared.builder.value_parser.ValueParser.{ValueParser}
use Rattle.clap.specs.declared.builder.value_parser.ValueParser.TheVariants as parser
use Rattle.clap.specs.declared.builder.value_parser.Reading.{Reading}
use Rattle.clap.specs.declared.builder.value_parser.Reading.TheVariants.{WithoutMinus}
use Rattle.clap.specs.declared.parser.matches.ValueSource.{ValueSource}
use Rattle.clap.specs.declared.parser.matches.ValueSource.TheVariants.{CommandLine, DefaultValue}
use Rattle.clap.specs.declared.error.kind.ErrorKind.TheVariants as kind
use Rattle.lh_options.specs.Options.{option_rule}

-- each element has the fact
abbrev pub Every : {X : Type 0} → (X → Type 0) → List X → Type 0
Every P [] = Unit {0}
Every P (x ∷ xs) = P x × Every P xs

every-append : {X : Type 0} (P : X → Type 0) (xs ys : List X) → Every P xs → Every P ys → Every P (xs ++ ys)
every-append P [] ys h k = k
every-append P (x ∷ xs) ys h k = (h.0, every-append P xs ys h.1 k)

-- what is found has the fact
pub find-every : {X : Type 0} (P : X → Type 0) (test : X → Bool) (xs : List X) (x : X) → Every P xs →
    find test xs ≡ Some x → P x
find-every P test [] x h e = cc
find-every {X} P test (y ∷ ys) x h e = go (test y) e (λ k. find-every P test ys x h.1 k)
  where
    go : (b : Bool) → (if b then Some y else find test ys) ≡ Some x → (find test ys ≡ Some x → P x) → P x
    go true k rec =
        let same : y ≡ x = cc in
        subst P same h.0
    go false k rec = rec k

-- of two lists of kinds in turn both are empty
pub or_else-nil : (a b : Kinds) → or_else a b ≡ [] → (a ≡ []) × (b ≡ [])
or_else-nil [] b e = (refl, e)
or_else-nil (k ∷ ks) b e = cc

or_else-past : (a b : Kinds) → a ≡ [] → or_else a b ≡ b
or_else-past a b none = ap (λ x. or_else x b) none

values_kinds-append : (i : Bool) (p : ValueParser) (xs ys : List Text) → values_kinds i p xs ≡ [] →
    values_kinds i p ys ≡ [] → values_kinds i p (xs ++ ys) ≡ []
values_kinds-append i p [] ys h k = k
values_kinds-append i p (x ∷ xs) ys h k =
    let parts = or_else-nil (value_kinds i p x) (values_kinds i p xs) h in
    or_else-past (value_kinds i p x) (values_kinds i p (xs ++ ys)) parts.0 ∙ values_kinds-append i p xs ys parts.1 k

at_row-every : (P : Row → Type 0) (id : Text) (change : Row → List Row) (missing rows : List Row) → Every P rows
    → ((r : Row) → bytes_eq r.id id ≡ true → P r → Every P (change r)) → Every P missing →
    Every P (at_row id change missing rows)
at_row-every P id change missing [] h changed m = m
at_row-every P id change missing (r ∷ rs) h changed m =
    go (bytes_eq r.id id) refl (at_row-every P id change missing rs h.1 changed m)
  where
    go : (b : Bool) → bytes_eq r.id id ≡ b → Every P (at_row id change missing rs) →
        Every P (if b then change r ++ rs else r ∷ at_row id change missing rs)
    go true e rec = every-append P (change r) rs (changed r e h.0) h.1
    go false e rec = (h.0, rec)

or-keeps : (t a b : Bool) → (a ≡ true → b ≡ true) → (t || a) ≡ true → (t || b) ≡ true
or-keeps true a b f e = refl
or-keeps false a b f e = f e

-- a word that is no flag, or what follows a flag, leaves the rows
option_word-rows : (o : Option Rule) (id word : Text) (h : Held) → (option_word o id word h).0.rows ≡ h.rows
option_word-rows None id word h = refl
option_word-rows (Some a) id word h = refl

plain_word-rows : (c : List Rule) (waiting : Waiting) (word : Text) (h : Held) →
    (plain_word c waiting word h).0.rows ≡ h.rows
plain_word-rows c idle word h = refl
plain_word-rows c (option id) word h = option_word-rows (arg_by_id c id) id word h
plain_word-rows c positional word h = refl

after_flag-rows : (c : List Rule) (waiting : Waiting) (word : Text) (h : Held) (o : Outcome) →
    (after_flag c waiting word h o).0.rows ≡ h.rows
after_flag-rows c waiting word h done = refl
after_flag-rows c waiting word h (waits id) = refl
after_flag-rows c waiting word h plain = plain_word-rows c waiting word h
after_flag-rows c waiting word h refused = plain_word-rows c waiting word h

module _ (name default : Text) (least most : ℕ) where
  -- the rule of the option, as building fills it in
  abbrev pub target : Rule
  target = filled (option_rule name default least most)

  abbrev pub range : ValueParser
  range = parser.Signed (pos least) (pos most)

  -- a row of the option has a value, each of its values is in the range, and it is read as a number that is not
  -- negative
  pub record Fits (r : Row) : Type 0 where
    pub reading : r.reading ≡ WithoutMinus
    pub values : values_kinds false range r.values ≡ []
    pub filled : 0 < length r.values

  -- a row of this id fits
  abbrev pub FitsHere : Row → Type 0
  FitsHere r = bytes_eq r.id name ≡ true → Fits r

  -- a rule of this id is the option's
  abbrev pub IsTarget : Rule → Type 0
  IsTarget a = bytes_eq a.id name ≡ true → a ≡ target

  elsewhere : (id : Text) → bytes_eq id name ≡ false → (r : Row) → r.id ≡ id → FitsHere r
  elsewhere id ne r same here =
      let other : bytes_eq r.id name ≡ false = ap (λ (t : Text). bytes_eq t name) same ∙ ne in
      cc

  with_values-elsewhere : (id : Text) (how : Reading) (s : ValueSource) (values : List Text) (rows : List Row) →
      bytes_eq id name ≡ false → Every FitsHere rows
      → Every FitsHere (with_values id how s values rows)
  with_values-elsewhere id how s values rows ne h = at_row-every FitsHere id (more_values s values) _ rows h
      (λ r same k. (elsewhere id ne _ ((bytes_eq-Decides r.id id).0 same), tt)) (elsewhere id ne _ refl, tt)

  with_count-elsewhere : (id : Text) (how : Reading) (s : ValueSource) (n : ℕ) (rows : List Row) →
      bytes_eq id name ≡ false → Every FitsHere rows
      → Every FitsHere (with_count id how s n rows)
  with_count-elsewhere id how s n rows ne h = at_row-every FitsHere id (new_count s n) _ rows h
      (λ r same k. (elsewhere id ne _ ((bytes_eq-Decides r.id id).0 same), tt)) (elsewhere id ne _ refl, tt)

  without-every : (id : Text) (rows : List Row) → Every FitsHere rows → Every FitsHere (without id rows)
  without-every id rows h = at_row-every FitsHere id (λ _. []) [] rows h (λ r same k. tt) tt

  counted-elsewhere : (id : Text) (how : Reading) (values : List Text) (rows : List Row) → bytes_eq id name ≡ false →
      Every FitsHere rows
      → Every FitsHere (counted id how values rows)
  counted-elsewhere id how [] rows ne h =
      with_count-elsewhere id how CommandLine (min (count_of id rows + 1) 255) (without id rows) ne
      (without-every id rows h)
  counted-elsewhere id how (v ∷ vs) rows ne h =
      with_values-elsewhere id how CommandLine _ _ ne (without-every id rows h)

  used_as-elsewhere : (x : ArgAction) (id : Text) (how : Reading) (values : List Text) (rows : List Row) →
      bytes_eq id name ≡ false → Every FitsHere rows
      → Every FitsHere (used_as x id how values rows)
  used_as-elsewhere Set id how values rows ne h =
      with_values-elsewhere id how CommandLine values _ ne (without-every id rows h)
  used_as-elsewhere SetTrue id how values rows ne h =
      with_values-elsewhere id how CommandLine values _ ne (without-every id rows h)
  used_as-elsewhere SetFalse id how values rows ne h =
      with_values-elsewhere id how CommandLine values _ ne (without-every id rows h)
  used_as-elsewhere Append id how values rows ne h = with_values-elsewhere id how CommandLine values rows ne h
  used_as-elsewhere Count id how values rows ne h = counted-elsewhere id how values rows ne h
  used_as-elsewhere _ id how values rows ne h = h

  with_values-here : (s : ValueSource) (values : List Text) (rows : List Row) → values_kinds false range values ≡ [] →
      0 < length values → Every FitsHere rows
      → Every FitsHere (with_values name WithoutMinus s values rows)
  with_values-here s values rows pass some h = at_row-every FitsHere name (more_values s values) _ rows h
      (λ r same k. (
        λ _. record {
          reading = (k same).reading;
          values = values_kinds-append false range r.values values (k same).values pass;
          filled = simp length-append (omega arith);
        },
        tt,
      ))
      (λ _. record { reading = refl; values = pass; filled = some }, tt)

  use-here : (again : Bool) (values : List Text) (rows : List Row) → use_fault again target values rows ≡ [] →
      Every FitsHere rows → Every FitsHere (used target values rows)
  use-here again [] rows e h = cc
  use-here again (v ∷ vs) rows e h =
      let parts = or_else-nil (range_kinds 1 1 (length (v ∷ vs))) (set_fault again target (v ∷ vs) rows) e in
      let passes = or_else-nil (repeat_fault again name rows) (values_kinds false range (v ∷ vs)) parts.1 in
      with_values-here CommandLine (v ∷ vs) (without name rows) passes.1 (omega arith) (without-every name rows h)

  use-every : (a : Rule) → IsTarget a → (again : Bool) (values : List Text) (rows : List Row) →
      use_fault again a values rows ≡ [] → Every FitsHere rows
      → Every FitsHere (used a values rows)
  use-every a only again values rows e h = go (bytes_eq a.id name) refl
    where
      go : (b : Bool) → bytes_eq a.id name ≡ b → Every FitsHere (used a values rows)
      go true same =
          subst (λ (x : Rule). use_fault again x values rows ≡ [] → Every FitsHere (used x values rows))
          (sym (only same)) (λ f. use-here again values rows f h) e
      go false ne = used_as-elsewhere (action_of a) a.id (reading_by a) (values_or_missing a values) rows ne h

  module _ (c : List Rule) (all : Every IsTarget c) (again : Bool) where
    by_id : (o : Option Rule) (values : List Text) (rows : List Row) → ((a : Rule) → o ≡ Some a → IsTarget a)
        → option_map_or (λ a. use_fault again a values rows) o [] ≡ [] → Every FitsHere rows →
        Every FitsHere (used_by_id o values rows)
    by_id None values rows only e h = h
    by_id (Some a) values rows only e h = use-every a (only a refl) again values rows e h

    pending-every : (p : Option (Text × List Text)) (rows : List Row)
        → option_map_or (λ (p : Text × List Text). option_map_or (λ a. use_fault again a p.1 rows) (arg_by_id c p.0) [])
        p [] ≡ []
        → Every FitsHere rows → Every FitsHere (settled_rows c p rows)
    pending-every None rows e h = h
    pending-every (Some p) rows e h = by_id (arg_by_id c p.0) p.1 rows (λ a is. find-every IsTarget _ c a all is) e h

    settled-every : (h : Held) → settle_fault c again h ≡ [] → Every FitsHere h.rows → Every FitsHere (settled c h).rows
    settled-every h e k = pending-every h.pending h.rows e k

    reacted-every : (a : Rule) → IsTarget a → (values : List Text) (h : Held) → react_fault c again a values h ≡ [] →
        Every FitsHere h.rows
        → Every FitsHere (reacted c a values h).rows
    reacted-every a only values h e k =
        let parts = or_else-nil (settle_fault c again h) _ e in
        use-every a only again values (settled c h).rows parts.1 (settled-every h parts.0 k)

    option_met-every : (a : Rule) → IsTarget a → (v : Option Text) (h : Held) → option_fault c again a v h ≡ [] →
        Every FitsHere h.rows
        → Every FitsHere (option_met c a v h).0.rows
    option_met-every a only (Some v) h e k = reacted-every a only (v ∷ []) h e k
    option_met-every a only None h e k = settled-every h e k

    flag_met-every : (a : Rule) → IsTarget a → (v : Option Text) (h : Held) →
        (if is_some v then kind.TooManyValues ∷ [] else react_fault c again a [] h) ≡ []
        → Every FitsHere h.rows → Every FitsHere (flag_met c a v h).0.rows
    flag_met-every a only (Some v) h e k = k
    flag_met-every a only None h e k = reacted-every a only [] h e k

    long_met-every : (o : Option Rule) → ((a : Rule) → o ≡ Some a → IsTarget a) → (v : Option Text) (h : Held) →
        long_fault c again o v h ≡ []
        → Every FitsHere h.rows → Every FitsHere (long_met c o v h).0.rows
    long_met-every None only v h e k = k
    long_met-every (Some a) only v h e k = go (takes_values a) e
      where
        go : (b : Bool) →
            (if b then option_fault c again a v h
            else (if is_some v then kind.TooManyValues ∷ [] else react_fault c again a [] h)) ≡ []
            → Every FitsHere (if b then option_met c a v h else flag_met c a v h).0.rows
        go true f = option_met-every a (only a refl) v h f k
        go false f = flag_met-every a (only a refl) v h f k

    short_met-every : (o : Option Rule) → ((a : Rule) → o ≡ Some a → IsTarget a) →
        (rest : Text) (h : Held) (onward : Held → Held × Outcome) (fault : Held → Kinds)
        → ((g : Held) → fault g ≡ [] → Every FitsHere g.rows → Every FitsHere (onward g).0.rows)
        → short_fault c again o rest h fault ≡ [] → Every FitsHere h.rows →
        Every FitsHere (short_met c o rest h onward).0.rows
    short_met-every None only rest h onward fault after e k = k
    short_met-every (Some a) only rest h onward fault after e k = go (takes_values a) e
      where
        go : (b : Bool) →
            (if b then option_fault c again a (attached_value rest) h
            else or_else (react_fault c again a [] h) (fault (reacted c a [] h))) ≡ []
            → Every FitsHere (if b then option_met c a (attached_value rest) h else onward (reacted c a [] h)).0.rows
        go true f = option_met-every a (only a refl) (attached_value rest) h f k
        go false f =
            let parts = or_else-nil (react_fault c again a [] h) _ f in
            after (reacted c a [] h) parts.1 (reacted-every a (only a refl) [] h parts.0 k)

    bundle_step-every : (o : Option ℕ) (flags : Text) (skip : ℕ) (so_far : Outcome) (h : Held)
        (onward : Text → ℕ → Outcome → Held → Held × Outcome) (fault : Text → ℕ → Held → Kinds)
        → ((t : Text) (n : ℕ) (x : Outcome) (g : Held) → fault t n g ≡ [] → Every FitsHere g.rows →
        Every FitsHere (onward t n x g).0.rows)
        → bundle_step_fault c again o flags skip h fault ≡ [] → Every FitsHere h.rows →
        Every FitsHere (bundle_step c o flags skip so_far h onward).0.rows
    bundle_step-every None flags skip so_far h onward fault after e k = k
    bundle_step-every (Some x) flags zero so_far h onward fault after e k =
        let rest = drop (length (encode_utf8 x)) flags in
        short_met-every (arg_by_short c x) (λ a is. find-every IsTarget _ c a all is) rest h (onward rest 0 done)
        (fault rest 0) (after rest 0 done) e k
    bundle_step-every (Some x) flags (suc skip) so_far h onward fault after e k = after _ skip so_far h e k

    bundle_met-every : (n : ℕ) (flags : Text) (skip : ℕ) (so_far : Outcome) (h : Held) →
        flags_fault c again n flags skip h ≡ [] → Every FitsHere h.rows
        → Every FitsHere (bundle_met c n flags skip so_far h).0.rows
    unfolding bundle_met flags_fault
    bundle_met-every zero flags skip so_far h e k = k
    bundle_met-every (suc n) flags skip so_far h e k =
        bundle_step-every (slice_get (chars flags) 0) flags skip so_far h (bundle_met c n) (flags_fault c again n)
        (λ t m x g f j. bundle_met-every n t m x g f j) e k

    short_or_plain-every : (waiting : Waiting) (word : Text) (o : Option Text) (h : Held)
        → option_map_or (λ flags. flags_fault c again (length flags) flags h.skip (record h { skip = 0 })) o [] ≡ []
        → Every FitsHere h.rows → Every FitsHere (short_or_plain c waiting word o h).0.rows
    short_or_plain-every waiting word (Some flags) h e k =
        subst (Every FitsHere) (sym (after_flag-rows c waiting word (bundle c flags h).0 (bundle c flags h).1))
        (bundle_met-every (length flags) flags h.skip plain (record h { skip = 0 }) e k)
    short_or_plain-every waiting word None h e k = subst (Every FitsHere) (sym (plain_word-rows c waiting word h)) k

    flag_word-every : (waiting : Waiting) (word : Text) (o : Option (Text × Option Text)) (h : Held) →
        flag_word_fault c again o word h ≡ []
        → Every FitsHere h.rows → Every FitsHere (long_or_other c waiting word o h).0.rows
    flag_word-every waiting word (Some p) h e k =
        subst (Every FitsHere)
        (sym
        (after_flag-rows c waiting word (long_met c (arg_by_long c p.0) p.1 h).0
        (long_met c (arg_by_long c p.0) p.1 h).1))
        (long_met-every (arg_by_long c p.0) (λ a is. find-every IsTarget _ c a all is) p.1 h e k)
    flag_word-every waiting word None h e k = short_or_plain-every waiting word (short_of word) h e k

    positional-every : (a : Rule) (word : Text) (h : Held) → positional_fault c again a h ≡ [] → Every FitsHere h.rows →
        Every FitsHere (positional_held c a word h).rows
    positional-every a word h e k = go (is_pending a h.pending && takes_several a) e
      where
        go : (b : Bool) → (if b then [] else settle_fault c again h) ≡ [] →
            Every FitsHere (if b then h else settled c h).rows
        go true f = k
        go false f = settled-every h f k

  module _ (s : Shape) (all : Every IsTarget s.rules) where
    other-every : (o : Option Text) (waiting : Waiting) (position : ℕ) (word : Text) (h : Held) →
        other_fault s o word h ≡ [] → Every FitsHere h.rows
        → Every FitsHere (subcommand_or_other s.rules o waiting position word h).0.rows
    other-every (Some x) waiting position word h e k = k
    other-every None waiting position word h e k = go (bytes_eq word (45 ∷ 45 ∷ [])) e
      where
        go : (b : Bool) → (if b then [] else flag_word_fault s.rules s.args_override_self (long_of word) word h) ≡ []
            → Every FitsHere
            (if b then (h, trailing position) else long_or_other s.rules waiting word (long_of word) h).0.rows
        go true f = k
        go false f = flag_word-every s.rules all s.args_override_self waiting word (long_of word) h f k

    word-every : (names : Names) (is_trailing : Bool) (waiting : Waiting) (position : ℕ) (word : Text) (h : Held) →
        word_fault s names is_trailing waiting word h ≡ []
        → Every FitsHere h.rows → Every FitsHere (word_met s.rules names is_trailing waiting position word h).0.rows
    word-every names true waiting position word h e k = k
    word-every names false waiting position word h e k =
        other-every (subcommand_met names waiting word) waiting position word h e k

    to_positional-every : (o : Option Rule) (word : Text) (w : Walk) (h : Held)
        → option_map_or (λ a. positional_fault s.rules s.args_override_self a h) o (stray_fault s) ≡ []
        → Every FitsHere h.rows → Every FitsHere (to_positional s.rules o word w h).held.rows
    to_positional-every None word w h e k = k
    to_positional-every (Some a) word w h e k = positional-every s.rules all s.args_override_self a word h e k

    step-every : (word : Text) (w : Walk) (h : Held) (step : Step) → step_fault s w.position h step ≡ [] →
        Every FitsHere h.rows
        → Every FitsHere (after_step s.rules word w h step).held.rows
    step-every word w h (next waiting) e k = k
    step-every word w h (trailing position) e k = k
    step-every word w h (subcommand x) e k = k
    step-every word w h value e k = to_positional-every (arg_by_index s.rules w.position) word w h e k

    turn-every : (names : Names) (w : Walk) (word : Text) → turn_fault s names w word ≡ [] →
        Every FitsHere w.held.rows → Every FitsHere (walked s.rules names w word).held.rows
    unfolding walked
    turn-every names w word e k = go w.stopped e
      where
        met : Held × Step
        met = word_met s.rules names w.is_trailing w.waiting w.position word w.held

        go : (o : Option (Text × List Text)) →
            (if is_some o then [] else or_else (word_fault s names w.is_trailing w.waiting word w.held)
            (step_fault s w.position (word_met s.rules names w.is_trailing w.waiting w.position word w.held).0
            (word_met s.rules names w.is_trailing w.waiting w.position word w.held).1)) ≡ []
            → Every FitsHere (walked_from s.rules names o w word).held.rows
        go (Some p) f = k
        go None f =
            let parts = or_else-nil (word_fault s names w.is_trailing w.waiting word w.held) _ f in
            step-every word w _ _ parts.1 (word-every names w.is_trailing w.waiting w.position word w.held parts.0 k)

    -- after a walk over words without a fault each row of the option fits, where each did before
    pub walk-every : (names : Names) (w : Walk) (words : List Text) → walk_fault s names w words ≡ [] →
        Every FitsHere w.held.rows
        → Every FitsHere (fold (walked s.rules names) w words).held.rows
    unfolding walk_fault
    walk-every names w [] e k = k
    walk-every names w (word ∷ rest) e k =
        let parts = or_else-nil (turn_fault s names w word) _ e in
        walk-every names (walked s.rules names w word) rest parts.1 (turn-every names w word parts.0 k)

  default_rows-elsewhere : (id : Text) (how : Reading) (values : List Text) (rows : List Row) →
      bytes_eq id name ≡ false → Every FitsHere rows
      → Every FitsHere (default_rows id how values rows)
  default_rows-elsewhere id how [] rows ne h = h
  default_rows-elsewhere id how (v ∷ vs) rows ne h = with_values-elsewhere id how DefaultValue (v ∷ vs) rows ne h

  default-every : (a : Rule) → IsTarget a → (rows : List Row) → default_fault rows a ≡ [] → Every FitsHere rows →
      Every FitsHere (with_default rows a)
  default-every a only rows e h = by_name (bytes_eq a.id name) refl
    where
      here : (b : Bool) → (if b || false then [] else given_default_fault target (default ∷ [])) ≡ []
          → Every FitsHere (if b then rows else default_rows name WithoutMinus (default ∷ []) rows)
      here true f = h
      here false f = with_values-here DefaultValue (default ∷ []) rows f (omega arith) h

      there : (b : Bool) → bytes_eq a.id name ≡ false →
          Every FitsHere (if b then rows else default_rows a.id (reading_by a) a.defaults rows)
      there true ne = h
      there false ne = default_rows-elsewhere a.id (reading_by a) a.defaults rows ne h

      by_name : (b : Bool) → bytes_eq a.id name ≡ b → Every FitsHere (with_default rows a)
      by_name true same =
          subst (λ (x : Rule). default_fault rows x ≡ [] → Every FitsHere (with_default rows x)) (sym (only same))
          (λ f. here (has_row name rows) f) e
      by_name false ne = there (has_row a.id rows) ne

  -- the same after the rules' defaults, where those are without a fault
  pub defaults-every : (c : List Rule) → Every IsTarget c → (rows : List Row) → defaults_fault rows c ≡ [] →
      Every FitsHere rows → Every FitsHere (fold with_default rows c)
  unfolding defaults_fault
  defaults-every [] all rows e h = h
  defaults-every (a ∷ rest) all rows e h =
      let parts = or_else-nil (default_fault rows a) _ e in
      defaults-every rest all.1 (with_default rows a) parts.1 (default-every a all.0 rows parts.0 h)

  -- the rows keep a row of the option, and its default makes one
  with_values-keeps : (id : Text) (how : Reading) (s : ValueSource) (values : List Text) (rows : List Row) →
      has_row name rows ≡ true
      → has_row name (with_values id how s values rows) ≡ true
  with_values-keeps id how s values [] has = cc
  with_values-keeps id how s values (r ∷ rs) has = go (bytes_eq r.id id) (with_values-keeps id how s values rs)
    where
      go : (b : Bool) → (has_row name rs ≡ true → has_row name (with_values id how s values rs) ≡ true)
          → has_row name (if b then more_values s values r ++ rs else r ∷ with_values id how s values rs) ≡ true
      go true rec = has
      go false rec = or-keeps (bytes_eq r.id name) (has_row name rs) _ rec has

  default_rows-keeps : (id : Text) (how : Reading) (values : List Text) (rows : List Row) → has_row name rows ≡ true
      → has_row name (default_rows id how values rows) ≡ true
  default_rows-keeps id how [] rows has = has
  default_rows-keeps id how (v ∷ vs) rows has = with_values-keeps id how DefaultValue (v ∷ vs) rows has

  with_default-keeps : (a : Rule) (rows : List Row) → has_row name rows ≡ true →
      has_row name (with_default rows a) ≡ true
  with_default-keeps a rows has = go (has_row a.id rows)
    where
      go : (b : Bool) → has_row name (if b then rows else default_rows a.id (reading_by a) a.defaults rows) ≡ true
      go true = has
      go false = default_rows-keeps a.id (reading_by a) a.defaults rows has

  defaults-keep : (c : List Rule) (rows : List Row) → has_row name rows ≡ true →
      has_row name (fold with_default rows c) ≡ true
  defaults-keep [] rows has = has
  defaults-keep (a ∷ rest) rows has = defaults-keep rest (with_default rows a) (with_default-keeps a rows has)

  with_values-makes : (how : Reading) (s : ValueSource) (values : List Text) (rows : List Row) →
      has_row name (with_values name how s values rows) ≡ true
  with_values-makes how s values [] = ap (λ b. b || false) ((bytes_eq-Decides name name).1 refl)
  with_values-makes how s values (r ∷ rs) = go (bytes_eq r.id name) refl (with_values-makes how s values rs)
    where
      go : (b : Bool) → bytes_eq r.id name ≡ b → has_row name (with_values name how s values rs) ≡ true
          → has_row name (if b then more_values s values r ++ rs else r ∷ with_values name how s values rs) ≡ true
      go true e rec = ap (λ b. b || has_row name rs) e
      go false e rec = ap (λ b. b || has_row name (with_values name how s values rs)) e ∙ rec

  default-makes : (rows : List Row) → has_row name (with_default rows target) ≡ true
  default-makes rows = go (has_row name rows) refl
    where
      go : (b : Bool) → has_row name rows ≡ b →
          has_row name (if b then rows else default_rows name WithoutMinus (default ∷ []) rows) ≡ true
      go true e = e
      go false e = with_values-makes WithoutMinus DefaultValue (default ∷ []) rows

  -- the option is one of the rules
  abbrev pub HasTarget : List Rule → Type 0
  HasTarget [] = ⊥
  HasTarget (a ∷ rest) = (a ≡ target) ⊎ HasTarget rest

  defaults-make : (c : List Rule) → HasTarget c → (rows : List Row) → has_row name (fold with_default rows c) ≡ true
  defaults-make [] has rows = absurd has
  defaults-make (a ∷ rest) (inl same) rows =
      defaults-keep rest (with_default rows a)
      (subst (λ (x : Rule). has_row name (with_default rows x) ≡ true) (sym same) (default-makes rows))
  defaults-make (a ∷ rest) (inr has) rows = defaults-make rest has (with_default rows a)

  -- the row of the option is there, and fits
  fitting-row : (rows : List Row) → has_row name rows ≡ true → Every FitsHere rows →
      (r : Row) × (find (λ r. bytes_eq r.id name) rows ≡ Some r) × Fits r
  fitting-row [] has h = cc
  fitting-row (r ∷ rs) has h = go (bytes_eq r.id name) refl has (λ k. fitting-row rs k h.1)
    where
      go : (b : Bool) → bytes_eq r.id name ≡ b → (b || has_row name rs) ≡ true
          → (has_row name rs ≡ true → (x : Row) × (find (λ r. bytes_eq r.id name) rs ≡ Some x) × Fits x)
          → (x : Row) × ((if b then Some r else find (λ r. bytes_eq r.id name) rs) ≡ Some x) × Fits x
      go true e k rec = (r, refl, h.0 e)
      go false e k rec = rec k

  -- a level of a parse in which clap finds no fault leaves rows of which each of the option's fits
  pub level-every : (s : Shape) → Every IsTarget s.rules →
      (names : Names) (words : List Text) (has_subcommand : Bool) (below : Kinds)
      → level_fault s names nothing_held words has_subcommand below ≡ [] →
      Every FitsHere (rows_after s.rules names words)
  level-every s all names words has_subcommand below e =
      let end = (walk s.rules names nothing_held words).held in
      let walked = or_else-nil (walk_fault s names (walk_from nothing_held) words) _ e in
      let entered = or_else-nil below _ walked.1 in
      let settles = or_else-nil (settle_fault s.rules s.args_override_self end) _ entered.1 in
      let defaulted = or_else-nil (defaults_fault (settled s.rules end).rows s.rules) _ settles.1 in
      let after_walk : Every FitsHere end.rows = walk-every s all names (walk_from nothing_held) words walked.0 tt in
      defaults-every s.rules all (settled s.rules end).rows defaulted.0
      (settled-every s.rules all s.args_override_self end settles.0 after_walk)

  -- and it leaves the option a number in its range
  pub level-row : (s : Shape) → Every IsTarget s.rules → HasTarget s.rules →
      (names : Names) (words : List Text) (has_subcommand : Bool) (below : Kinds)
      → level_fault s names nothing_held words has_subcommand below ≡ []
      → (r : Row) × (find (λ r. bytes_eq r.id name) (rows_after s.rules names words) ≡ Some r) × Fits r
  level-row s all has names words has_subcommand below e =
      let end = (walk s.rules names nothing_held words).held in
      fitting-row (rows_after s.rules names words) (defaults-make s.rules has (settled s.rules end).rows)
      (level-every s all names words has_subcommand below e)
