-- Where clap finds no fault, the walk over the words does not stop at `help`
use Rattle.std.proofs.Common.{◌≡◌, ◌&&◌, not, Bool, true, false, ℕ, refl, List, [], ◌∷◌, Option, Some, None, is_some}
use Rattle.std.proofs.Common.{codes, if◌then◌else◌}
use Rattle.std.specs.Prelude.{fold}
use Rattle.std.specs.Str.{bytes_eq}
use Rattle.clap.specs.Lexer.{long_of, short_of}
use Rattle.clap.specs.Walk.{Held, Names, Outcome, Rule, Step, Text, Waiting, Walk, done, waits, plain, refused, next}
use Rattle.clap.specs.Walk.{trailing, subcommand, value, idle, option, positional}
use Rattle.clap.specs.Walk.{after_flag, after_step, arg_by_index, arg_by_long, bundle, long_met, long_or_other}
use Rattle.clap.specs.Walk.{plain_word, short_or_plain, subcommand_met, subcommand_or_other, to_positional, walked}
use Rattle.clap.specs.Walk.{walked_from, word_met}
use Rattle.clap.specs.Simple.{Shape}
use Rattle.clap.specs.Kinds.{or_else}
use Rattle.clap.specs.Faults.{other_fault, step_fault, turn_fault, walk_fault, word_fault}
use Rattle.clap.specs.declared.error.kind.ErrorKind.TheVariants as kind
use Rattle.lh_options.proofs.RowLemmas.{or_else-nil}

-- the walk did not stop at `help`
abbrev pub StopsElsewhere : Option (Text × List Text) → Type 0
StopsElsewhere None = Unit {0}
StopsElsewhere (Some p) = bytes_eq p.0 (codes "help") ≡ false

-- the word is no call of `help`
abbrev IsElsewhere : Step → Type 0
IsElsewhere (subcommand name) = bytes_eq name (codes "help") ≡ false
IsElsewhere _ = Unit {0}

plain_word-elsewhere : (c : List Rule) (waiting : Waiting) (word : Text) (h : Held) →
    IsElsewhere (plain_word c waiting word h).1
plain_word-elsewhere c idle word h = tt
plain_word-elsewhere c (option id) word h = tt
plain_word-elsewhere c positional word h = tt

after_flag-elsewhere : (c : List Rule) (waiting : Waiting) (word : Text) (h : Held) (o : Outcome) →
    IsElsewhere (after_flag c waiting word h o).1
after_flag-elsewhere c waiting word h done = tt
after_flag-elsewhere c waiting word h (waits id) = tt
after_flag-elsewhere c waiting word h plain = plain_word-elsewhere c waiting word h
after_flag-elsewhere c waiting word h refused = plain_word-elsewhere c waiting word h

short-elsewhere : (c : List Rule) (waiting : Waiting) (word : Text) (o : Option Text) (h : Held) →
    IsElsewhere (short_or_plain c waiting word o h).1
short-elsewhere c waiting word (Some flags) h =
    after_flag-elsewhere c waiting word (bundle c flags h).0 (bundle c flags h).1
short-elsewhere c waiting word None h = plain_word-elsewhere c waiting word h

long-elsewhere : (c : List Rule) (waiting : Waiting) (word : Text) (o : Option (Text × Option Text)) (h : Held) →
    IsElsewhere (long_or_other c waiting word o h).1
long-elsewhere c waiting word (Some p) h =
    after_flag-elsewhere c waiting word (long_met c (arg_by_long c p.0) p.1 h).0
    (long_met c (arg_by_long c p.0) p.1 h).1
long-elsewhere c waiting word None h = short-elsewhere c waiting word (short_of word) h

module _ (s : Shape) (has_help : s.disable_help_subcommand ≡ false) where
  no-help : (name : Text) →
      (if bytes_eq name (codes "help") && not s.disable_help_subcommand
      then kind.DisplayHelp ∷ kind.InvalidSubcommand ∷ [] else []) ≡ []
      → bytes_eq name (codes "help") ≡ false
  no-help name e = go (bytes_eq name (codes "help")) (rw has_help at e)
    where
      go : (b : Bool) → (if b && true then kind.DisplayHelp ∷ kind.InvalidSubcommand ∷ [] else []) ≡ [] → b ≡ false
      go true f = cc
      go false f = refl

  other-elsewhere : (o : Option Text) (waiting : Waiting) (position : ℕ) (word : Text) (h : Held) →
      other_fault s o word h ≡ []
      → IsElsewhere (subcommand_or_other s.rules o waiting position word h).1
  other-elsewhere (Some name) waiting position word h e = no-help name e
  other-elsewhere None waiting position word h e = go (bytes_eq word (45 ∷ 45 ∷ []))
    where
      go : (b : Bool) →
          IsElsewhere (if b then (h, trailing position) else long_or_other s.rules waiting word (long_of word) h).1
      go true = tt
      go false = long-elsewhere s.rules waiting word (long_of word) h

  word-elsewhere : (names : Names) (is_trailing : Bool) (waiting : Waiting) (position : ℕ) (word : Text) (h : Held) →
      word_fault s names is_trailing waiting word h ≡ []
      → IsElsewhere (word_met s.rules names is_trailing waiting position word h).1
  word-elsewhere names true waiting position word h e = tt
  word-elsewhere names false waiting position word h e =
      other-elsewhere (subcommand_met names waiting word) waiting position word h e

  to_positional-stops : (o : Option Rule) (word : Text) (w : Walk) (h : Held) → StopsElsewhere w.stopped →
      StopsElsewhere (to_positional s.rules o word w h).stopped
  to_positional-stops None word w h k = k
  to_positional-stops (Some a) word w h k = tt

  step-stops : (word : Text) (w : Walk) (h : Held) (step : Step) → IsElsewhere step → StopsElsewhere w.stopped →
      StopsElsewhere (after_step s.rules word w h step).stopped
  step-stops word w h (next waiting) e k = k
  step-stops word w h (trailing position) e k = k
  step-stops word w h (subcommand name) e k = e
  step-stops word w h value e k = to_positional-stops (arg_by_index s.rules w.position) word w h k

  turn-stops : (names : Names) (w : Walk) (word : Text) → turn_fault s names w word ≡ [] → StopsElsewhere w.stopped →
      StopsElsewhere (walked s.rules names w word).stopped
  unfolding walked
  turn-stops names w word e k = go w.stopped e k
    where
      go : (o : Option (Text × List Text)) →
          (if is_some o then [] else or_else (word_fault s names w.is_trailing w.waiting word w.held)
          (step_fault s w.position (word_met s.rules names w.is_trailing w.waiting w.position word w.held).0
          (word_met s.rules names w.is_trailing w.waiting w.position word w.held).1)) ≡ []
          → StopsElsewhere o → StopsElsewhere (walked_from s.rules names o w word).stopped
      go (Some p) f j = j
      go None f j =
          let parts = or_else-nil (word_fault s names w.is_trailing w.waiting word w.held) _ f in
          step-stops word w _ _ (word-elsewhere names w.is_trailing w.waiting w.position word w.held parts.0) k

  -- a walk over words without a fault does not stop at `help`, where it had not before
  pub walk-stops : (names : Names) (w : Walk) (words : List Text) → walk_fault s names w words ≡ [] →
      StopsElsewhere w.stopped
      → StopsElsewhere (fold (walked s.rules names) w words).stopped
  unfolding walk_fault
  walk-stops names w [] e k = k
  walk-stops names w (word ∷ rest) e k =
      let parts = or_else-nil (turn_fault s names w word) _ e in
      walk-stops names (walked s.rules names w word) rest parts.1 (turn-stops names w word parts.0 k)
