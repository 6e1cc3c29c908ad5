-- A conversation, as bytes come
use Rattle.std.proofs.Common.{◌≡◌, ℕ, Bool, false, ◌||◌, List, [], ◌∷◌, ◌++◌, Option, refl, ap, sym, subst, ◌∙◌}
use Rattle.std.proofs.Common.{append_assoc, append-nil, None, take, drop, length, ◌-◌, arith}
use Rattle.std.specs.List.{list_any}
use Rattle.std.specs.Prelude.{Result}
use Rattle.std.proofs.lemmas.Grind.{common_steps}
use Rattle.std.proofs.lemmas.List.Folds.{list_any-append}
use Rattle.lh_bucket.specs.Listing.{Lists}
use Rattle.lh_core.specs.World.{WorldSeen}
use Rattle.lh_script.specs.Lines.{is_lf}
use Rattle.lh_script.specs.Texts.{line}
use Rattle.lh_serving.specs.Answers.{AnswersLine, FileSeen, HoldsFile, asked_by}
use Rattle.lh_serving.specs.Conversations.{Beginning, ConversationSeen, IsAt, answers_of, file_after, turn_lines}
use Rattle.lh_serving.specs.Parts.{kept}
use Rattle.lh_serving.specs.Texts.{image_text, answer_line}
use Rattle.lh_script.specs.declared.notation.Notation.{Notation}
use Rattle.lh_script.specs.declared.requests.ClientRequest.{ClientRequest}
use Rattle.lh_serving.specs.declared.answer.LineAnswer.{LineAnswer}
use Rattle.lh_serving.specs.declared.answer.Fault.{Fault}

abbrev pub talk_of : Notation → Bool → WorldSeen → ℕ → Bool → Option (List ℕ) → List ℕ → Option Lists → ConversationSeen
talk_of k t w n b p waiting image =
    record { notation = k; shown = t; world = w; records = n; missed = b; part = p; waiting = waiting; image = image }

none_of_two : (b c : Bool) → b ≡ false → c ≡ false → (b || c) ≡ false
none_of_two b c e f = rw (e, f) refl

no_lf : (xs ys : List ℕ) → list_any is_lf xs ≡ false → list_any is_lf ys ≡ false → list_any is_lf (xs ++ ys) ≡ false
no_lf xs ys e f = list_any-append is_lf xs ys ∙ none_of_two (list_any is_lf xs) (list_any is_lf ys) e f

-- a part of a line has come
pub came : (start : Beginning) (k : Notation) (t : Bool) (w : WorldSeen) (n : ℕ) (b : Bool) (p q : Option (List ℕ))
    (waiting : List ℕ)
    (image : Option Lists)
    (heard answers more : List ℕ) →
    IsAt start (talk_of k t w n b p waiting image) heard answers →
    ((l : List ℕ) → p ≡ kept l → q ≡ kept (l ++ more)) → list_any is_lf more ≡ false →
    IsAt start (talk_of k t w n b q waiting image) (heard ++ more) answers
came start k t w n b p q waiting image heard answers more h f e = record {
  turns = h.turns;
  rest = h.rest ++ more;
  each = h.each;
  whole = ap (λ x. x ++ more) h.whole ∙ append_assoc (turn_lines h.turns) h.rest more;
  incomplete = no_lf h.rest more h.incomplete e;
  same = h.same;
  part = f h.rest h.part;
  file = h.file;
  same_notation = h.same_notation;
  same_shown = h.same_shown;
}

ended : (before rest said : List ℕ) → (before ++ rest) ++ line said ≡ (before ++ line (rest ++ said)) ++ []
ended before rest said =
    append_assoc before rest (line said) ∙ ap (λ x. before ++ x) (sym (append_assoc rest said (10 ∷ [])))
    ∙ sym (append-nil (before ++ line (rest ++ said)))

-- what is said waits behind what waited
behind : (answers waiting text image : List ℕ) →
    answers ++ ((waiting ++ text) ++ image) ≡ (answers ++ (waiting ++ [])) ++ (text ++ image)
behind answers waiting text image =
    ap (λ y. answers ++ y) (append_assoc waiting text image) ∙ sym (append_assoc answers waiting (text ++ image))
    ∙ ap (λ y. (answers ++ y) ++ (text ++ image)) (sym (append-nil waiting))

-- a line has come to its end, and is answered
pub answered : (start : Beginning) (k : Notation) (t : Bool) (w x : WorldSeen) (n m : ℕ) (b d : Bool)
    (p q r : Option (List ℕ))
    (waiting new heard answers said : List ℕ) (old image : Option Lists)
    (o : Result (Option ClientRequest) Fault) (a : Option LineAnswer) → old ≡ None →
    IsAt start (talk_of k t w n b p waiting old) heard answers →
    ((l : List ℕ) → p ≡ kept l → q ≡ kept (l ++ said)) → list_any is_lf said ≡ false →
    o ≡ asked_by k t q →
    ((spoken : Notation) (file : FileSeen) → HoldsFile w n b file →
    (next : FileSeen) × AnswersLine spoken file o (answer_line spoken a ++ image_text image) next
    × HoldsFile x m d next) →
    r ≡ kept [] → new ≡ waiting ++ answer_line k a →
    IsAt start (talk_of k t x m d r new image) (heard ++ line said) answers
answered start k t w x n m b d p q r waiting new heard answers said old image o a none h f e eo serve er en =
    let spoken : Notation = start.notation in
    let served : (next : FileSeen)
    × AnswersLine spoken (file_after start.file h.turns) o (answer_line spoken a ++ image_text image) next
    × HoldsFile x m d next =
    serve spoken (file_after start.file h.turns) h.file in
    let whole : o ≡ asked_by spoken start.shown (kept (h.rest ++ said)) =
    eo ∙ (ap (λ n. asked_by n t q) h.same_notation ∙ ap (λ u. asked_by spoken u q) h.same_shown
    ∙ ap (asked_by spoken start.shown) (f h.rest h.part)) in
    let was : answers ++ (waiting ++ []) ≡ answers_of h.turns =
    subst (λ (i : Option Lists). answers ++ (waiting ++ image_text i) ≡ answers_of h.turns) none h.same in
    record {
      turns = record { said = h.rest ++ said; answer = answer_line spoken a ++ image_text image; file = served.0 } ∷
          h.turns;
      rest = [];
      each = (
        h.each,
        no_lf h.rest said h.incomplete e,
        subst (λ z. AnswersLine spoken (file_after start.file h.turns) z
            (answer_line spoken a ++ image_text image) served.0)
            whole served.1,
      );
      whole = ap (λ y. y ++ line said) h.whole ∙ ended (turn_lines h.turns) h.rest said;
      incomplete = refl;
      same =
          ap (λ y. answers ++ (y ++ image_text image)) (en ∙ ap (λ n. waiting ++ answer_line n a) h.same_notation)
          ∙ behind answers waiting (answer_line spoken a) (image_text image)
          ∙ ap (λ y. y ++ (answer_line spoken a ++ image_text image)) was;
      part = er;
      file = served.2;
      same_notation = h.same_notation;
      same_shown = h.same_shown;
    }

-- nothing is left behind all bytes
pub nothing_behind : (xs : List ℕ) → xs ≡ xs ++ take (length xs - length xs) (drop (length xs) xs)
nothing_behind xs = grind (arith, common_steps)
