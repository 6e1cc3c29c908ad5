-- The lines of a client that asks for calls alone, as a command script
use Rattle.std.proofs.Common.{◌≡◌, ◌∙◌, refl, sym, ap, ap₂, ℕ, ◌≤◌, ◌+◌, ◌==◌, ◌&&◌, Bool, true, false, cond, List, []}
use Rattle.std.proofs.Common.{◌∷◌, ◌++◌, Option, None, Some, append_assoc, append-nil, length, arith}
use Rattle.std.specs.Prelude.{Result, Ok, Err, codes, flat_map, nat_lt, option_to_list}
use Rattle.std.specs.List.{list_any}
use Rattle.std.specs.FinMap.{empty}
use Rattle.std.proofs.lemmas.Bool.{or_parts}
use Rattle.std.proofs.lemmas.Bool.Decides.{nat_tests}
use Rattle.lh_bucket.specs.PlainMap.{replies}
use Rattle.lh_bucket.specs.declared.call.Call.{Call}
use Rattle.lh_bucket.specs.declared.call.Reply.{Reply}
use Rattle.lh_core.specs.Serial.{size_from}
use Rattle.lh_script.specs.Commands.{call_alone, command}
use Rattle.lh_script.specs.Lines.{begins_with_lf, is_comment, is_lf, is_word, lines, onto, without_last_cr, words}
use Rattle.lh_script.specs.Operands.{◌>>=◌}
use Rattle.lh_script.specs.Requests.{if_alone, request, request_of}
use Rattle.lh_script.specs.Scripts.{from_line, script}
use Rattle.lh_script.specs.Texts.{commands_text, line, reply_text, size_text}
use Rattle.lh_script.specs.declared.fault.LineFault.{LineFault}
use Rattle.lh_script.specs.declared.notation.Notation.{Notation}
use Rattle.lh_script.specs.declared.requests.ClientRequest.{ClientRequest}
use Rattle.lh_script.specs.declared.requests.ClientRequest.TheVariants as ask
use Rattle.lh_serving.specs.Answers.{AnswersLine, AnswersCall, FileSeen, asked_by, in_line}
use Rattle.lh_serving.specs.Answers.{unless_shown}
use Rattle.lh_serving.specs.Conversations.{AreTurns, Beginning, Turn, answers_of, file_after, turn_lines}
use Rattle.lh_serving.specs.Parts.{kept, longest_line}
use Rattle.lh_serving.specs.Texts.{answer_line}
use Rattle.lh_serving.specs.declared.answer.LineAnswer.{LineAnswer}
use Rattle.lh_serving.specs.declared.answer.LineAnswer.TheVariants as answer
use Rattle.lh_serving.specs.declared.answer.Fault.{Fault}
use Rattle.lh_serving.specs.declared.answer.Fault.TheVariants as fault
use Rattle.lh_subcommands.specs.Run.{commands_due, due, replies_text}
use Rattle.lh_subcommands.specs.ServeLaws.{AreCalled, IsCalled, SameRepliesLaw}

-- a line at the front of a text is the first of its lines
lf_next : (b : Bool) (c : ℕ) (rest : List (List ℕ)) →
    cond (b && true) ([] ∷ rest) (onto c ([] ∷ rest)) ≡ cond b [] (c ∷ []) ∷ rest
lf_next true c rest = refl
lf_next false c rest = refl

no_cr : (b : Bool) (x y : List (List ℕ)) → cond (b && false) x y ≡ y
no_cr true x y = refl
no_cr false x y = refl

lines_plain : (c : ℕ) (cs : List ℕ) → is_lf c ≡ false →
    lines (c ∷ cs) ≡ cond ((c == 13) && begins_with_lf cs) (lines cs) (onto c (lines cs))
unfolding lines
lines_plain c cs h = rw h refl

line_first : (said zs : List ℕ) → list_any is_lf said ≡ false →
    lines (line said ++ zs) ≡ without_last_cr said ∷ lines zs
unfolding lines is_lf
line_first [] zs h = refl
line_first (c ∷ []) zs h = lines_plain c (10 ∷ zs) (or_parts (is_lf c) false h).0 ∙ lf_next (c == 13) c (lines zs)
line_first (c ∷ d ∷ cs) zs h =
    let both = or_parts (is_lf c) (list_any is_lf (d ∷ cs)) h in
    let next = or_parts (is_lf d) (list_any is_lf cs) both.1 in
    let text : List ℕ = line (d ∷ cs) ++ zs in
    lines_plain c text both.0 ∙ ap (λ b. cond ((c == 13) && b) (lines text) (onto c (lines text))) next.0
    ∙ no_cr (c == 13) (lines text) (onto c (lines text)) ∙ ap (onto c) (line_first (d ∷ cs) zs both.1)

-- the call that a line asks for
abbrev called : Result (Option ClientRequest) Fault → Option Call
called (Ok (Some (ask.Call call))) = Some call
called _ = None

-- a word that is a request of its own, and no call, is none of the lines that the law speaks of
alone : (k : Notation) (t : Bool) (asked : ClientRequest) (rest : List (List ℕ)) (said : List ℕ) →
    (IsCalled k (unless_shown asked t) said → ⊥) →
    IsCalled k (in_line t (if_alone asked rest >>= λ r. Ok (Some r))) said → ⊥
unfolding if_alone
alone k t asked [] said none h = none h
alone k t asked (word ∷ rest) said none h = h

no_image : (k : Notation) (t : Bool) (said : List ℕ) → IsCalled k (unless_shown ask.Image t) said → ⊥
no_image k true said h = h
no_image k false said h = h

-- what a line asks for, by what its first word is, and how the line reads as a call
abbrev asked_as : Bool → Bool → Bool → Bool → List (List ℕ) → Result Call LineFault →
    Result (Option ClientRequest) LineFault
asked_as comment buckets records image rest read =
    cond comment (Ok None) (cond buckets (if_alone ask.Buckets rest) (cond records (if_alone ask.Records rest)
    (cond image (if_alone ask.Image rest) (read >>= λ call. Ok (ask.Call call)))) >>= λ r. Ok (Some r))

reads_as : (k : Notation) (t : Bool) (comment buckets records image : Bool) (rest : List (List ℕ))
    (read : Result Call LineFault)
    (said : List ℕ) →
    IsCalled k (in_line t (asked_as comment buckets records image rest read)) said →
    cond comment (Ok None) (read >>= λ call. Ok (Some call)) ≡
    Ok (called (in_line t (asked_as comment buckets records image rest read)))
reads_as k t true buckets records image rest read said h = refl
reads_as k t false true records image rest read said h = absurd (alone k t ask.Buckets rest said (λ no. no) h)
reads_as k t false false true image rest read said h = absurd (alone k t ask.Records rest said (λ no. no) h)
reads_as k t false false false true rest read said h = absurd (alone k t ask.Image rest said (no_image k t said) h)
reads_as k t false false false false rest (Ok call) said h = refl
reads_as k t false false false false rest (Err f) said h = absurd h

-- a line that asks for a call or nothing is one of a command script
command_reads : (k : Notation) (t : Bool) (ws : List (List ℕ)) (said : List ℕ) →
    IsCalled k (in_line t (request k ws)) said → command k ws ≡ Ok (called (in_line t (request k ws)))
unfolding command request request_of
command_reads k t [] said h = refl
command_reads k t (word ∷ rest) said h =
    reads_as k t (is_comment word) (is_word word (codes "buckets")) (is_word word (codes "records"))
    (is_word word (codes "image")) rest (call_alone k word rest) said h

line_reads : (k : Notation) (t b : Bool) (text said : List ℕ) →
    IsCalled k (asked_by k t (cond b None (Some text))) said →
    command k (words (without_last_cr text)) ≡ Ok (called (asked_by k t (cond b None (Some text))))
line_reads k t true text said h = absurd h
line_reads k t false text said h = command_reads k t (words (without_last_cr text)) said h

-- the calls of turns, and those behind them
abbrev calls_onto : Notation → Bool → List Turn → List Call → List Call
calls_onto k t [] calls = calls
calls_onto k t (turn ∷ turns) calls =
    calls_onto k t turns (option_to_list (called (asked_by k t (kept turn.said))) ++ calls)

-- the lines of turns are a script of their calls
calls_read : (start : Beginning) (turns : List Turn) (rest : List ℕ) (calls : List Call) → AreTurns start turns →
    AreCalled start.notation start.shown turns →
    ((n : ℕ) → from_line (command start.notation) n (lines rest) ≡ Ok calls) → (n : ℕ) →
    from_line (command start.notation) n (lines (turn_lines turns ++ rest))
    ≡ Ok (calls_onto start.notation start.shown turns calls)
unfolding from_line
calls_read start [] rest calls h are behind n = behind n
calls_read start (turn ∷ turns) rest calls h are behind n =
    ap (λ text. from_line (command start.notation) n (lines text))
    (append_assoc (turn_lines turns) (line turn.said) rest)
    ∙ calls_read start turns (line turn.said ++ rest)
    (option_to_list (called (asked_by start.notation start.shown (kept turn.said))) ++ calls)
    h.0 are.0
    (λ m. ap (from_line (command start.notation) m) (line_first turn.said rest h.1)
    ∙ rw (
      line_reads start.notation start.shown
          (nat_lt longest_line (length turn.said)) turn.said turn.answer are.1,
      behind (m + 1),
    ) refl) n

-- the replies to calls, each a line
abbrev reply_lines : Notation → List Reply → List ℕ
reply_lines k given = flat_map (λ reply. line (reply_text k reply)) given

-- the answer to a line is the reply to its call, if it has one, before those to the calls that follow
answer_first : (k : Notation) (file next : FileSeen) (asked : Result (Option ClientRequest) Fault) (said : List ℕ)
    (calls : List Call) → IsCalled k asked said → AnswersLine k file asked said next →
    said ++ reply_lines k (replies next.map calls) ≡
    reply_lines k (replies file.map (option_to_list (called asked) ++ calls))
answer_first k file next (Ok None) said calls is h =
    ap₂ (λ (x : List ℕ) (f : FileSeen). x ++ reply_lines k (replies f.map calls)) h.0 h.1
answer_first k file next (Ok (Some (ask.Call call))) said calls is (a, text, h) = of_call a is text h
  where
    of_call : (a : LineAnswer) → IsCalled k (Ok (Some (ask.Call call))) said → said ≡ answer_line k (Some a) →
        AnswersCall file call a next →
        said ++ reply_lines k (replies next.map calls) ≡ reply_lines k (replies file.map (call ∷ calls))
    of_call (answer.Reply given) is text h =
        ap₂ (λ x m. x ++ reply_lines k (replies m calls)) (text ∙ ap (λ r. line (reply_text k r)) h.0) h.1.map
    of_call (answer.Fault fault.Memory) is text h = absurd (is text)
    of_call _ is text h = absurd h
answer_first k file next _ said calls is h = absurd is

-- the answers of turns are the replies to their calls
calls_answered : (start : Beginning) (turns : List Turn) (calls : List Call) → AreTurns start turns →
    AreCalled start.notation start.shown turns →
    answers_of turns ++ reply_lines start.notation (replies (file_after start.file turns).map calls) ≡
    reply_lines start.notation (replies start.file.map (calls_onto start.notation start.shown turns calls))
calls_answered start [] calls h are = refl
calls_answered start (turn ∷ turns) calls h are =
    append_assoc (answers_of turns) turn.answer (reply_lines start.notation (replies turn.file.map calls))
    ∙ ap (λ x. answers_of turns ++ x)
    (answer_first start.notation (file_after start.file turns) turn.file
    (asked_by start.notation start.shown (kept turn.said))
    turn.answer calls are.1 h.2)
    ∙ calls_answered start turns (option_to_list
    (called (asked_by start.notation start.shown (kept turn.said))) ++ calls) h.0
    are.0

-- a text that isn't too long is a script by its lines
script_of : (k : Notation) (text : List ℕ) (calls : List Call) → length text ≤ 16777216 →
    from_line (command k) 1 (lines text) ≡ Ok calls →
    script (command k) text ≡ Ok calls
script_of k text calls short is = grind (arith, nat_tests)

no_line : (k : Notation) (rest : List ℕ) → rest ≡ [] → (n : ℕ) → from_line (command k) n (lines rest) ≡ Ok []
unfolding from_line lines
no_line k rest none n = ap (λ text. from_line (command k) n (lines text)) none

-- `commands` has the answers written that `serve` gave from an empty file on, and then the number of buckets
pub same_replies : SameRepliesLaw
unfolding commands_due commands_text
same_replies k t settings input answers h rest are short =
    let calls : List Call = calls_onto k t h.turns [] in
    let read : script (command k) input ≡ Ok calls =
    script_of k input calls short
    (ap (λ text. from_line (command k) 1 (lines text)) h.whole
    ∙ calls_read _ h.turns h.rest [] h.each are (no_line k h.rest rest) 1) in
    let same : reply_lines k (replies empty calls) ≡ answers =
    sym (calls_answered _ h.turns [] h.each are) ∙ append-nil (answers_of h.turns) ∙ sym h.same in (
      calls,
      read,
      ap (due (replies_text k settings empty settings.initial)) read
          ∙ ap (λ x. Ok (x ++ line (size_text (size_from settings empty settings.initial calls)))) same,
    )
