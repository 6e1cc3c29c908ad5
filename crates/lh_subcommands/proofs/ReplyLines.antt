-- The lines of replies and of entries, up to one of them and behind it.
use Rattle.std.proofs.Common.{◌≡◌, ℕ, zero, suc, ◌<◌, ◌≤◌, List, [], ◌∷◌, ◌++◌, Option, length, take, drop, get_or}
use Rattle.std.proofs.Common.{refl, sym, ap, subst, ◌∙◌, arith, append_assoc, flat_map}
use Rattle.std.proofs.lemmas.List.{take_all}
use Rattle.lh_bucket.specs.declared.call.Reply.{Reply}
use Rattle.lh_core.specs.Log.{Entry}
use Rattle.lh_subcommands.specs.Devices.{TakesBeginning}
use Rattle.lh_script.specs.StepTexts.{entry_text, steps_text}
use Rattle.lh_script.specs.Texts.{line, reply_text, size_text, commands_text}
use Rattle.lh_script.specs.declared.notation.Notation.{Notation}
use Rattle.lh_subcommands.specs.Get.{found_text}
use Rattle.lh_subcommands.proofs.Sending.{begins_longer}

abbrev pub lines_of : {X : Type 0} → (X → List ℕ) → List X → List ℕ
lines_of text xs = flat_map (λ x. line (text x)) xs

-- the texts of all elements are those up to one of them, and those behind it
pub pieces-split : {X : Type 0} (f : X → List ℕ) (xs : List X) (i : ℕ) (some : X) → i < length xs →
    flat_map f xs ≡ (flat_map f (take i xs) ++ f (get_or xs i some)) ++ flat_map f (drop (suc i) xs)
pieces-split f [] i some h = absurd (omega arith)
pieces-split f (x ∷ xs) zero some h = refl
pieces-split f (x ∷ xs) (suc i) some h =
    ap (λ more. f x ++ more) (pieces-split f xs i some (omega arith))
    ∙ (sym (append_assoc (f x) (flat_map f (take i xs) ++ f (get_or xs i some)) (flat_map f (drop (suc i) xs)))
    ∙ ap (λ more. more ++ flat_map f (drop (suc i) xs))
    (sym (append_assoc (f x) (flat_map f (take i xs)) (f (get_or xs i some)))))

lines_of-split : {X : Type 0} (text : X → List ℕ) (xs : List X) (i : ℕ) (some : X) → i < length xs →
    lines_of text xs ≡ (lines_of text (take i xs) ++ line (text (get_or xs i some))) ++ lines_of text (drop (suc i) xs)
lines_of-split text xs i some h = pieces-split (λ x. line (text x)) xs i some h

-- a beginning of the lines up to one of them
begins_lines : {X : Type 0} (text : X → List ℕ) (before now : Option (List ℕ)) (xs : List X) (i : ℕ) (x : X) →
    i < length xs →
    x ≡ get_or xs i x → TakesBeginning before now (lines_of text (take i xs) ++ line (text x)) →
    TakesBeginning before now (lines_of text xs)
begins_lines text before now xs i x h e begins =
    subst (TakesBeginning before now)
    (ap (λ it. (lines_of text (take i xs) ++ line (text it)) ++ lines_of text (drop (suc i) xs)) e
    ∙ sym (lines_of-split text xs i x h))
    (begins_longer before now (lines_of text (take i xs) ++ line (text x)) (lines_of text (drop (suc i) xs)) begins)

abbrev pub reply_lines : Notation → List Reply → List ℕ
reply_lines n = lines_of (reply_text n)

-- a beginning of the lines up to a reply's
pub begins_commands : (n : Notation) (before now : Option (List ℕ)) (replies : List Reply) (i : ℕ) (reply : Reply)
    (buckets : ℕ) → i < length replies →
    reply ≡ get_or replies i reply →
    TakesBeginning before now (reply_lines n (take i replies) ++ line (reply_text n reply)) →
    TakesBeginning before now (commands_text n replies buckets)
unfolding commands_text
begins_commands n before now replies i reply buckets h e begins =
    begins_longer before now (reply_lines n replies) (line (size_text buckets))
    (begins_lines (reply_text n) before now replies i reply h e begins)

-- the lines of all replies, and the size's
pub commands_text-all : (n : Notation) (replies : List Reply) (i buckets : ℕ) → length replies ≤ i →
    reply_lines n (take i replies) ++ line (size_text buckets) ≡ commands_text n replies buckets
unfolding commands_text
commands_text-all n replies i buckets h =
    ap (λ all. reply_lines n all ++ line (size_text buckets)) (take_all i replies h)

-- a beginning of the lines up to that of a reply to a look-up
pub begins_found : (n : Notation) (before now : Option (List ℕ)) (replies : List Reply) (i : ℕ) (reply : Reply) →
    i < length replies →
    reply ≡ get_or replies i reply →
    TakesBeginning before now (reply_lines n (take i replies) ++ line (reply_text n reply)) →
    TakesBeginning before now (found_text n replies)
unfolding found_text
begins_found n before now replies i reply h e begins = begins_lines (reply_text n) before now replies i reply h e begins

-- the lines of all replies to look-ups
pub found_text-all : (n : Notation) (replies : List Reply) (i : ℕ) → length replies ≤ i →
    reply_lines n (take i replies) ≡ found_text n replies
unfolding found_text
found_text-all n replies i h = ap (reply_lines n) (take_all i replies h)

abbrev pub entry_lines : Notation → List Entry → List ℕ
entry_lines n = lines_of (entry_text n)

-- a beginning of the lines up to an entry's
pub begins_steps : (n : Notation) (before now : Option (List ℕ)) (entries : List Entry) (i : ℕ) (entry : Entry) →
    i < length entries →
    entry ≡ get_or entries i entry →
    TakesBeginning before now (entry_lines n (take i entries) ++ line (entry_text n entry)) →
    TakesBeginning before now (steps_text n entries)
unfolding steps_text
begins_steps n before now entries i entry h e begins = begins_lines (entry_text n) before now entries i entry h e begins

-- the lines of all entries
pub steps_text-all : (n : Notation) (entries : List Entry) (i : ℕ) → length entries ≤ i →
    entry_lines n (take i entries) ≡ steps_text n entries
unfolding steps_text
steps_text-all n entries i h = ap (entry_lines n) (take_all i entries h)
