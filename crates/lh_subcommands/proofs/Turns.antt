-- The texts of a drawing, up to one of them and behind it.
use Rattle.std.proofs.Common.{◌≡◌, ◌∙◌, true, false, if◌then◌else◌, ℕ, zero, suc, ◌+◌, ◌<◌, ◌≤◌, List, [], ◌++◌, Option}
use Rattle.std.proofs.Common.{sym, ap, subst, inl, inr, arith, append_assoc, append-nil}
use Rattle.std.proofs.Math.Numerals.{add-one}
use Rattle.std.proofs.lemmas.Bool.{cases_lt}
use Rattle.lh_bucket.specs.Listing.{Lists, size}
use Rattle.lh_draw.specs.Columns.{column_count, is_detailed}
use Rattle.lh_subcommands.specs.Devices.{Sends, TakesBeginning}
use Rattle.lh_draw.specs.Drawing.{chain_text, columns_text, group_bar, in_turn}
use Rattle.lh_draw.specs.DrawingTexts.{bar_text}
use Rattle.lh_subcommands.proofs.Sending.{begins_longer}

-- one text more
in_turn-more : (text : ℕ → List ℕ) (n : ℕ) → in_turn text (n + 1) ≡ in_turn text n ++ text n
unfolding in_turn
in_turn-more text n = ap (in_turn text) (add-one n)

-- the texts up to a number, and those behind it
in_turn-rest : (text : ℕ → List ℕ) (n i : ℕ) → i ≤ n → (rest : List ℕ) × (in_turn text n ≡ in_turn text i ++ rest)
unfolding in_turn
in_turn-rest text zero i low =
    let none : zero ≡ i = omega (arith, low) in ([], ap (in_turn text) none ∙ sym (append-nil (in_turn text i)))
in_turn-rest text (suc n) i low = elim (cases_lt n i) [
  | inl above ↦
      let same : suc n ≡ i = omega (arith, low, above) in
      ([], ap (in_turn text) same ∙ sym (append-nil (in_turn text i)))
  | inr within ↦
      let before = in_turn-rest text n i (omega (arith, within)) in (
        before.0 ++ text n,
        ap (λ (some : List ℕ). some ++ text n) before.1
            ∙ append_assoc (in_turn text i) before.0 (text n),
      )
]

-- nothing was sent of some texts
pub turn_begins : (before now : Option (List ℕ)) (waiting sent : List ℕ) (text : ℕ → List ℕ) →
    Sends before now waiting sent → Sends before now waiting (sent ++ in_turn text 0)
unfolding in_turn
turn_begins before now waiting sent text h = subst (Sends before now waiting) (sym (append-nil sent)) h

-- a text more was sent
pub turn_goes_on : (before now : Option (List ℕ)) (waiting sent : List ℕ) (text : ℕ → List ℕ) (i : ℕ) (some : List ℕ) →
    some ≡ text i →
    Sends before now waiting ((sent ++ in_turn text i) ++ some) →
    Sends before now waiting (sent ++ in_turn text (i + 1))
turn_goes_on before now waiting sent text i some is h =
    subst (Sends before now waiting)
    (append_assoc sent (in_turn text i) some
    ∙ ap (λ (more : List ℕ). sent ++ (in_turn text i ++ more)) is
    ∙ ap (λ (more : List ℕ). sent ++ more) (sym (in_turn-more text i))) h

-- all texts were sent
pub turn_ends : (before now : Option (List ℕ)) (waiting sent : List ℕ) (text : ℕ → List ℕ) (n i : ℕ) → i ≡ n →
    Sends before now waiting (sent ++ in_turn text i) → Sends before now waiting (sent ++ in_turn text n)
turn_ends before now waiting sent text n i same h =
    subst (λ (m : ℕ). Sends before now waiting (sent ++ in_turn text m)) same h

-- a beginning of the texts was taken
pub turn_stops : (before now : Option (List ℕ)) (sent : List ℕ) (text : ℕ → List ℕ) (n i : ℕ) (some : List ℕ) → i < n →
    some ≡ text i →
    TakesBeginning before now ((sent ++ in_turn text i) ++ some) → TakesBeginning before now (sent ++ in_turn text n)
turn_stops before now sent text n i some low is h =
    let rest = in_turn-rest text n (i + 1) (omega (arith, low)) in
    subst (TakesBeginning before now)
    (append_assoc (sent ++ in_turn text i) some rest.0
    ∙ append_assoc sent (in_turn text i) (some ++ rest.0)
    ∙ ap (λ (more : List ℕ). sent ++ (in_turn text i ++ (more ++ rest.0))) is
    ∙ ap (λ (more : List ℕ). sent ++ more)
    (sym (append_assoc (in_turn text i) (text i) rest.0)
    ∙ ap (λ (more : List ℕ). more ++ rest.0) (sym (in_turn-more text i)) ∙ sym rest.1))
    (begins_longer before now ((sent ++ in_turn text i) ++ some) rest.0 h)

-- a text was sent, and another one behind it
pub part_sent : (before now : Option (List ℕ)) (waiting sent first some more : List ℕ) → some ≡ more →
    Sends before now waiting ((sent ++ first) ++ some) → Sends before now waiting (sent ++ (first ++ more))
part_sent before now waiting sent first some more is h =
    subst (Sends before now waiting) (append_assoc sent first some ∙ ap (λ (text : List ℕ). sent ++ (first ++ text)) is)
    h

-- a beginning of a text and of another one behind it was taken
pub part_stopped : (before now : Option (List ℕ)) (sent first some more : List ℕ) → some ≡ more →
    TakesBeginning before now ((sent ++ first) ++ some) → TakesBeginning before now (sent ++ (first ++ more))
part_stopped before now sent first some more is h =
    subst (TakesBeginning before now)
    (append_assoc sent first some ∙ ap (λ (text : List ℕ). sent ++ (first ++ text)) is) h

-- and another one was to follow
pub stops_longer : (before now : Option (List ℕ)) (sent first more : List ℕ) →
    TakesBeginning before now (sent ++ first) → TakesBeginning before now (sent ++ (first ++ more))
stops_longer before now sent first more h =
    subst (TakesBeginning before now) (append_assoc sent first more) (begins_longer before now (sent ++ first) more h)

-- a text was sent
pub text_sent : (before now : Option (List ℕ)) (waiting sent some more : List ℕ) → some ≡ more →
    Sends before now waiting (sent ++ some) → Sends before now waiting (sent ++ more)
text_sent before now waiting sent some more is h =
    subst (λ (text : List ℕ). Sends before now waiting (sent ++ text)) is h

-- a beginning of a text was taken
pub text_stopped : (before now : Option (List ℕ)) (sent some more : List ℕ) → some ≡ more →
    TakesBeginning before now (sent ++ some) → TakesBeginning before now (sent ++ more)
text_stopped before now sent some more is h = subst (λ (text : List ℕ). TakesBeginning before now (sent ++ text)) is h

-- the columns of few buckets, and of many
pub columns_of_few : (l : Lists) → is_detailed (size l) ≡ true → in_turn (chain_text l) (size l) ≡ columns_text l
unfolding columns_text
columns_of_few l few =
    ap
    (λ b.
    if b then in_turn (chain_text l) (size l)
    else in_turn (λ column. bar_text (group_bar l column)) (column_count (size l))) (sym few)

-- the columns of many buckets are the bars of their groups in turn
pub columns_of_many : (l : Lists) → is_detailed (size l) ≡ false →
    in_turn (λ column. bar_text (group_bar l column)) (column_count (size l)) ≡ columns_text l
unfolding columns_text
columns_of_many l many =
    ap
    (λ b.
    if b then in_turn (chain_text l) (size l)
    else in_turn (λ column. bar_text (group_bar l column)) (column_count (size l))) (sym many)
