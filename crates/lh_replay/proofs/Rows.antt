-- The rows up to the step that ends a box or an arrow.
use Rattle.std.proofs.Common.{◌≡◌, ◌∙◌, ℕ, ◌+◌, ◌<◌, ◌≤◌, Bool, true, false, if◌then◌else◌, List, ◌∷◌, length, drop}
use Rattle.std.proofs.Common.{get_or, ap, sym, arith}
use Rattle.std.proofs.Math.ListN.{drop_of_length-le}
use Rattle.std.proofs.lemmas.List.{drop_more}
use Rattle.lh_core.specs.declared.event.Event.{Event}
use Rattle.lh_core.specs.Log.{Entry}
use Rattle.lh_replay.specs.Lanes.{ends_at, rows_until}

-- the step of a row, and what is below it
row_next : (is_lock : Bool) (lane row : ℕ) (events : List Event) (entries : List Entry) (event : Event)
    (entry : Entry) →
    row < length events → length entries ≡ length events → event ≡ get_or events row event →
    entry ≡ get_or entries row entry →
    rows_until is_lock lane (drop row events) (drop row entries)
    ≡
    (if ends_at is_lock lane event entry then 1
    else rows_until is_lock lane (drop (row + 1) events) (drop (row + 1) entries) + 1)
unfolding rows_until
row_next is_lock lane row events entries event entry h same event_is entry_is =
    let first : drop row events ≡ event ∷ drop (row + 1) events =
    drop_more events row event h ∙ ap (λ (e : Event). e ∷ drop (row + 1) events) (sym event_is) in
    let told : drop row entries ≡ entry ∷ drop (row + 1) entries =
    drop_more entries row entry (omega (arith, h, same))
    ∙ ap (λ (e : Entry). e ∷ drop (row + 1) entries) (sym entry_is) in
    λ i. rows_until is_lock lane (first i) (told i)

-- it is the step that is sought
pub row_stops : (is_lock : Bool) (lane row : ℕ) (events : List Event) (entries : List Entry) (event : Event)
    (entry : Entry) →
    row < length events → length entries ≡ length events → event ≡ get_or events row event →
    entry ≡ get_or entries row entry →
    ends_at is_lock lane event entry ≡ true → rows_until is_lock lane (drop row events) (drop row entries) ≡ 1
row_stops is_lock lane row events entries event entry h same event_is entry_is ends =
    row_next is_lock lane row events entries event entry h same event_is entry_is
    ∙ ap (λ b. if b then 1 else rows_until is_lock lane (drop (row + 1) events) (drop (row + 1) entries) + 1) ends

-- it is another
pub row_passes : (is_lock : Bool) (lane row : ℕ) (events : List Event) (entries : List Entry) (event : Event)
    (entry : Entry) →
    row < length events → length entries ≡ length events → event ≡ get_or events row event →
    entry ≡ get_or entries row entry →
    ends_at is_lock lane event entry ≡ false →
    rows_until is_lock lane (drop row events) (drop row entries) ≡
    rows_until is_lock lane (drop (row + 1) events) (drop (row + 1) entries) + 1
row_passes is_lock lane row events entries event entry h same event_is entry_is ends =
    row_next is_lock lane row events entries event entry h same event_is entry_is
    ∙ ap (λ b. if b then 1 else rows_until is_lock lane (drop (row + 1) events) (drop (row + 1) entries) + 1) ends

-- there is none any more
pub rows_end : (is_lock : Bool) (lane row : ℕ) (events : List Event) (entries : List Entry) → length events ≤ row →
    rows_until is_lock lane (drop row events) (drop row entries) ≡ 0
unfolding rows_until
rows_end is_lock lane row events entries h =
    ap (λ (rest : List Event). rows_until is_lock lane rest (drop row entries)) (drop_of_length-le events h)
