-- A part of a list of records, one record on.
use Rattle.std.proofs.Common.{◌≡◌, ℕ, ◌+◌, ◌<◌, Bool, true, false, cond, List, [], ◌∷◌, ◌++◌, length, take, get_or}
use Rattle.std.proofs.Common.{append-nil, sym, ap, ◌∙◌}
use Rattle.std.specs.List.{filter}
use Rattle.std.proofs.lemmas.List.Elements.{filter_more}
use Rattle.lh_page.specs.declared.pair.Pair.{Pair}
use Rattle.lh_page.specs.Records.{no_pair}

-- where the next record passes the test, it comes last in the part
pub filter_taken : (test : Pair → Bool) (xs : List Pair) (i : ℕ) (part new : List Pair) → i < length xs →
    part ≡ filter test (take i xs) → test (get_or xs i no_pair) ≡ true →
    new ≡ part ++ get_or xs i no_pair ∷ [] → new ≡ filter test (take (i + 1) xs)
filter_taken test xs i part new below is passes more =
    let x = get_or xs i no_pair in
    more
    ∙ (ap (λ list. list ++ x ∷ []) is
    ∙ sym
    (filter_more test xs i no_pair below ∙ ap (λ b. filter test (take i xs) ++ cond b (x ∷ []) []) passes))

-- where it fails the test, the part stays as it is
pub filter_left : (test : Pair → Bool) (xs : List Pair) (i : ℕ) (part : List Pair) → i < length xs →
    part ≡ filter test (take i xs) → test (get_or xs i no_pair) ≡ false → part ≡ filter test (take (i + 1) xs)
filter_left test xs i part below is fails =
    let x = get_or xs i no_pair in
    is
    ∙ (sym (append-nil (filter test (take i xs)))
    ∙ sym (filter_more test xs i no_pair below ∙ ap (λ b. filter test (take i xs) ++ cond b (x ∷ []) []) fails))
