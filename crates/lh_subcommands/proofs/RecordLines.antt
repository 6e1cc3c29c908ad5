-- The lines of records, up to one of them and behind it
use Rattle.std.proofs.Common.{◌≡◌, ◌∙◌, ℕ, zero, suc, ◌+◌, ◌<◌, ◌≤◌, List, [], ◌∷◌, ◌++◌, Option, Some, length, take}
use Rattle.std.proofs.Common.{drop, get_or, sym, ap, subst, arith, append_assoc, append-nil, flat_map}
use Rattle.std.specs.Prelude.{slice_get}
use Rattle.std.specs.List.{range_with_len}
use Rattle.std.proofs.lemmas.List.{take_all}
use Rattle.std.proofs.lemmas.List.FromFn.{length-range_with_len, get_or-range_with_len}
use Rattle.std.proofs.lemmas.Option.{slice_get_within, get_or_from_slice_get, slice_get-get_or}
use Rattle.lh_page.specs.declared.pair.Pair.{Pair}
use Rattle.lh_bucket.specs.Listing.{Lists, list_at, size}
use Rattle.lh_subcommands.specs.Devices.{Sends, TakesBeginning}
use Rattle.lh_subcommands.specs.ImageTexts.{bucket_text, dump_text, record_text}
use Rattle.lh_script.specs.Texts.{line}
use Rattle.lh_script.specs.declared.notation.Notation.{Notation}
use Rattle.lh_subcommands.proofs.ReplyLines.{pieces-split}
use Rattle.lh_subcommands.proofs.Sending.{begins_longer}

-- the texts up to an element, and its own
pieces-more : {X : Type 0} (f : X → List ℕ) (xs : List X) (i : ℕ) (some : X) → i < length xs →
    flat_map f (take (suc i) xs) ≡ flat_map f (take i xs) ++ f (get_or xs i some)
pieces-more f [] i some h = absurd (omega arith)
pieces-more f (x ∷ xs) zero some h = append-nil (f x)
pieces-more f (x ∷ xs) (suc i) some h =
    ap (λ more. f x ++ more) (pieces-more f xs i some (omega arith))
    ∙ sym (append_assoc (f x) (flat_map f (take i xs)) (f (get_or xs i some)))

-- behind what was sent, the texts up to an element and its own, and then those of all
sent-more : {X : Type 0} (f : X → List ℕ) (sent : List ℕ) (xs : List X) (i : ℕ) (some : X) → i < length xs →
    (sent ++ flat_map f (take i xs)) ++ f (get_or xs i some) ≡ sent ++ flat_map f (take (suc i) xs)
sent-more f sent xs i some h =
    append_assoc sent (flat_map f (take i xs)) (f (get_or xs i some))
    ∙ ap (λ more. sent ++ more) (sym (pieces-more f xs i some h))

sent-all : {X : Type 0} (f : X → List ℕ) (sent : List ℕ) (xs : List X) (i : ℕ) (some : X) → i < length xs →
    ((sent ++ flat_map f (take i xs)) ++ f (get_or xs i some)) ++ flat_map f (drop (suc i) xs) ≡ sent ++ flat_map f xs
sent-all f sent xs i some h =
    ap (λ more. more ++ flat_map f (drop (suc i) xs))
    (append_assoc sent (flat_map f (take i xs)) (f (get_or xs i some)))
    ∙ append_assoc sent (flat_map f (take i xs) ++ f (get_or xs i some)) (flat_map f (drop (suc i) xs))
    ∙ ap (λ more. sent ++ more) (sym (pieces-split f xs i some h))

-- the text of an element follows those before it
pub piece_follows : {X : Type 0} (f : X → List ℕ) (before now : Option (List ℕ)) (waiting sent : List ℕ) (xs : List X)
    (i : ℕ) (x : X) →
    slice_get xs i ≡ Some x → Sends before now waiting ((sent ++ flat_map f (take i xs)) ++ f x) →
    Sends before now waiting (sent ++ flat_map f (take (i + 1) xs))
piece_follows {X} f before now waiting sent xs i x at h =
    let same : get_or xs i x ≡ x = get_or_from_slice_get xs i x x at in
    let next : suc i ≡ i + 1 = omega arith in
    subst (Sends before now waiting)
    (ap (λ (y : X). (sent ++ flat_map f (take i xs)) ++ f y) (sym same)
    ∙ sent-more f sent xs i x (slice_get_within xs i x at)
    ∙ ap (λ (n : ℕ). sent ++ flat_map f (take n xs)) next) h

-- a beginning of the texts up to an element is one of all of them
pub piece_begins : {X : Type 0} (f : X → List ℕ) (before now : Option (List ℕ)) (sent : List ℕ) (xs : List X) (i : ℕ)
    (x : X) →
    slice_get xs i ≡ Some x → TakesBeginning before now ((sent ++ flat_map f (take i xs)) ++ f x) →
    TakesBeginning before now (sent ++ flat_map f xs)
piece_begins {X} f before now sent xs i x at h =
    let same : get_or xs i x ≡ x = get_or_from_slice_get xs i x x at in
    subst (TakesBeginning before now)
    (ap (λ (y : X). ((sent ++ flat_map f (take i xs)) ++ f y) ++ flat_map f (drop (suc i) xs)) (sym same)
    ∙ sent-all f sent xs i x (slice_get_within xs i x at))
    (begins_longer before now _ (flat_map f (drop (suc i) xs)) h)

-- the lines of the first records of a bucket
abbrev pub lines_before : Notation → ℕ → List Pair → ℕ → List ℕ
lines_before n bucket pairs place = bucket_text n bucket (take place pairs)

-- the line of a record follows those before it
pub record_follows : (n : Notation) (before now : Option (List ℕ)) (waiting sent : List ℕ) (bucket : ℕ)
    (pairs : List Pair) (i : ℕ)
    (pair : Pair) →
    slice_get pairs i ≡ Some pair →
    Sends before now waiting ((sent ++ lines_before n bucket pairs i) ++ line (record_text n bucket pair)) →
    Sends before now waiting (sent ++ lines_before n bucket pairs (i + 1))
record_follows n before now waiting sent bucket pairs i pair at h =
    piece_follows (λ p. line (record_text n bucket p)) before now waiting sent pairs i pair at h

-- a beginning of a bucket's lines up to a record is one of all lines of the bucket
pub record_begins : (n : Notation) (before now : Option (List ℕ)) (sent : List ℕ) (bucket : ℕ) (pairs : List Pair)
    (i : ℕ)
    (pair : Pair) →
    slice_get pairs i ≡ Some pair →
    TakesBeginning before now ((sent ++ lines_before n bucket pairs i) ++ line (record_text n bucket pair)) →
    TakesBeginning before now (sent ++ bucket_text n bucket pairs)
record_begins n before now sent bucket pairs i pair at h =
    piece_begins (λ p. line (record_text n bucket p)) before now sent pairs i pair at h

-- the texts of the first buckets
abbrev pub texts_before : (ℕ → List ℕ) → Lists → ℕ → List ℕ
texts_before f l n = flat_map f (take n (range_with_len 0 (size l)))

bucket_is : (l : Lists) (i : ℕ) → i < size l → slice_get (range_with_len 0 (size l)) i ≡ Some i
bucket_is l i h =
    let row = range_with_len 0 (size l) in
    let within : i < length row = omega (arith, h, length-range_with_len 0 (size l)) in
    let at = get_or-range_with_len 0 (size l) i 0 h in
    let same : get_or row i 0 ≡ i = omega (arith, at) in
    slice_get-get_or row i 0 within ∙ ap Some same

-- the text of a bucket follows those before it
pub text_follows : (f : ℕ → List ℕ) (before now : Option (List ℕ)) (waiting sent : List ℕ) (l : Lists) (i : ℕ) →
    i < size l → Sends before now waiting ((sent ++ texts_before f l i) ++ f i) →
    Sends before now waiting (sent ++ texts_before f l (i + 1))
text_follows f before now waiting sent l i lt h =
    piece_follows f before now waiting sent (range_with_len 0 (size l)) i i (bucket_is l i lt) h

-- a beginning of the texts up to a bucket is one of those of all
pub text_begins : (f : ℕ → List ℕ) (before now : Option (List ℕ)) (sent : List ℕ) (l : Lists) (i : ℕ) →
    i < size l → TakesBeginning before now ((sent ++ texts_before f l i) ++ f i) →
    TakesBeginning before now (sent ++ flat_map f (range_with_len 0 (size l)))
text_begins f before now sent l i lt h =
    piece_begins f before now sent (range_with_len 0 (size l)) i i (bucket_is l i lt) h

-- the texts of so many buckets are those of all
pub all_texts : (f : ℕ → List ℕ) (l : Lists) (i : ℕ) → size l ≤ i →
    texts_before f l i ≡ flat_map f (range_with_len 0 (size l))
all_texts f l i many =
    let row = range_with_len 0 (size l) in
    let past : length row ≤ i = omega (arith, many, length-range_with_len 0 (size l)) in
    ap (flat_map f) (take_all i row past)

-- the lines of the first buckets
abbrev pub buckets_before : Notation → Lists → ℕ → List ℕ
buckets_before k l n = texts_before (λ i. bucket_text k i (list_at l.lists i)) l n

-- the lines of a bucket follow those before it
pub bucket_follows : (k : Notation) (before now : Option (List ℕ)) (waiting : List ℕ) (l : Lists) (i : ℕ) → i < size l →
    Sends before now waiting (buckets_before k l i ++ bucket_text k i (list_at l.lists i)) →
    Sends before now waiting (buckets_before k l (i + 1))
bucket_follows k before now waiting l i lt h =
    text_follows (λ i. bucket_text k i (list_at l.lists i)) before now waiting [] l i lt h

-- a beginning of the lines up to a bucket is one of all that `dump` writes
pub bucket_begins : (k : Notation) (before now : Option (List ℕ)) (l : Lists) (i : ℕ) → i < size l →
    TakesBeginning before now (buckets_before k l i ++ bucket_text k i (list_at l.lists i)) →
    TakesBeginning before now (dump_text k l)
unfolding dump_text
bucket_begins k before now l i lt h = text_begins (λ i. bucket_text k i (list_at l.lists i)) before now [] l i lt h

-- the lines of all buckets are what `dump` writes
pub all_buckets : (k : Notation) (l : Lists) (i : ℕ) → size l ≤ i → buckets_before k l i ≡ dump_text k l
unfolding dump_text
all_buckets k l i many = all_texts (λ i. bucket_text k i (list_at l.lists i)) l i many
