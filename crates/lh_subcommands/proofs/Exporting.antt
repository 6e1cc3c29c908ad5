-- Records on their way to another store
use Rattle.std.proofs.Common.{◌≡◌, ◌∙◌, ℕ, ◌≤◌, List, [], ◌∷◌, ◌++◌, Option, refl, sym, ap, append_assoc, flat_map}
use Rattle.std.proofs.Common.{subst}
use Rattle.std.specs.List.{range_with_len}
use Rattle.std.proofs.lemmas.Grind.{flat_map-append}
use Rattle.lh_bucket.specs.Listing.{Lists, list_at, size}
use Rattle.lh_exchange.specs.StreamTexts.{leading_text, pair_text, closing_text}
use Rattle.lh_exchange.specs.declared.format.StreamFormat.{StreamFormat}
use Rattle.lh_subcommands.specs.Devices.{TakesBeginning}
use Rattle.lh_subcommands.specs.Exporting.{exported_text}
use Rattle.lh_subcommands.proofs.RecordLines.{all_texts, texts_before}
use Rattle.lh_subcommands.proofs.Sending.{begins_longer}

-- texts of all elements of lists
flat_map-flat_map : {X Y A : Type 0} (f : Y → List A) (g : X → List Y) (xs : List X) →
    flat_map f (flat_map g xs) ≡ flat_map (λ x. flat_map f (g x)) xs
flat_map-flat_map f g [] = refl
flat_map-flat_map f g (x ∷ xs) =
    flat_map-append f (g x) (flat_map g xs) ∙ ap (λ more. flat_map f (g x) ++ more) (flat_map-flat_map f g xs)

-- the records of a bucket in a format
abbrev pub chain_stream : StreamFormat → Lists → ℕ → List ℕ
chain_stream format l i = flat_map (pair_text format) (list_at l.lists i)

-- what stands in front of the records, the records bucket by bucket, and what stands behind them
pub stream_parts : (format : StreamFormat) (l : Lists) →
    exported_text format l
    ≡ (leading_text format ++ flat_map (chain_stream format l) (range_with_len 0 (size l))) ++ closing_text format
unfolding exported_text
stream_parts format l =
    let all = range_with_len 0 (size l) in
    ap (λ more. leading_text format ++ (more ++ closing_text format))
    (flat_map-flat_map (pair_text format) (list_at l.lists) all)
    ∙ sym (append_assoc (leading_text format) (flat_map (chain_stream format l) all) (closing_text format))

-- the texts of so many buckets between what stands in front of the records and the end are the whole stream
pub stream_whole : (format : StreamFormat) (l : Lists) (i : ℕ) (end : List ℕ) → size l ≤ i →
    end ≡ closing_text format →
    (leading_text format ++ texts_before (chain_stream format l) l i) ++ end ≡ exported_text format l
stream_whole format l i end past is =
    ap (λ (e : List ℕ). (leading_text format ++ texts_before (chain_stream format l) l i) ++ e) is
    ∙ ap (λ (all : List ℕ). (leading_text format ++ all) ++ closing_text format)
    (all_texts (chain_stream format l) l i past)
    ∙ sym (stream_parts format l)

-- a beginning of what stands in front of the records is one of the stream
pub begins_head : (format : StreamFormat) (l : Lists) (before now : Option (List ℕ)) →
    TakesBeginning before now (leading_text format) → TakesBeginning before now (exported_text format l)
begins_head format l before now h =
    let records = flat_map (chain_stream format l) (range_with_len 0 (size l)) in
    subst (TakesBeginning before now) (sym (stream_parts format l))
    (begins_longer before now _ (closing_text format) (begins_longer before now _ records h))

-- so is one of that and all records
pub begins_records : (format : StreamFormat) (l : Lists) (before now : Option (List ℕ)) →
    TakesBeginning before now (leading_text format ++ flat_map (chain_stream format l) (range_with_len 0 (size l))) →
    TakesBeginning before now (exported_text format l)
begins_records format l before now h =
    subst (TakesBeginning before now) (sym (stream_parts format l))
    (begins_longer before now _ (closing_text format) h)
