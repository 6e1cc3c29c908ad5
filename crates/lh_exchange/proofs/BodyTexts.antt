-- Streams, written and read.
use Rattle.std.proofs.Common.{◌≡◌, ℕ, ◌+◌, ◌<◌, ◌≤◌, zero, suc, Bool, true, false, List, [], ◌∷◌, ◌++◌}
use Rattle.std.proofs.Common.{Option, None, Some, length, flat_map, refl, ap, sym, ◌∙◌, arith, append_assoc}
use Rattle.std.proofs.Common.{length-append}
use Rattle.std.specs.Prelude.{Ok, Err}
use Rattle.std.specs.List.{All}
use Rattle.std.proofs.lemmas.List.Elements.{All-head, All-tail}
use Rattle.lh_page.specs.declared.pair.Pair.{Pair}
use Rattle.lh_exchange.specs.Cdb.{next_cdb}
use Rattle.lh_exchange.specs.DbHeader.{header_from, header_line}
use Rattle.lh_exchange.specs.Exchanged.{RecordsOrFault, begins_as_cdb, body_of, next_record, onto_records, record_fault}
use Rattle.lh_exchange.specs.Exchanged.{records_from}
use Rattle.lh_exchange.specs.Exchanged.{records_in, records_of_body, records_then}
use Rattle.lh_exchange.specs.ExchangeLaws.{IsExchanged}
use Rattle.lh_exchange.specs.StreamLines.{whole_line}
use Rattle.lh_exchange.specs.StreamParts.{Next}
use Rattle.lh_exchange.specs.StreamTexts.{body_text, cdb_text, db_text, leading_text, pair_text, stream_text}
use Rattle.lh_exchange.specs.StreamTexts.{closing_text}
use Rattle.lh_exchange.specs.declared.fault.StreamFault.TheVariants.{NoEnd}
use Rattle.lh_exchange.specs.declared.format.StreamFormat.{StreamFormat}
use Rattle.lh_exchange.specs.declared.format.StreamFormat.TheVariants as format
use Rattle.lh_exchange.specs.declared.layout.Layout.{Layout}
use Rattle.lh_exchange.specs.declared.layout.Layout.TheVariants as layout
use Rattle.lh_exchange.proofs.BodyRecords.{one_record}
use Rattle.lh_exchange.proofs.CdbTexts.{cdb_ends, cdb_exact, cdb_reads, end_exact}
use Rattle.lh_exchange.proofs.DbLines.{db_ends, db_reads}

-- the records of a body are read, where each of them is and where the end is
abbrev Reads : Layout → StreamFormat → Type 0
Reads layout format =
    (pair : Pair) (behind : List ℕ) → IsExchanged pair →
    next_record layout (pair_text format pair ++ behind) ≡ Ok (Some (pair, behind))

body_reads : (layout : Layout) (format : StreamFormat) (first : Option ℕ) → Reads layout format →
    next_record layout (closing_text format) ≡ Ok None → (pairs : List Pair) (most before : ℕ) → All IsExchanged pairs →
    length pairs < most → records_from layout first most before (body_text format pairs) ≡ Ok pairs
body_reads layout format first reads ends pairs zero before h lt = absurd (omega arith)
body_reads layout format first reads ends [] (suc most) before h lt =
    one_record layout first (suc most) most before (closing_text format) refl
    ∙ ap (λ next. records_then first before next (λ behind. records_from layout first most (before + 1) behind)) ends
body_reads layout format first reads ends (pair ∷ pairs) (suc most) before h lt =
    ap (records_from layout first (suc most) before)
    (append_assoc (pair_text format pair) (flat_map (pair_text format) pairs) (closing_text format))
    ∙ (one_record layout first (suc most) most before (pair_text format pair ++ body_text format pairs) refl
    ∙ (ap (λ next. records_then first before next (λ behind. records_from layout first most (before + 1) behind))
    (reads pair (body_text format pairs) (All-head IsExchanged pair pairs h))
    ∙ ap (onto_records pair)
    (body_reads layout format first reads ends pairs most (before + 1) (All-tail IsExchanged pair pairs h)
    (omega arith))))

-- a record is not written with nothing
pub no_record_is_empty : (format : StreamFormat) (pair : Pair) → 1 ≤ length (pair_text format pair)
unfolding cdb_text db_text
no_record_is_empty format.Cdb pair = omega arith
no_record_is_empty format.Db pair = omega arith

fewer_records : (format : StreamFormat) (pairs : List Pair) → length pairs ≤ length (flat_map (pair_text format) pairs)
fewer_records format [] = omega arith
fewer_records format (pair ∷ pairs) =
    omega (
      arith,
      length-append (pair_text format pair) (flat_map (pair_text format) pairs),
      no_record_is_empty format pair,
      fewer_records format pairs,
    )

-- a body has more bytes than records
enough : (format : StreamFormat) (pairs : List Pair) → length pairs < suc (length (body_text format pairs))
enough format pairs =
    omega (
      arith,
      length-append (flat_map (pair_text format) pairs) (closing_text format),
      fewer_records format pairs,
    )

starts_as_cdb : (pairs : List Pair) → begins_as_cdb (body_text format.Cdb pairs) ≡ true
unfolding cdb_text
starts_as_cdb [] = refl
starts_as_cdb (pair ∷ pairs) = refl

cdb_body : (b : Bool) (bytes : List ℕ) → begins_as_cdb bytes ≡ b → b ≡ true →
    body_of bytes ≡ Ok (layout.Cdb, None, bytes)
unfolding body_of
cdb_body true bytes e h = rw e refl
cdb_body false bytes e h = absurd (let bad : false ≡ true = h in cc)

-- the header that was written is read
db_head : (body : List ℕ) → body_of (leading_text format.Db ++ body) ≡ Ok (layout.Bytevalue, Some 5, body)
unfolding body_of header_from header_line whole_line
db_head body = refl

-- what was written is read
pub stream_reads : (format : StreamFormat) (pairs : List Pair) → All IsExchanged pairs →
    records_in (stream_text format pairs) ≡ Ok pairs
stream_reads format.Cdb pairs h =
    let body = body_text format.Cdb pairs in
    ap records_of_body (cdb_body (begins_as_cdb body) body refl (starts_as_cdb pairs))
    ∙ body_reads layout.Cdb format.Cdb None (λ pair behind k. cdb_reads pair behind k.within) cdb_ends pairs
    (suc (length body)) 0 h (enough format.Cdb pairs)
stream_reads format.Db pairs h =
    let body = body_text format.Db pairs in
    ap records_of_body (db_head body)
    ∙ body_reads layout.Bytevalue format.Db (Some 5) db_reads db_ends pairs (suc (length body)) 0 h
    (enough format.Db pairs)

-- read, and as it was written

behind_end : (pairs : List Pair) → ◌≡◌ {A = RecordsOrFault} (Ok []) (Ok pairs) → pairs ≡ []
behind_end pairs h = let same : ◌≡◌ {A = List Pair} [] pairs = cc in sym same

-- the bytes of a body that was read
abbrev BodyExact : ℕ → ℕ → Type 0
BodyExact most before =
    (bytes : List ℕ) (pairs : List Pair) → records_from layout.Cdb None most before bytes ≡ Ok pairs →
    bytes ≡ body_text format.Cdb pairs

by_rest : (r : RecordsOrFault) (pair : Pair) (bytes behind : List ℕ) (pairs : List Pair) →
    ((others : List Pair) → r ≡ Ok others → behind ≡ body_text format.Cdb others) →
    bytes ≡ cdb_text pair ++ behind → onto_records pair r ≡ Ok pairs → bytes ≡ body_text format.Cdb pairs
by_rest (Err fault) pair bytes behind pairs ih e h =
    absurd (let bad : ◌≡◌ {A = RecordsOrFault} (Err fault) (Ok pairs) = h in cc)
by_rest (Ok others) pair bytes behind pairs ih e h =
    let same : ◌≡◌ {A = List Pair} (pair ∷ others) pairs = cc in
    e
    ∙ (ap (λ rest. cdb_text pair ++ rest) (ih others refl)
    ∙ (sym (append_assoc (cdb_text pair) (flat_map (pair_text format.Cdb) others) (closing_text format.Cdb))
    ∙ ap (body_text format.Cdb) same))

by_next : (next : Next) (most before : ℕ) (bytes : List ℕ) (pairs : List Pair) → next_cdb bytes ≡ next →
    BodyExact most (before + 1) →
    records_then None before next (λ behind. records_from layout.Cdb None most (before + 1) behind) ≡ Ok pairs →
    bytes ≡ body_text format.Cdb pairs
by_next (Err fault) most before bytes pairs e ih h =
    absurd (let bad : ◌≡◌ {A = RecordsOrFault} (Err (record_fault None before fault)) (Ok pairs) = h in
    cc)
by_next (Ok None) most before bytes pairs e ih h = rw (behind_end pairs h) (end_exact bytes e)
by_next (Ok (Some x)) most before bytes pairs e ih h =
    by_rest (records_from layout.Cdb None most (before + 1) x.1) x.0 bytes x.1 pairs (λ others k. ih x.1 others k)
    (cdb_exact bytes x.0 x.1 e) h

body_exact : (most before : ℕ) → BodyExact most before
unfolding records_from
body_exact zero before bytes pairs h =
    absurd (let bad : ◌≡◌ {A = RecordsOrFault} (Err (record_fault None before NoEnd)) (Ok pairs) = h in
    cc)
body_exact (suc most) before bytes pairs h =
    by_next (next_cdb bytes) most before bytes pairs refl (body_exact most (before + 1)) h

-- what is read as cdb is what is written of its records
pub stream_exact : (bytes : List ℕ) (pairs : List Pair) → begins_as_cdb bytes ≡ true → records_in bytes ≡ Ok pairs →
    bytes ≡ stream_text format.Cdb pairs
stream_exact bytes pairs b h =
    body_exact (suc (length bytes)) 0 bytes pairs
    (sym (ap records_of_body (cdb_body (begins_as_cdb bytes) bytes refl b)) ∙ h)
