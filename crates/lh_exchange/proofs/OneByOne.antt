-- Bodies and headers, without a bound on their records and lines.
use Rattle.std.proofs.Common.{◌≡◌, ◌==◌, ℕ, ◌+◌, ◌<◌, zero, suc, Bool, true, false, cond, List, [], ◌∷◌, ◌++◌, Option}
use Rattle.std.proofs.Common.{None, Some, length, refl, ap, sym, ◌∙◌, arith, length-append}
use Rattle.std.specs.Prelude.{Result, Ok, Err, codes}
use Rattle.lh_page.specs.declared.pair.Pair.{Pair}
use Rattle.lh_exchange.specs.Cdb.{next_cdb}
use Rattle.lh_exchange.specs.DbHeader.{Body, header_cut, header_from, header_line, header_said, whole_header}
use Rattle.lh_exchange.specs.DbRecords.{next_db, with_line, with_value_line}
use Rattle.lh_exchange.specs.DbTexts.{line_key, line_value}
use Rattle.lh_exchange.specs.Exchanged.{RecordsOrFault, stream_records, next_record, onto_records, records_from}
use Rattle.lh_exchange.specs.Exchanged.{records_then}
use Rattle.lh_exchange.specs.StreamLines.{is_line, onto_line, whole_line}
use Rattle.lh_exchange.specs.StreamParts.{Next, at_end, read_then}
use Rattle.lh_exchange.specs.StreamTexts.{cdb_text}
use Rattle.lh_exchange.specs.declared.fault.ExchangeFault.{ExchangeFault}
use Rattle.lh_exchange.specs.declared.fault.StreamFault.{StreamFault}
use Rattle.lh_exchange.specs.declared.fault.StreamFault.TheVariants.{NoEnd}
use Rattle.lh_exchange.specs.declared.format.StreamFormat.TheVariants as format
use Rattle.lh_exchange.specs.declared.header.HeaderLine.{HeaderLine}
use Rattle.lh_exchange.specs.declared.header.HeaderLine.TheVariants.{GoesOn, HeaderEnd}
use Rattle.lh_exchange.specs.declared.layout.Layout.{Layout}
use Rattle.lh_exchange.specs.declared.layout.Layout.TheVariants.{Bytevalue, Cdb, Print}
use Rattle.lh_exchange.proofs.BodyRecords.{one_record}
use Rattle.lh_exchange.proofs.BodyTexts.{no_record_is_empty}
use Rattle.lh_exchange.proofs.CdbTexts.{cdb_exact, no_record_at_end}
use Rattle.lh_exchange.proofs.HeaderLines.{one_line}

-- what stands behind a line is shorter

abbrev Cut : Type 0
Cut = List ℕ × List ℕ

longer_front : (o : Option Cut) (c : ℕ) (cs : List ℕ) (cut : Cut) →
    ((inner : Cut) → o ≡ Some inner → length inner.1 < length cs) → onto_line c o ≡ Some cut →
    length cut.1 < suc (length cs)
longer_front None c cs cut ih h = absurd (let bad : ◌≡◌ {A = Option Cut} None (Some cut) = h in cc)
longer_front (Some inner) c cs cut ih h =
    let same : ◌≡◌ {A = Cut} (c ∷ inner.0, inner.1) cut = cc in
    let rest : inner.1 ≡ cut.1 = ap (λ (x : Cut). x.1) same in
    omega (arith, ih inner refl, ap (length {A = ℕ}) rest)

by_lf : (b : Bool) (c : ℕ) (cs : List ℕ) (cut : Cut) →
    ((inner : Cut) → whole_line cs ≡ Some inner → length inner.1 < length cs) →
    ◌≡◌ {A = Option Cut} (cond b (Some ([], cs)) (onto_line c (whole_line cs))) (Some cut) →
    length cut.1 < suc (length cs)
by_lf true c cs cut ih h =
    let same : ◌≡◌ {A = Cut} ([], cs) cut = cc in
    let rest : cs ≡ cut.1 = ap (λ (x : Cut). x.1) same in
    omega (arith, ap (length {A = ℕ}) rest)
by_lf false c cs cut ih h = longer_front (whole_line cs) c cs cut ih h

line_shorter : (bytes : List ℕ) (cut : Cut) → whole_line bytes ≡ Some cut → length cut.1 < length bytes
unfolding whole_line
line_shorter [] cut h = absurd (let bad : ◌≡◌ {A = Option Cut} None (Some cut) = h in cc)
line_shorter (c ∷ cs) cut h = by_lf (c == 10) c cs cut (λ inner k. line_shorter cs inner k) h

-- what stands behind a record is shorter

abbrev Taken : Type 0
Taken = Pair × List ℕ

cdb_shorter : (bytes : List ℕ) (x : Taken) → next_cdb bytes ≡ Ok (Some x) → length x.1 < length bytes
cdb_shorter bytes x h =
    let text : bytes ≡ cdb_text x.0 ++ x.1 = cdb_exact bytes x.0 x.1 h in
    omega (
      arith,
      ap (length {A = ℕ}) text,
      length-append (cdb_text x.0) x.1,
      no_record_is_empty format.Cdb x.0,
    )

value_shorter : (r : Result (List ℕ) StreamFault) (key behind : List ℕ) (x : Taken) →
    ◌≡◌ {A = Next} (read_then r (λ value. Ok (Some (record { key = key; value = value }, behind)))) (Ok (Some x)) →
    behind ≡ x.1
value_shorter (Err fault) key behind x h = absurd (let bad : ◌≡◌ {A = Next} (Err fault) (Ok (Some x)) = h in cc)
value_shorter (Ok value) key behind x h =
    let same : ◌≡◌ {A = Taken} (record { key = key; value = value }, behind) x = cc in ap (λ (y : Taken). y.1) same

second_line : (o : Option Cut) (layout : Layout) (key bytes : List ℕ) (x : Taken) → whole_line bytes ≡ o →
    ◌≡◌ {A = Next}
    (with_line (λ line behind. read_then (line_value layout line) (λ value.
    Ok (Some (record { key = key; value = value }, behind)))) o) (Ok (Some x)) → length x.1 < length bytes
second_line None layout key bytes x e h = absurd (let bad : ◌≡◌ {A = Next} (Err NoEnd) (Ok (Some x)) = h in cc)
second_line (Some cut) layout key bytes x e h =
    let rest = value_shorter (line_value layout cut.0) key cut.1 x h in
    omega (arith, line_shorter bytes cut e, ap (length {A = ℕ}) rest)

by_key : (r : Result (List ℕ) StreamFault) (layout : Layout) (bytes : List ℕ) (x : Taken) →
    ◌≡◌ {A = Next} (read_then r (λ key. with_value_line layout key bytes)) (Ok (Some x)) → length x.1 < length bytes
by_key (Err fault) layout bytes x h = absurd (let bad : ◌≡◌ {A = Next} (Err fault) (Ok (Some x)) = h in cc)
by_key (Ok key) layout bytes x h = second_line (whole_line bytes) layout key bytes x refl h

by_end : (b : Bool) (r : Result (List ℕ) StreamFault) (layout : Layout) (bytes : List ℕ) (x : Taken) →
    ◌≡◌ {A = Next} (cond b (at_end bytes) (read_then r (λ key. with_value_line layout key bytes))) (Ok (Some x)) →
    length x.1 < length bytes
by_end true r layout bytes x h = absurd (no_record_at_end bytes x.0 x.1 h)
by_end false r layout bytes x h = by_key r layout bytes x h

first_line : (o : Option Cut) (layout : Layout) (bytes : List ℕ) (x : Taken) → whole_line bytes ≡ o →
    ◌≡◌ {A = Next}
    (with_line (λ line behind.
    cond (is_line line (codes "DATA=END")) (at_end behind)
    (read_then (line_key layout line) (λ key. with_value_line layout key behind))) o) (Ok (Some x)) →
    length x.1 < length bytes
first_line None layout bytes x e h = absurd (let bad : ◌≡◌ {A = Next} (Err NoEnd) (Ok (Some x)) = h in cc)
first_line (Some cut) layout bytes x e h =
    omega (
      arith,
      line_shorter bytes cut e,
      by_end (is_line cut.0 (codes "DATA=END")) (line_key layout cut.0) layout cut.1 x h,
    )

db_shorter : (layout : Layout) (bytes : List ℕ) (x : Taken) → next_db layout bytes ≡ Ok (Some x) →
    length x.1 < length bytes
unfolding next_db
db_shorter layout bytes x h = first_line (whole_line bytes) layout bytes x refl h

next_shorter : (layout : Layout) (bytes : List ℕ) (x : Taken) → next_record layout bytes ≡ Ok (Some x) →
    length x.1 < length bytes
next_shorter Cdb bytes x h = cdb_shorter bytes x h
next_shorter Bytevalue bytes x h = db_shorter Bytevalue bytes x h
next_shorter Print bytes x h = db_shorter Print bytes x h

-- two ways to read what stands behind the next record that agree on all that is shorter
same_behind : (next : Next) (first : Option ℕ) (before : ℕ) (bytes : List ℕ) (go other : List ℕ → RecordsOrFault) →
    ((x : Taken) → next ≡ Ok (Some x) → length x.1 < length bytes) →
    ((behind : List ℕ) → length behind < length bytes → go behind ≡ other behind) →
    records_then first before next go ≡ records_then first before next other
same_behind (Err fault) first before bytes go other shorter h = refl
same_behind (Ok None) first before bytes go other shorter h = refl
same_behind (Ok (Some x)) first before bytes go other shorter h = ap (onto_records x.0) (h x.1 (shorter x refl))

enough_records : (layout : Layout) (first : Option ℕ) (most other before : ℕ) (bytes : List ℕ) →
    length bytes < most → length bytes < other →
    records_from layout first most before bytes ≡ records_from layout first other before bytes
enough_records layout first zero other before bytes lt k = absurd (omega arith)
enough_records layout first (suc most) zero before bytes lt k = absurd (omega arith)
enough_records layout first (suc most) (suc other) before bytes lt k =
    one_record layout first (suc most) most before bytes refl
    ∙ (same_behind (next_record layout bytes) first before bytes
    (λ behind. records_from layout first most (before + 1) behind)
    (λ behind. records_from layout first other (before + 1) behind) (λ x e. next_shorter layout bytes x e)
    (λ behind s. enough_records layout first most other (before + 1) behind (omega arith) (omega arith))
    ∙ sym (one_record layout first (suc other) other before bytes refl))

-- the records of some bytes are the next one and those of what stands behind it
pub one_by_one : (layout : Layout) (first : Option ℕ) (before : ℕ) (bytes : List ℕ) →
    stream_records layout first before bytes
    ≡ records_then first before (next_record layout bytes) (λ behind. stream_records layout first (before + 1) behind)
one_by_one layout first before bytes =
    one_record layout first (suc (length bytes)) (length bytes) before bytes refl
    ∙ same_behind (next_record layout bytes) first before bytes
    (λ behind. records_from layout first (length bytes) (before + 1) behind)
    (λ behind. stream_records layout first (before + 1) behind) (λ x e. next_shorter layout bytes x e)
    (λ behind s. enough_records layout first (length bytes) (suc (length behind)) (before + 1) behind s (omega arith))

-- the same of headers

abbrev Going : Type 0
Going = Option Layout → List ℕ → Result Body ExchangeFault

same_said : (said : Result HeaderLine StreamFault) (named : Option Layout) (n : ℕ) (behind : List ℕ)
    (go other : Going) →
    ((layout : Option Layout) → go layout behind ≡ other layout behind) →
    header_said said named n behind go ≡ header_said said named n behind other
same_said (Err fault) named n behind go other h = refl
same_said (Ok HeaderEnd) named n behind go other h = refl
same_said (Ok (GoesOn layout)) named n behind go other h = h layout

same_cut : (o : Option Cut) (named : Option Layout) (n : ℕ) (bytes : List ℕ) (go other : Going) →
    whole_line bytes ≡ o →
    ((layout : Option Layout) (behind : List ℕ) → length behind < length bytes →
    go layout behind ≡ other layout behind) →
    header_cut o named n go ≡ header_cut o named n other
same_cut None named n bytes go other e h = refl
same_cut (Some cut) named n bytes go other e h =
    same_said (header_line named cut.0) named n cut.1 go other (λ layout. h layout cut.1 (line_shorter bytes cut e))

enough_lines : (most other : ℕ) (named : Option Layout) (n : ℕ) (bytes : List ℕ) → length bytes < most →
    length bytes < other → header_from most named n bytes ≡ header_from other named n bytes
enough_lines zero other named n bytes lt k = absurd (omega arith)
enough_lines (suc most) zero named n bytes lt k = absurd (omega arith)
enough_lines (suc most) (suc other) named n bytes lt k =
    one_line (suc most) most named n bytes refl
    ∙ (same_cut (whole_line bytes) named n bytes (λ layout behind. header_from most layout (n + 1) behind)
    (λ layout behind. header_from other layout (n + 1) behind) refl
    (λ layout behind s. enough_lines most other layout (n + 1) behind (omega arith) (omega arith))
    ∙ sym (one_line (suc other) other named n bytes refl))

-- a header is its next line and the header behind that
pub line_by_line : (named : Option Layout) (n : ℕ) (bytes : List ℕ) →
    whole_header named n bytes
    ≡ header_cut (whole_line bytes) named n (λ layout behind. whole_header layout (n + 1) behind)
line_by_line named n bytes =
    one_line (suc (length bytes)) (length bytes) named n bytes refl
    ∙ same_cut (whole_line bytes) named n bytes (λ layout behind. header_from (length bytes) layout (n + 1) behind)
    (λ layout behind. whole_header layout (n + 1) behind) refl
    (λ layout behind s. enough_lines (length bytes) (suc (length behind)) layout (n + 1) behind s (omega arith))
