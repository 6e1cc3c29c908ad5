-- Records of cdb, written and read.
use Rattle.std.proofs.Common.{◌≡◌, ◌==◌, ◌&&◌, ◌||◌, ℕ, ◌+◌, ◌<◌, ◌≤◌, suc, Bool, true, false, cond}
use Rattle.std.proofs.Common.{List, [], ◌∷◌, ◌++◌, None, Some, length, take, drop, get_or, refl, ap, sym, ◌∙◌, arith}
use Rattle.std.proofs.Common.{append_assoc, length-append, drop-cons, add-one, take-append-drop, length-take-le}
use Rattle.std.specs.Prelude.{Ok, Err, codes, nat_lt}
use Rattle.std.specs.Fmt.{decimal}
use Rattle.std.proofs.Math.Seq.{drop-append-add, get_or-append_seam, take-append_seam}
use Rattle.std.proofs.lemmas.Bool.Decides.{nat_tests}
use Rattle.std.proofs.lemmas.Grind.{common_steps}
use Rattle.std.proofs.lemmas.List.{get_or-append-add}
use Rattle.lh_page.specs.Limits.{longest_key, longest_value}
use Rattle.lh_page.specs.Records.{IsRecord}
use Rattle.lh_page.specs.declared.pair.Pair.{Pair}
use Rattle.lh_exchange.specs.Cdb.{as_next, cdb_record, framed_pair, is_framed, length_until, next_cdb, pair_of_lengths}
use Rattle.lh_exchange.specs.StreamParts.{Front, Next, at_end, read_then}
use Rattle.lh_exchange.specs.StreamTexts.{cdb_text}
use Rattle.lh_exchange.specs.declared.fault.StreamFault.TheVariants.{BehindEnd, KeyLength, NoEnd, NotARecord}
use Rattle.lh_exchange.specs.declared.fault.StreamFault.TheVariants.{ValueLength}
use Rattle.lh_exchange.proofs.CdbSteps.{both_lengths}
use Rattle.lh_exchange.proofs.NumberTexts.{length_exact, length_reads}

-- written and read

-- a key and a value in front of their marks, and what stands behind them
abbrev framed : List ℕ → List ℕ → List ℕ → List ℕ
framed key value behind = key ++ (45 ∷ 62 ∷ (value ++ 10 ∷ behind))

-- what is seen of a key and a value in front of their marks
framed_reads : (key value behind : List ℕ) →
    framed_pair (length key) (length value) (framed key value behind)
    ≡ Ok (record { key = key; value = value }, behind)
unfolding framed_pair
framed_reads key value behind =
    let rest = value ++ 10 ∷ behind in
    let long : length (framed key value behind) ≡ length key + suc (suc (length value + suc (length behind))) =
    length-append key (45 ∷ 62 ∷ rest) ∙ ap (λ n. length key + suc (suc n)) (length-append value (10 ∷ behind)) in
    let enough : nat_lt (length (framed key value behind)) (length key + length value + 3) ≡ false =
    grind (arith, nat_tests) in
    let dash : get_or (framed key value behind) (length key) 0 ≡ 45 =
    get_or-append_seam key 45 (62 ∷ rest) 0 in
    let arrow : get_or (framed key value behind) (length key + 1) 0 ≡ 62 =
    get_or-append-add key (45 ∷ 62 ∷ rest) 1 0 in
    let third : length key + 2 + length value ≡ length key + suc (suc (length value)) = omega arith in
    let lf : get_or (framed key value behind) (length key + 2 + length value) 0 ≡ 10 =
    ap (λ n. get_or (framed key value behind) n 0) third
    ∙ (get_or-append-add key (45 ∷ 62 ∷ rest) (suc (suc (length value))) 0 ∙ get_or-append_seam value 10 behind 0) in
    let front : take (length key) (framed key value behind) ≡ key = take-append_seam key (45 ∷ 62 ∷ rest) in
    let second : drop (length key + 2) (framed key value behind) ≡ rest = drop-append-add key (45 ∷ 62 ∷ rest) 2 in
    let text : take (length value) rest ≡ value = take-append_seam value (10 ∷ behind) in
    let all : length key + length value + 3 ≡ length key + suc (suc (length value + 1)) = omega arith in
    let last : drop (length key + length value + 3) (framed key value behind) ≡ behind =
    ap (λ n. drop n (framed key value behind)) all
    ∙ (drop-append-add key (45 ∷ 62 ∷ rest) (suc (suc (length value + 1)))
    ∙ drop-append-add value (10 ∷ behind) 1) in
    rw (enough, dash, arrow, lf, front, second, text, last) refl

within_limits : (pair : Pair) (behind : List ℕ) → IsRecord pair →
    pair_of_lengths (length pair.key) (length pair.value) (framed pair.key pair.value behind) ≡ Ok (pair, behind)
unfolding pair_of_lengths
within_limits pair behind h =
    let some : (length pair.key == 0) ≡ false = grind (arith, nat_tests, h.key) in
    let key : nat_lt 56 (length pair.key) ≡ false = grind (arith, nat_tests, h.key) in
    let value : nat_lt 112 (length pair.value) ≡ false = grind (arith, nat_tests, h.value) in
    rw (some, key, value) (framed_reads pair.key pair.value behind)

regroup : (a b c d e f g h i j : List ℕ) →
    (a ++ (b ++ (c ++ (d ++ (e ++ (f ++ (g ++ (h ++ i)))))))) ++ j
    ≡ a ++ (b ++ (c ++ (d ++ (e ++ (f ++ (g ++ (h ++ (i ++ j))))))))
regroup a b c d e f g h i j = simp append_assoc

-- the text of a record, and what stands behind it
cdb_text_split : (pair : Pair) (behind : List ℕ) →
    cdb_text pair ++ behind
    ≡ 43 ∷ (decimal (length pair.key)
    ++ (44 ∷ (decimal (length pair.value) ++ (58 ∷ framed pair.key pair.value behind))))
unfolding cdb_text
cdb_text_split pair behind =
    regroup (codes "+") (decimal (length pair.key)) (codes ",") (decimal (length pair.value)) (codes ":") pair.key
    (codes "->") pair.value (10 ∷ []) behind

next_of_plus : (bytes : List ℕ) → next_cdb (43 ∷ bytes) ≡ as_next (cdb_record bytes)
unfolding next_cdb
next_of_plus bytes = refl

-- a record that was written is read
pub cdb_reads : (pair : Pair) (behind : List ℕ) → IsRecord pair →
    next_cdb (cdb_text pair ++ behind) ≡ Ok (Some (pair, behind))
cdb_reads pair behind h =
    let value_part = decimal (length pair.value) ++ (58 ∷ framed pair.key pair.value behind) in
    let key = length_reads 44 (length pair.key) value_part refl (omega (arith, h.key)) in
    let value = length_reads 58 (length pair.value) (framed pair.key pair.value behind) refl (omega (arith, h.value)) in
    ap next_cdb (cdb_text_split pair behind)
    ∙ (next_of_plus (decimal (length pair.key) ++ (44 ∷ value_part))
    ∙ ap as_next
    (both_lengths (decimal (length pair.key) ++ (44 ∷ value_part)) value_part (framed pair.key pair.value behind)
    (length pair.key) (length pair.value) key value
    ∙ within_limits pair behind h))

-- the end that was written is read
pub cdb_ends : next_cdb (10 ∷ []) ≡ Ok None
unfolding next_cdb
cdb_ends = refl

-- read, and as it was written

-- what a key and a value that were read are, and how their text stands
record Framed (key value : ℕ) (bytes : List ℕ) (pair : Pair) (behind : List ℕ) : Type 0 where
  key_long : length pair.key ≡ key
  value_long : length pair.value ≡ value
  text : bytes ≡ framed pair.key pair.value behind

at_place : (xs : List ℕ) (i : ℕ) → i < length xs → drop i xs ≡ get_or xs i 0 ∷ drop (i + 1) xs
at_place xs i lt = rw (add-one, drop-cons xs i 0) refl

drop_twice : (xs : List ℕ) (m n : ℕ) → drop n (drop m xs) ≡ drop (m + n) xs
drop_twice xs m n = grind (arith, common_steps)

parts : (key value : ℕ) (bytes : List ℕ) → key + value + 3 ≤ length bytes → get_or bytes key 0 ≡ 45 →
    get_or bytes (key + 1) 0 ≡ 62 → get_or bytes (key + 2 + value) 0 ≡ 10 →
    bytes ≡ framed (take key bytes) (take value (drop (key + 2) bytes)) (drop (key + value + 3) bytes)
parts key value bytes le dash arrow lf =
    let two : key + 1 + 1 ≡ key + 2 = omega arith in
    let three : key + 2 + value + 1 ≡ key + value + 3 = omega arith in
    let a : drop key bytes ≡ 45 ∷ drop (key + 1) bytes =
    at_place bytes key (omega arith) ∙ ap (λ c. c ∷ drop (key + 1) bytes) dash in
    let b : drop (key + 1) bytes ≡ 62 ∷ drop (key + 2) bytes =
    at_place bytes (key + 1) (omega arith)
    ∙ (ap (λ c. c ∷ drop (key + 1 + 1) bytes) arrow ∙ ap (λ n. 62 ∷ drop n bytes) two) in
    let d : drop (key + 2 + value) bytes ≡ 10 ∷ drop (key + value + 3) bytes =
    at_place bytes (key + 2 + value) (omega arith)
    ∙ (ap (λ c. c ∷ drop (key + 2 + value + 1) bytes) lf ∙ ap (λ n. 10 ∷ drop n bytes) three) in
    let e : drop (key + 2) bytes ≡ take value (drop (key + 2) bytes) ++ 10 ∷ drop (key + value + 3) bytes =
    sym (take-append-drop value (drop (key + 2) bytes))
    ∙ ap (λ xs. take value (drop (key + 2) bytes) ++ xs) (drop_twice bytes (key + 2) value ∙ d) in
    sym (take-append-drop key bytes)
    ∙ ap (λ xs. take key bytes ++ xs) (a ∙ ap (λ xs. 45 ∷ xs) (b ∙ ap (λ xs. 62 ∷ xs) e))

both_true : (a b d : Bool) → (a && (b && d)) ≡ true → (a ≡ true) × (b ≡ true) × (d ≡ true)
both_true true true true e = (refl, refl, refl)
both_true true true false e = absurd (let bad : false ≡ true = e in cc)
both_true true false d e = absurd (let bad : false ≡ true = e in cc)
both_true false b d e = absurd (let bad : false ≡ true = e in cc)

same_parts : (key value : ℕ) (bytes : List ℕ) (pair made : Pair) (behind rest : List ℕ) →
    Framed key value bytes made rest → ◌≡◌ {A = Front Pair} (Ok (made, rest)) (Ok (pair, behind)) →
    Framed key value bytes pair behind
same_parts key value bytes pair made behind rest h e =
    let same : ◌≡◌ {A = Pair × List ℕ} (made, rest) (pair, behind) = cc in
    let one : made ≡ pair = ap (λ (p : Pair × List ℕ). p.0) same in
    let two : rest ≡ behind = ap (λ (p : Pair × List ℕ). p.1) same in
    rw (← one, ← two) h

by_frame : (a b : Bool) (key value : ℕ) (bytes : List ℕ) (pair : Pair) (behind : List ℕ) →
    nat_lt (length bytes) (key + value + 3) ≡ a → is_framed key value bytes ≡ b →
    ◌≡◌ {A = Front Pair}
    (cond a (Err NoEnd)
    (cond b
    (Ok (record { key = take key bytes; value = take value (drop (key + 2) bytes) }, drop (key + value + 3) bytes))
    (Err NotARecord))) (Ok (pair, behind)) →
    Framed key value bytes pair behind
by_frame true b key value bytes pair behind e f h =
    absurd (let bad : ◌≡◌ {A = Front Pair} (Err NoEnd) (Ok (pair, behind)) = h in cc)
by_frame false false key value bytes pair behind e f h =
    absurd (let bad : ◌≡◌ {A = Front Pair} (Err NotARecord) (Ok (pair, behind)) = h in cc)
by_frame false true key value bytes pair behind e f h =
    let long : key + value + 3 ≤ length bytes = grind (arith, nat_tests) in
    let t = both_true (get_or bytes key 0 == 45) (get_or bytes (key + 1) 0 == 62)
    (get_or bytes (key + 2 + value) 0 == 10) f in
    let t0 = t.0 in
    let t1 = t.1 in
    let t2 = t.2 in
    let dash : get_or bytes key 0 ≡ 45 = grind (arith, nat_tests) in
    let arrow : get_or bytes (key + 1) 0 ≡ 62 = grind (arith, nat_tests) in
    let lf : get_or bytes (key + 2 + value) 0 ≡ 10 = grind (arith, nat_tests) in
    same_parts key value bytes pair (record { key = take key bytes; value = take value (drop (key + 2) bytes) }) behind
    (drop (key + value + 3) bytes) (record {
      key_long = length-take-le key bytes (omega arith);
      value_long = grind (arith, common_steps);
      text = parts key value bytes long dash arrow lf;
    }) h

framed_exact : (key value : ℕ) (bytes : List ℕ) (pair : Pair) (behind : List ℕ) →
    framed_pair key value bytes ≡ Ok (pair, behind) → Framed key value bytes pair behind
unfolding framed_pair
framed_exact key value bytes pair behind h =
    by_frame (nat_lt (length bytes) (key + value + 3)) (is_framed key value bytes) key value bytes pair behind refl
    refl h

by_limits : (a b : Bool) (key value : ℕ) (bytes : List ℕ) (pair : Pair) (behind : List ℕ) →
    ◌≡◌ {A = Front Pair}
    (cond a (Err (KeyLength key)) (cond b (Err (ValueLength value)) (framed_pair key value bytes)))
    (Ok (pair, behind)) → Framed key value bytes pair behind
by_limits true b key value bytes pair behind h =
    absurd (let bad : ◌≡◌ {A = Front Pair} (Err (KeyLength key)) (Ok (pair, behind)) = h in cc)
by_limits false true key value bytes pair behind h =
    absurd (let bad : ◌≡◌ {A = Front Pair} (Err (ValueLength value)) (Ok (pair, behind)) = h in cc)
by_limits false false key value bytes pair behind h = framed_exact key value bytes pair behind h

pair_exact : (key value : ℕ) (bytes : List ℕ) (pair : Pair) (behind : List ℕ) →
    pair_of_lengths key value bytes ≡ Ok (pair, behind) → Framed key value bytes pair behind
unfolding pair_of_lengths
pair_exact key value bytes pair behind h =
    by_limits ((key == 0) || nat_lt longest_key key) (nat_lt longest_value value) key value bytes pair behind h

-- how a record that was read stands behind its `+`
abbrev Stands : List ℕ → Pair → List ℕ → Type 0
Stands bytes pair behind =
    bytes ≡ decimal (length pair.key)
    ++ (44 ∷ (decimal (length pair.value) ++ (58 ∷ framed pair.key pair.value behind)))

by_second : (r : Front ℕ) (key : ℕ) (bytes rest : List ℕ) (pair : Pair) (behind : List ℕ) →
    bytes ≡ decimal key ++ (44 ∷ rest) → length_until 58 rest ≡ r →
    read_then r (λ value. pair_of_lengths key value.0 value.1) ≡ Ok (pair, behind) → Stands bytes pair behind
by_second (Err fault) key bytes rest pair behind e f h =
    absurd (let bad : ◌≡◌ {A = Front Pair} (Err fault) (Ok (pair, behind)) = h in cc)
by_second (Ok value) key bytes rest pair behind e f h =
    let parts = pair_exact key value.0 value.1 pair behind h in
    e ∙ rw (length_exact 58 rest value.0 value.1 f, parts.text, ← parts.key_long, ← parts.value_long) refl

by_lengths : (r : Front ℕ) (bytes : List ℕ) (pair : Pair) (behind : List ℕ) → length_until 44 bytes ≡ r →
    read_then r (λ key. read_then (length_until 58 key.1) (λ value. pair_of_lengths key.0 value.0 value.1))
    ≡ Ok (pair, behind) → Stands bytes pair behind
by_lengths (Err fault) bytes pair behind e h =
    absurd (let bad : ◌≡◌ {A = Front Pair} (Err fault) (Ok (pair, behind)) = h in cc)
by_lengths (Ok key) bytes pair behind e h =
    by_second (length_until 58 key.1) key.0 bytes key.1 pair behind (length_exact 44 bytes key.0 key.1 e) refl h

record_exact : (bytes : List ℕ) (pair : Pair) (behind : List ℕ) → cdb_record bytes ≡ Ok (pair, behind) →
    Stands bytes pair behind
unfolding cdb_record
record_exact bytes pair behind h = by_lengths (length_until 44 bytes) bytes pair behind refl h

as_record : (r : Front Pair) (pair : Pair) (behind : List ℕ) → as_next r ≡ Ok (Some (pair, behind)) →
    r ≡ Ok (pair, behind)
as_record (Err fault) pair behind h =
    absurd (let bad : ◌≡◌ {A = Next} (Err fault) (Ok (Some (pair, behind))) = h in cc)
as_record (Ok x) pair behind h = let same : ◌≡◌ {A = Pair × List ℕ} x (pair, behind) = cc in ap (λ y. Ok y) same

-- the end is no record
pub no_record_at_end : (bytes : List ℕ) (pair : Pair) (behind : List ℕ) → at_end bytes ≡ Ok (Some (pair, behind)) → ⊥
no_record_at_end [] pair behind h = let bad : ◌≡◌ {A = Next} (Ok None) (Ok (Some (pair, behind))) = h in cc
no_record_at_end (c ∷ cs) pair behind h =
    let bad : ◌≡◌ {A = Next} (Err BehindEnd) (Ok (Some (pair, behind))) = h in cc

by_first : (a b : Bool) (c : ℕ) (cs : List ℕ) (pair : Pair) (behind : List ℕ) → (c == 10) ≡ a → (c == 43) ≡ b →
    cond a (at_end cs) (cond b (as_next (cdb_record cs)) (Err NotARecord)) ≡ Ok (Some (pair, behind)) →
    c ∷ cs ≡ cdb_text pair ++ behind
by_first true b c cs pair behind e f h = absurd (no_record_at_end cs pair behind h)
by_first false false c cs pair behind e f h =
    absurd (let bad : ◌≡◌ {A = Next} (Err NotARecord) (Ok (Some (pair, behind))) = h in cc)
by_first false true c cs pair behind e f h =
    let plus : c ≡ 43 = grind (arith, nat_tests) in
    rw (plus, record_exact cs pair behind (as_record (cdb_record cs) pair behind h)) (sym (cdb_text_split pair behind))

-- a record that was read stands there as it is written
pub cdb_exact : (bytes : List ℕ) (pair : Pair) (behind : List ℕ) → next_cdb bytes ≡ Ok (Some (pair, behind)) →
    bytes ≡ cdb_text pair ++ behind
unfolding next_cdb
cdb_exact [] pair behind h = absurd (let bad : ◌≡◌ {A = Next} (Err NoEnd) (Ok (Some (pair, behind))) = h in cc)
cdb_exact (c ∷ cs) pair behind h = by_first (c == 10) (c == 43) c cs pair behind refl refl h

only_end : (bytes : List ℕ) → at_end bytes ≡ Ok None → bytes ≡ []
only_end [] h = refl
only_end (c ∷ cs) h = absurd (let bad : ◌≡◌ {A = Next} (Err BehindEnd) (Ok None) = h in cc)

no_end_in_record : (r : Front Pair) → as_next r ≡ Ok None → ⊥
no_end_in_record (Err fault) h = let bad : ◌≡◌ {A = Next} (Err fault) (Ok None) = h in cc
no_end_in_record (Ok x) h = let bad : ◌≡◌ {A = Next} (Ok (Some x)) (Ok None) = h in cc

by_last : (a b : Bool) (c : ℕ) (cs : List ℕ) → (c == 10) ≡ a →
    cond a (at_end cs) (cond b (as_next (cdb_record cs)) (Err NotARecord)) ≡ Ok None → c ∷ cs ≡ 10 ∷ []
by_last true b c cs e h = let lf : c ≡ 10 = grind (arith, nat_tests) in rw (lf, only_end cs h) refl
by_last false true c cs e h = absurd (no_end_in_record (cdb_record cs) h)
by_last false false c cs e h = absurd (let bad : ◌≡◌ {A = Next} (Err NotARecord) (Ok None) = h in cc)

-- the end that was read is an empty line alone
pub end_exact : (bytes : List ℕ) → next_cdb bytes ≡ Ok None → bytes ≡ 10 ∷ []
unfolding next_cdb
end_exact [] h = absurd (let bad : ◌≡◌ {A = Next} (Err NoEnd) (Ok None) = h in cc)
end_exact (c ∷ cs) h = by_last (c == 10) (c == 43) c cs refl h
