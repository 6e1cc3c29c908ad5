-- Records that are read of bytes have bytes.
use Rattle.std.proofs.Common.{◌≡◌, ℕ, ◌+◌, ◌<◌, ◌==◌, ◌&&◌, ◌||◌, nat_eq, nat_le, nat_lt, zero, suc, Bool, true, false}
use Rattle.std.proofs.Common.{cond, if◌then◌else◌, List, [], ◌∷◌, ◌++◌, flat_map, length, refl, sym, subst, arith}
use Rattle.std.proofs.Common.{append_assoc}
use Rattle.std.proofs.Common.{Option, None, Some, IfOk, IfSome, codes, decimal}
use Rattle.std.specs.Prelude.{Result, Ok, Err}
use Rattle.std.specs.List.{All, list_any, starts_with}
use Rattle.std.specs.Result.{result_ok}
use Rattle.std.proofs.lemmas.Bool.Decides.{nat_tests}
use Rattle.std.proofs.lemmas.List.Elements.{All-cons, All-nil}
use Rattle.hex.proofs.HexLemmas.{decode_of-ok}
use Rattle.hex.specs.Hex.{IsBytes, decode_of, hex_digit_value}
use Rattle.hex.specs.declared.error.FromHexError.{FromHexError}
use Rattle.lh_page.specs.Limits.{longest_key, longest_value}
use Rattle.lh_page.specs.declared.pair.Pair.{Pair}
use Rattle.lh_exchange.specs.DbHeader.{Body, behind_header, header_cut, header_from, header_line, header_said}
use Rattle.lh_exchange.specs.DbHeader.{let_through}
use Rattle.lh_exchange.specs.DbHeader.{whole_header}
use Rattle.lh_exchange.specs.DbHeader.{passed_over}
use Rattle.lh_exchange.specs.DbRecords.{next_db, with_line, with_value_line}
use Rattle.lh_exchange.specs.DbTexts.{byte_before, byte_of_digits, escaped_backslash, escaped_byte, is_plain}
use Rattle.lh_exchange.specs.DbTexts.{key_of_bytes}
use Rattle.lh_exchange.specs.DbTexts.{line_bytes, line_key, line_value, printed, text_bytes, value_of_bytes}
use Rattle.lh_exchange.specs.Exchanged.{RecordsOrFault, begins_as_cdb, body_of, db_body, next_record, onto_records}
use Rattle.lh_exchange.specs.Exchanged.{no_format, records_from, records_in, records_of_body, records_then}
use Rattle.lh_exchange.specs.ExchangeLaws.{CdbIsExactLaw}
use Rattle.lh_exchange.specs.StreamLines.{is_line, whole_line}
use Rattle.lh_exchange.specs.StreamParts.{Next, at_end, read_then}
use Rattle.lh_exchange.specs.StreamTexts.{cdb_text, closing_text, pair_text}
use Rattle.lh_exchange.specs.declared.fault.ExchangeFault.{ExchangeFault}
use Rattle.lh_exchange.specs.declared.fault.StreamFault.{StreamFault}
use Rattle.lh_exchange.specs.declared.fault.StreamFault.TheVariants.{Duplicates, KeyLength, NoKeys, NotAHeaderLine}
use Rattle.lh_exchange.specs.declared.fault.StreamFault.TheVariants.{UnknownLayout, ValueLength}
use Rattle.lh_exchange.specs.declared.format.StreamFormat.TheVariants as format
use Rattle.lh_exchange.specs.declared.header.HeaderLine.{HeaderLine}
use Rattle.lh_exchange.specs.declared.header.HeaderLine.TheVariants.{GoesOn, HeaderEnd}
use Rattle.lh_exchange.specs.declared.layout.Layout.{Layout}
use Rattle.lh_exchange.specs.declared.layout.Layout.TheVariants.{Bytevalue, Cdb, Print}

-- ---- bytes

-- a part of bytes is bytes
bytes_left : (xs ys : List ℕ) → IsBytes (xs ++ ys) → IsBytes xs
bytes_left [] ys h i = omega arith
bytes_left (x ∷ xs) ys h zero = h zero
bytes_left (x ∷ xs) ys h (suc i) = bytes_left xs ys (λ k. h (suc k)) i

bytes_right : (xs ys : List ℕ) → IsBytes (xs ++ ys) → IsBytes ys
bytes_right [] ys h = h
bytes_right (x ∷ xs) ys h = bytes_right xs ys (λ k. h (suc k))

bytes_none : IsBytes []
bytes_none i = omega arith

bytes_cons : (b : ℕ) (bs : List ℕ) → b < 256 → IsBytes bs → IsBytes (b ∷ bs)
bytes_cons b bs h hs zero = h
bytes_cons b bs h hs (suc i) = hs i

-- the key and the value of a record are bytes
abbrev pub HasBytes : Pair → Type 0
HasBytes pair = IsBytes pair.key × IsBytes pair.value

-- one of two, by a test
pick : {X : Type 0} (P : X → Type 0) (b : Bool) (x y : X) → (b ≡ true → P x) → P y → P (cond b x y)
pick P true x y p q = p refl
pick P false x y p q = q

-- ---- cdb, which is read as it was written

-- a record
cdb_pair : (pair : Pair) → IsBytes (cdb_text pair) → HasBytes pair
unfolding cdb_text
cdb_pair pair h =
    let behind_first = bytes_right (decimal (length pair.key)) _ (bytes_right (codes "+") _ h) in
    let behind_second = bytes_right (decimal (length pair.value)) _ (bytes_right (codes ",") _ behind_first) in
    let from_key = bytes_right (codes ":") _ behind_second in (
      bytes_left pair.key _ from_key,
      bytes_left pair.value (10 ∷ []) (bytes_right (codes "->") _ (bytes_right pair.key _ from_key)),
    )

-- the records of a body
cdb_pairs : (pairs : List Pair) (end : List ℕ) → IsBytes (flat_map (pair_text format.Cdb) pairs ++ end) →
    All HasBytes pairs
cdb_pairs [] end h = All-nil HasBytes
cdb_pairs (pair ∷ pairs) end h =
    let others = flat_map (pair_text format.Cdb) pairs in
    let whole : IsBytes (cdb_text pair ++ (others ++ end)) =
    subst IsBytes (append_assoc (cdb_text pair) others end) h in
    All-cons HasBytes pair pairs (cdb_pair pair (bytes_left (cdb_text pair) (others ++ end) whole))
    (cdb_pairs pairs end (bytes_right (cdb_text pair) (others ++ end) whole))

-- ---- texts of db

-- a byte in front of bytes
before : (b : Option ℕ) (bytes : Option (List ℕ)) → IfSome b (λ n. n < 256) → IfSome bytes IsBytes →
    IfSome (byte_before b bytes) IsBytes
before None bytes p q = tt
before (Some b) None p q = tt
before (Some b) (Some bs) p q = bytes_cons b bs p q

-- what one character stands for, or several
plain_low : (c : ℕ) → is_plain c ≡ true → c < 256
plain_low c h = grind (arith, nat_tests)

digit_low : (c : ℕ) → IfSome (hex_digit_value c) (λ n. n < 16)
digit_low c =
    pick (λ (o : Option ℕ). IfSome o (λ n. n < 16)) (nat_le 65 c && nat_le c 70) _ _ (λ h. grind (arith, nat_tests))
    (pick (λ (o : Option ℕ). IfSome o (λ n. n < 16)) (nat_le 97 c && nat_le c 102) _ _ (λ h. grind (arith, nat_tests))
    (pick (λ (o : Option ℕ). IfSome o (λ n. n < 16)) (nat_le 48 c && nat_le c 57) _ _ (λ h. grind (arith, nat_tests))
    tt))

two_digits : (high low : Option ℕ) → IfSome high (λ n. n < 16) → IfSome low (λ n. n < 16) →
    IfSome (byte_of_digits high low) (λ n. n < 256)
two_digits None low p q = tt
two_digits (Some h) None p q = tt
two_digits (Some h) (Some l) p q = omega (arith, p, q)

backslash_low : (c d : ℕ) → IfSome (escaped_backslash c d) (λ n. n < 256)
backslash_low c d =
    pick (λ (o : Option ℕ). IfSome o (λ n. n < 256)) ((c == 92) && (d == 92)) (Some 92) None (λ _. omega arith) tt

escaped_low : (c d e : ℕ) → IfSome (escaped_byte c d e) (λ n. n < 256)
escaped_low c d e =
    pick (λ (o : Option ℕ). IfSome o (λ n. n < 256)) (c == 92)
    (byte_of_digits (hex_digit_value d) (hex_digit_value e)) None
    (λ _. two_digits (hex_digit_value d) (hex_digit_value e) (digit_low d) (digit_low e)) tt

-- the bytes of a printed text
printed_bytes : (text : List ℕ) → IfSome (printed text) IsBytes
unfolding printed
printed_bytes [] = bytes_none
printed_bytes (c ∷ []) =
    pick (λ (o : Option (List ℕ)). IfSome o IsBytes) (is_plain c) (Some (c ∷ [])) None
    (λ h. bytes_cons c [] (plain_low c h) bytes_none) tt
printed_bytes (c ∷ d ∷ []) =
    pick (λ (o : Option (List ℕ)). IfSome o IsBytes) (is_plain c) (byte_before (Some c) (printed (d ∷ [])))
    (byte_before (escaped_backslash c d) (Some []))
    (λ h. before (Some c) (printed (d ∷ [])) (plain_low c h) (printed_bytes (d ∷ [])))
    (before (escaped_backslash c d) (Some []) (backslash_low c d) bytes_none)
printed_bytes (c ∷ d ∷ e ∷ cs) =
    pick (λ (o : Option (List ℕ)). IfSome o IsBytes) (is_plain c) (byte_before (Some c) (printed (d ∷ e ∷ cs))) _
    (λ h. before (Some c) (printed (d ∷ e ∷ cs)) (plain_low c h) (printed_bytes (d ∷ e ∷ cs)))
    (pick (λ (o : Option (List ℕ)). IfSome o IsBytes) (d == 92)
    (byte_before (escaped_backslash c d) (printed (e ∷ cs))) (byte_before (escaped_byte c d e) (printed cs))
    (λ _. before (escaped_backslash c d) (printed (e ∷ cs)) (backslash_low c d) (printed_bytes (e ∷ cs)))
    (before (escaped_byte c d e) (printed cs) (escaped_low c d e) (printed_bytes cs)))

-- the bytes of a text of pairs of digits, and of each text
decoded_bytes : (r : Result (List ℕ) FromHexError) → ((bytes : List ℕ) → r ≡ Ok bytes → IsBytes bytes) →
    IfSome (result_ok r) IsBytes
decoded_bytes (Ok bytes) h = h bytes refl
decoded_bytes (Err e) h = tt

read_text : (layout : Layout) (text : List ℕ) → IfSome (text_bytes layout text) IsBytes
unfolding text_bytes
read_text Cdb text = tt
read_text Bytevalue text = decoded_bytes (decode_of text) (λ bytes h. (decode_of-ok text bytes h).3)
read_text Print text = printed_bytes text

-- those of a line, and of a key and a value
read_line : (layout : Layout) (line : List ℕ) → IfSome (line_bytes layout line) IsBytes
read_line layout [] = tt
read_line layout (c ∷ text) =
    pick (λ (o : Option (List ℕ)). IfSome o IsBytes) (c == 32) (text_bytes layout text) None
    (λ _. read_text layout text) tt

key_bytes : (o : Option (List ℕ)) → IfSome o IsBytes → IfOk (key_of_bytes o) IsBytes
key_bytes None h = tt
key_bytes (Some k) h =
    pick (λ (r : Result (List ℕ) StreamFault). IfOk r IsBytes) ((length k == 0) || nat_lt longest_key (length k))
    (Err (KeyLength (length k))) (Ok k) (λ _. tt) h

value_bytes : (o : Option (List ℕ)) → IfSome o IsBytes → IfOk (value_of_bytes o) IsBytes
value_bytes None h = tt
value_bytes (Some v) h =
    pick (λ (r : Result (List ℕ) StreamFault). IfOk r IsBytes) (nat_lt longest_value (length v))
    (Err (ValueLength (length v))) (Ok v) (λ _. tt) h

-- ---- records of db

-- the record that is read next, if one is, has bytes
abbrev GivesBytes : Next → Type 0
GivesBytes next = IfOk next (λ given. IfSome given (λ x. HasBytes x.0))

-- the value on the second line, and the key on the first
value_read : (key behind : List ℕ) (r : Result (List ℕ) StreamFault) → IsBytes key → IfOk r IsBytes →
    GivesBytes (read_then r (λ value. Ok (Some (record { key = key; value = value }, behind))))
value_read key behind (Ok value) k v = (k, v)
value_read key behind (Err fault) k v = tt

value_line : (layout : Layout) (key : List ℕ) (cut : Option (List ℕ × List ℕ)) → IsBytes key →
    GivesBytes (with_line (λ line behind. read_then (line_value layout line) (λ value.
    Ok (Some (record { key = key; value = value }, behind)))) cut)
value_line layout key None k = tt
value_line layout key (Some cut) k =
    value_read key cut.1 (line_value layout cut.0) k (value_bytes (line_bytes layout cut.0) (read_line layout cut.0))

key_read : (layout : Layout) (behind : List ℕ) (r : Result (List ℕ) StreamFault) → IfOk r IsBytes →
    GivesBytes (read_then r (λ key. with_value_line layout key behind))
key_read layout behind (Ok key) k = value_line layout key (whole_line behind) k
key_read layout behind (Err fault) k = tt

-- the next record
nothing_behind : (behind : List ℕ) → GivesBytes (at_end behind)
nothing_behind [] = tt
nothing_behind (c ∷ cs) = tt

db_next : (layout : Layout) (bytes : List ℕ) → GivesBytes (next_db layout bytes)
unfolding next_db
db_next layout bytes = by (whole_line bytes)
  where
    by : (cut : Option (List ℕ × List ℕ)) →
        GivesBytes (with_line (λ line behind.
        if is_line line (codes "DATA=END") then at_end behind
        else read_then (line_key layout line) (λ key. with_value_line layout key behind)) cut)
    by None = tt
    by (Some cut) =
        pick GivesBytes (is_line cut.0 (codes "DATA=END")) (at_end cut.1) _ (λ _. nothing_behind cut.1)
        (key_read layout cut.1 (line_key layout cut.0)
        (key_bytes (line_bytes layout cut.0) (read_line layout cut.0)))

-- ---- streams

-- each record that is read in a layout has bytes
abbrev ReadsBytes : Layout → Type 0
ReadsBytes layout = (bytes : List ℕ) → GivesBytes (next_record layout bytes)

-- the records of a body, one after another
onto_bytes : (pair : Pair) (r : RecordsOrFault) → HasBytes pair → IfOk r (All HasBytes) →
    IfOk (onto_records pair r) (All HasBytes)
onto_bytes pair (Ok pairs) p ps = All-cons HasBytes pair pairs p ps
onto_bytes pair (Err fault) p ps = tt

then_bytes : (first : Option ℕ) (before : ℕ) (next : Next) (go : List ℕ → RecordsOrFault) → GivesBytes next →
    ((behind : List ℕ) → IfOk (go behind) (All HasBytes)) → IfOk (records_then first before next go) (All HasBytes)
then_bytes first before (Err fault) go h more = tt
then_bytes first before (Ok None) go h more = All-nil HasBytes
then_bytes first before (Ok (Some x)) go h more = onto_bytes x.0 (go x.1) h (more x.1)

body_bytes : (layout : Layout) (first : Option ℕ) (most before : ℕ) (bytes : List ℕ) → ReadsBytes layout →
    IfOk (records_from layout first most before bytes) (All HasBytes)
unfolding records_from
body_bytes layout first zero before bytes h = tt
body_bytes layout first (suc most) before bytes h =
    then_bytes first before (next_record layout bytes) _ (h bytes)
    (λ behind. body_bytes layout first most (before + 1) behind h)

-- what a line of the header says of the layout
abbrev SaysBytes : HeaderLine → Type 0
SaysBytes (GoesOn named) = IfSome named ReadsBytes
SaysBytes HeaderEnd = Unit {0}

said_bytes : (named : Option Layout) (line : List ℕ) → IfSome named ReadsBytes →
    IfOk (header_line named line) SaysBytes
unfolding header_line
said_bytes named line h =
    let is = λ (text : List ℕ). is_line line text in
    let Says = λ (r : Result HeaderLine StreamFault). IfOk r SaysBytes in
    let passed : Says (passed_over named line) =
    pick Says (list_any (λ c. c == 61) line) (Ok (GoesOn named)) (Err NotAHeaderLine) (λ _. h) tt in
    let single : Says (if is (codes "duplicates=1") || is (codes "dupsort=1") then Err Duplicates
    else passed_over named line) =
    pick Says (is (codes "duplicates=1") || is (codes "dupsort=1")) (Err Duplicates) (passed_over named line) (λ _. tt)
    passed in
    let keyed : Says (if is (codes "keys=0") then Err NoKeys
    else (if is (codes "duplicates=1") || is (codes "dupsort=1") then Err Duplicates else passed_over named line)) =
    pick Says (is (codes "keys=0")) (Err NoKeys) _ (λ _. tt) single in
    let through : Says (let_through named line) =
    pick Says (starts_with nat_eq line (codes "format=")) (Err UnknownLayout) _ (λ _. tt) keyed in
    let print : Says (if is (codes "format=print") then Ok (GoesOn (Some Print)) else let_through named line) =
    pick Says (is (codes "format=print")) (Ok (GoesOn (Some Print))) (let_through named line) (λ _. db_next Print)
    through in
    pick Says (is (codes "HEADER=END")) (Ok HeaderEnd) _ (λ _. tt)
    (pick Says (is (codes "format=bytevalue")) (Ok (GoesOn (Some Bytevalue))) _ (λ _. db_next Bytevalue) print)

-- the body behind a header is not in the layout of cdb
abbrev IsDbBody : Result Body ExchangeFault → Type 0
IsDbBody body = IfOk body (λ b. ReadsBytes b.0)

header_end : (named : Option Layout) (n : ℕ) (behind : List ℕ) → IfSome named ReadsBytes →
    IsDbBody (behind_header named n behind)
header_end None n behind h = tt
header_end (Some layout) n behind h = h

-- the header, line by line
said_then : (named : Option Layout) (n : ℕ) → IfSome named ReadsBytes →
    (go : Option Layout → List ℕ → Result Body ExchangeFault) →
    ((layout : Option Layout) (behind : List ℕ) → IfSome layout ReadsBytes → IsDbBody (go layout behind)) →
    (r : Result HeaderLine StreamFault) (behind : List ℕ) → IfOk r SaysBytes →
    IsDbBody (header_said r named n behind go)
said_then named n h go more (Err fault) behind s = tt
said_then named n h go more (Ok HeaderEnd) behind s = header_end named n behind h
said_then named n h go more (Ok (GoesOn layout)) behind s = more layout behind s

cut_bytes : (named : Option Layout) (n : ℕ) → IfSome named ReadsBytes →
    (go : Option Layout → List ℕ → Result Body ExchangeFault) →
    ((layout : Option Layout) (behind : List ℕ) → IfSome layout ReadsBytes → IsDbBody (go layout behind)) →
    (cut : Option (List ℕ × List ℕ)) → IsDbBody (header_cut cut named n go)
cut_bytes named n h go more None = tt
cut_bytes named n h go more (Some cut) =
    said_then named n h go more (header_line named cut.0) cut.1 (said_bytes named cut.0 h)

header_bytes : (most : ℕ) (named : Option Layout) (n : ℕ) (bytes : List ℕ) → IfSome named ReadsBytes →
    IsDbBody (header_from most named n bytes)
unfolding header_from
header_bytes zero named n bytes h = tt
header_bytes (suc most) named n bytes h =
    cut_bytes named n h (λ layout behind. header_from most layout (n + 1) behind)
    (λ layout behind k. header_bytes most layout (n + 1) behind k) (whole_line bytes)

-- what does not begin as cdb
db_bytes : (cut : Option (List ℕ × List ℕ)) → IsDbBody (db_body cut)
db_bytes None = tt
db_bytes (Some cut) =
    pick IsDbBody (is_line cut.0 (codes "VERSION=3")) (whole_header None 2 cut.1) (Err no_format)
    (λ _. header_bytes (suc (length cut.1)) None 2 cut.1 tt) tt

other_body : (bytes : List ℕ) → begins_as_cdb bytes ≡ false → IsDbBody (body_of bytes)
unfolding body_of
other_body bytes e =
    subst (λ b. IsDbBody (cond b (Ok (Cdb, None, bytes)) (db_body (whole_line bytes)))) (sym e)
    (db_bytes (whole_line bytes))

of_body : (body : Result Body ExchangeFault) → IsDbBody body → IfOk (records_of_body body) (All HasBytes)
of_body (Ok body) h = body_bytes body.0 body.1 (suc (length body.2)) 0 body.2 h
of_body (Err fault) h = tt

-- the records of a stream of bytes have bytes
pub records_have_bytes : CdbIsExactLaw → (bytes : List ℕ) (pairs : List Pair) → IsBytes bytes →
    records_in bytes ≡ Ok pairs → All HasBytes pairs
records_have_bytes exact bytes pairs h e = by (begins_as_cdb bytes) refl
  where
    by : (b : Bool) → begins_as_cdb bytes ≡ b → All HasBytes pairs
    by true is = cdb_pairs pairs (closing_text format.Cdb) (subst IsBytes (exact bytes pairs is e) h)
    by false is =
        subst (λ (r : RecordsOrFault). IfOk r (All HasBytes)) e (of_body (body_of bytes) (other_body bytes is))
