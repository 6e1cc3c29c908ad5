-- How long a record is as it is written.
use Rattle.std.proofs.Common.{◌≡◌, ℕ, ◌+◌, ◌≤◌, List, [], ◌∷◌, ◌++◌, length, arith, length-append}
use Rattle.std.specs.Prelude.{codes}
use Rattle.std.specs.Fmt.{decimal}
use Rattle.std.proofs.lemmas.Fmt.{length-decimal-le}
use Rattle.hex.specs.Hex.{encode_lower, lower_digits}
use Rattle.hex.proofs.HexLemmas.{length-encode_with}
use Rattle.lh_page.specs.Records.{IsRecord}
use Rattle.lh_page.specs.declared.pair.Pair.{Pair}
use Rattle.lh_exchange.specs.StreamTexts.{cdb_text, db_text, longest_exchanged, pair_text}
use Rattle.lh_exchange.specs.declared.format.StreamFormat.{StreamFormat}
use Rattle.lh_exchange.specs.declared.format.StreamFormat.TheVariants.{Cdb, Db}

-- the length of nine parts
nine_parts : (a b c d e f g h i : List ℕ) →
    length (a ++ (b ++ (c ++ (d ++ (e ++ (f ++ (g ++ (h ++ i))))))))
    ≡ length a + (length b + (length c + (length d + (length e + (length f + (length g + (length h + length i)))))))
nine_parts a b c d e f g h i = simp length-append

-- the length of six parts
six_parts : (a b c d e f : List ℕ) →
    length ((a ++ (b ++ c)) ++ (d ++ (e ++ f)))
    ≡ (length a + (length b + length c)) + (length d + (length e + length f))
six_parts a b c d e f = simp length-append

cdb_length : (pair : Pair) → IsRecord pair → length (cdb_text pair) ≤ 340
unfolding cdb_text
cdb_length pair h =
    let key = length-decimal-le 3 (length pair.key) (omega arith) (omega (arith, h.key)) (omega (arith, h.key)) in
    let value =
    length-decimal-le 3 (length pair.value) (omega arith) (omega (arith, h.value)) (omega (arith, h.value)) in
    omega (
      arith,
      nine_parts (codes "+") (decimal (length pair.key)) (codes ",") (decimal (length pair.value)) (codes ":") pair.key
          (codes "->") pair.value (10 ∷ []),
      key,
      value,
      h.key,
      h.value,
    )

db_length : (pair : Pair) → IsRecord pair → length (db_text pair) ≤ 340
unfolding db_text
db_length pair h =
    omega (
      arith,
      six_parts (codes " ") (encode_lower pair.key) (10 ∷ []) (codes " ") (encode_lower pair.value) (10 ∷ []),
      length-encode_with lower_digits pair.key,
      length-encode_with lower_digits pair.value,
      h.key,
      h.value,
    )

-- no record takes more bytes than the longest
pub record_length : (format : StreamFormat) (pair : Pair) → IsRecord pair →
    length (pair_text format pair) ≤ longest_exchanged
record_length Cdb pair h = cdb_length pair h
record_length Db pair h = db_length pair h
