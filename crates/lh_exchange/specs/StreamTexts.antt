-- What is written of records in each format.
use Rattle.std.specs.Prelude.{ℕ, List, [], ◌∷◌, ◌++◌, flat_map, length, codes}
use Rattle.std.specs.Fmt.{decimal}
use Rattle.hex.specs.Hex.{encode_lower}
use Rattle.lh_page.specs.declared.pair.Pair.{Pair}
use Rattle.lh_exchange.specs.declared.format.StreamFormat.{StreamFormat}
use Rattle.lh_exchange.specs.declared.format.StreamFormat.TheVariants.{Cdb, Db}

-- bytes as a line: an LF, 10, ends it
abbrev pub ended : List ℕ → List ℕ
ended bytes = bytes ++ 10 ∷ []

-- a record of cdb: `+`, the lengths of key and value, `:`, the key, `->`, the value, and LF
unfoldable pub cdb_text : Pair → List ℕ
cdb_text pair =
    codes "+" ++ (decimal (length pair.key) ++ (codes "," ++ (decimal (length pair.value) ++ (codes ":"
    ++ (pair.key ++ (codes "->" ++ ended pair.value))))))

-- bytes as a line of two lower-case hexadecimal digits each, behind a blank
abbrev pub digits_line : List ℕ → List ℕ
digits_line bytes = codes " " ++ ended (encode_lower bytes)

-- a record of db: a line of the key, and one of the value
unfoldable pub db_text : Pair → List ℕ
db_text pair = digits_line pair.key ++ digits_line pair.value

-- a record, by the format
abbrev pub pair_text : StreamFormat → Pair → List ℕ
pair_text Cdb pair = cdb_text pair
pair_text Db pair = db_text pair

-- what stands in front of the first record
abbrev pub leading_text : StreamFormat → List ℕ
leading_text Cdb = []
leading_text Db =
    ended (codes "VERSION=3") ++ (ended (codes "format=bytevalue") ++ (ended (codes "type=btree")
    ++ ended (codes "HEADER=END")))

-- what stands behind the last record
abbrev pub closing_text : StreamFormat → List ℕ
closing_text Cdb = ended []
closing_text Db = ended (codes "DATA=END")

-- the texts of some records, and what stands behind the last
abbrev pub body_text : StreamFormat → List Pair → List ℕ
body_text format pairs = flat_map (pair_text format) pairs ++ closing_text format

-- records as a stream
abbrev pub stream_text : StreamFormat → List Pair → List ℕ
stream_text format pairs = leading_text format ++ body_text format pairs

-- no record takes more bytes: in db a key of 56 and a value of 112 bytes take two digits a byte, and two characters a
-- line
abbrev pub longest_exchanged : ℕ
longest_exchanged = 340
