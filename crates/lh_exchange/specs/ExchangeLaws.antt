-- What the definitions of reading and writing are to each other.
use Rattle.std.specs.Prelude.{◌≡◌, ◌+◌, ◌<◌, ◌≤◌, ℕ, true, List, [], ◌∷◌, ◌++◌, Option, Some, Ok, length}
use Rattle.std.specs.List.{All}
use Rattle.hex.specs.Hex.{IsBytes, encode_lower}
use Rattle.lh_page.specs.Records.{IsRecord}
use Rattle.lh_page.specs.declared.pair.Pair.{Pair}
use Rattle.lh_exchange.specs.DbHeader.{header_cut, whole_header}
use Rattle.lh_exchange.specs.DbTexts.{byte_before, printed}
use Rattle.lh_exchange.specs.Exchanged.{stream_records, begins_as_cdb, next_record, records_in, records_then}
use Rattle.lh_exchange.specs.StreamLines.{whole_line}
use Rattle.lh_exchange.specs.StreamTexts.{longest_exchanged, pair_text, stream_text}
use Rattle.lh_exchange.specs.declared.format.StreamFormat.{StreamFormat}
use Rattle.lh_exchange.specs.declared.format.StreamFormat.TheVariants.{Cdb}
use Rattle.lh_exchange.specs.declared.layout.Layout.{Layout}

-- a record of bytes, whose key and value have lengths that keys and values have
pub record IsExchanged (pair : Pair) : Type 0 where
  pub within : IsRecord pair
  pub key : IsBytes pair.key
  pub value : IsBytes pair.value

-- records that were written in a format are read again, all of them and in their order
abbrev pub WrittenIsReadLaw : Type 0
WrittenIsReadLaw =
    (format : StreamFormat) (pairs : List Pair) → All IsExchanged pairs →
    records_in (stream_text format pairs) ≡ Ok pairs

-- what is read as cdb is what is written of its records, to the byte
abbrev pub CdbIsExactLaw : Type 0
CdbIsExactLaw =
    (bytes : List ℕ) (pairs : List Pair) → begins_as_cdb bytes ≡ true → records_in bytes ≡ Ok pairs →
    bytes ≡ stream_text Cdb pairs

-- the records of some bytes are the next one and those of what stands behind it
abbrev pub OneByOneLaw : Type 0
OneByOneLaw =
    (layout : Layout) (first : Option ℕ) (before : ℕ) (bytes : List ℕ) →
    stream_records layout first before bytes
    ≡ records_then first before (next_record layout bytes) (λ behind. stream_records layout first (before + 1) behind)

-- a header is its next line and the header behind that
abbrev pub LineByLineLaw : Type 0
LineByLineLaw =
    (named : Option Layout) (n : ℕ) (bytes : List ℕ) →
    whole_header named n bytes
    ≡ header_cut (whole_line bytes) named n (λ layout behind. whole_header layout (n + 1) behind)

-- in a printed text a backslash and the two digits of a byte are that byte, whatever it is and whatever stands behind
abbrev pub EscapeIsOneByteLaw : Type 0
EscapeIsOneByteLaw =
    (byte : ℕ) (text : List ℕ) → byte < 256 →
    printed (92 ∷ (encode_lower (byte ∷ []) ++ text)) ≡ byte_before (Some byte) (printed text)

-- no record takes more bytes than the longest
abbrev pub LongestRecordLaw : Type 0
LongestRecordLaw =
    (format : StreamFormat) (pair : Pair) → IsRecord pair → length (pair_text format pair) ≤ longest_exchanged
