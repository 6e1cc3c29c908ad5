-- What `check` and `dump` write of an image, as lines
use Rattle.std.specs.Prelude.{ℕ, List, ◌++◌, flat_map, codes}
use Rattle.std.specs.Fmt.{decimal}
use Rattle.std.specs.List.{range_with_len}
use Rattle.lh_page.specs.declared.pair.Pair.{Pair}
use Rattle.lh_bucket.specs.Listing.{Lists, size, list_at}
use Rattle.lh_image.specs.declared.census.Census.{Census}
use Rattle.lh_script.specs.Notations.{byte_text}
use Rattle.lh_script.specs.Texts.{line}
use Rattle.lh_script.specs.declared.notation.Notation.{Notation}

-- a number behind its name, as a line
abbrev pub number_line : List ℕ → ℕ → List ℕ
number_line name number = line (name ++ decimal number)

-- what `check` writes: seven lines, each a name and a number
unfoldable pub check_text : Census → List ℕ
check_text c =
    number_line (codes "buckets ") c.buckets
    ++ number_line (codes "level ") c.level
    ++ number_line (codes "pointer ") c.pointer
    ++ number_line (codes "records ") c.records
    ++ number_line (codes "pages ") c.pages
    ++ number_line (codes "overflow ") c.overflow
    ++ number_line (codes "longest ") c.longest

-- a record: the number of its bucket, its key and its value
abbrev pub record_text : Notation → ℕ → Pair → List ℕ
record_text notation bucket pair =
    decimal bucket ++ (codes " " ++ (byte_text notation pair.key ++ (codes " " ++ byte_text notation pair.value)))

-- a line for each record of a bucket, in the order of the chain
abbrev pub bucket_text : Notation → ℕ → List Pair → List ℕ
bucket_text notation bucket pairs = flat_map (λ pair. line (record_text notation bucket pair)) pairs

-- what `dump` writes: the lines of all records, the buckets in rising order
unfoldable pub dump_text : Notation → Lists → List ℕ
dump_text notation l = flat_map (λ i. bucket_text notation i (list_at l.lists i)) (range_with_len 0 (size l))
