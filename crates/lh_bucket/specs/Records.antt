-- The finite map that a list of records stands for
use Rattle.std.specs.Prelude.{ℕ, List, map}
use Rattle.std.specs.FinMap.{from_entries}
use Rattle.lh_page.specs.declared.pair.Pair.{Pair}
use Rattle.lh_bucket.specs.PlainMap.{Records}

-- a record as the entry of a map
abbrev pub entry_of : Pair → List ℕ × List ℕ
entry_of p = (p.key, p.value)

-- the map that has the values of some records under their keys; of records with one key the first counts
unfoldable pub map_of : List Pair → Records
map_of pairs = from_entries (map entry_of pairs)
