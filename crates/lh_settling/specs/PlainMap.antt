-- A hash table as a plain map
use Rattle.std.specs.Prelude.{ℕ, List, map}
use Rattle.std.specs.FinMap.{from_entries}
use Rattle.lh_bucket.specs.PlainMap.{Records}
use Rattle.lh_settling.specs.declared.plain_map.Name.{Name}

-- the finite map that has the values of a table's entries under their keys
abbrev pub map_of_entries : List (Name × List ℕ) → Records
map_of_entries entries = from_entries (map (λ e. (e.0.0, e.1)) entries)
