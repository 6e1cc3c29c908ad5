-- Several files as one plain map
use Rattle.std.specs.Prelude.{◌≡◌, ℕ, ◌==◌, List, [], ◌∷◌, length, Some, None, slice_get, slice_set, if◌then◌else◌}
use Rattle.std.specs.FinMap.{get}
use Rattle.lh_bucket.specs.PlainMap.{Records, replies, outcome}
use Rattle.lh_settling.specs.Acts.{calls_of, replies_of}
use Rattle.lh_settling.specs.declared.act.ActLine.{ActLine}
use Rattle.lh_shards.specs.Hands.{AreAtHome}
use Rattle.lh_shards.specs.Number.{home_of}

-- the map of a shard, of so many, has the whole map's values of the keys that belong there, and no other key
abbrev pub IsPart : ℕ → ℕ → Records → Records → Type 0
IsPart shards shard whole part =
    (key : List ℕ) → get part key ≡ (if home_of shards key == shard then get whole key else None)

-- these replies are those of a plain map
abbrev pub IsLegalFrom : Records → List ActLine → Type 0
IsLegalFrom records history = replies_of history ≡ replies records (calls_of history)

-- One history that has the acts of some others, each of which keeps its order: its first act is the first one of one of
-- them, and what follows is such a history of what is left. At its end none is left.
abbrev pub IsMerge : List (List ActLine) → List ActLine → Type 0
IsMerge histories [] = (shard : ℕ) (left : List ActLine) → slice_get histories shard ≡ Some left → left ≡ []
IsMerge histories (act ∷ merged) = (shard : ℕ) × (rest : List ActLine)
    × (slice_get histories shard ≡ Some (act ∷ rest)) × IsMerge (slice_set histories shard rest) merged

-- Where the history of each shard is legal, from a map that is the shard's part of a whole one, and has only keys that
-- belong there, every merge of these histories is legal, from the whole map. What it leaves has as its parts what the
-- shards' histories leave.
abbrev pub OneMapLaw : Type 0
OneMapLaw =
    (whole : Records) (parts : List Records) (histories : List (List ActLine)) (merged : List ActLine) →
    length histories ≡ length parts →
    ((shard : ℕ) (part : Records) → slice_get parts shard ≡ Some part → IsPart (length parts) shard whole part) →
    ((shard : ℕ) (history : List ActLine) → slice_get histories shard ≡ Some history →
    AreAtHome (length parts) shard history) →
    ((shard : ℕ) (part : Records) (history : List ActLine) → slice_get parts shard ≡ Some part →
    slice_get histories shard ≡ Some history → IsLegalFrom part history) →
    IsMerge histories merged →
    IsLegalFrom whole merged
    × ((shard : ℕ) (part : Records) (history : List ActLine) → slice_get parts shard ≡ Some part →
    slice_get histories shard ≡ Some history →
    IsPart (length parts) shard (outcome whole (calls_of merged)) (outcome part (calls_of history)))
