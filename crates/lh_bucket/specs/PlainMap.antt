-- The plain map that a file stands for: what a call answers, and what it leaves
use Rattle.std.specs.Prelude.{◌≡◌, ℕ, List, [], ◌∷◌, Option, Some, None, if◌then◌else◌}
use Rattle.std.specs.Ordering.{nat_cmp}
use Rattle.std.specs.Cmp.Lexicographic.{slice_cmp}
use Rattle.std.specs.FinMap.{FinMap, get, insert, remove, contains_key}
use Rattle.lh_bucket.specs.declared.call.Call.{Call}
use Rattle.lh_bucket.specs.declared.call.Call.TheVariants.{Search, Insert, Delete, Replace}
use Rattle.lh_bucket.specs.declared.call.Reply.{Reply}
use Rattle.lh_bucket.specs.declared.call.Reply.TheVariants.{Found, Absent, Inserted, Exists, Deleted, Replaced}
pub use Rattle.lh_bucket.specs.Call.{key_of, IsSearch, IsInsert}

-- a finite map from keys to values, both lists of bytes
abbrev pub Records : Type 0
Records = FinMap (slice_cmp nat_cmp) (List ℕ)

-- the reply to a search that met this value, or none
abbrev pub found : Option (List ℕ) → Reply
found (Some value) = Found value
found None = Absent

-- what a map answers to a call
abbrev pub reply : Records → Call → Reply
reply m (Search key) = found (get m key)
reply m (Insert key value) = if contains_key m key then Exists else Inserted
reply m (Delete key) = if contains_key m key then Deleted else Absent
reply m (Replace key value) = if contains_key m key then Replaced else Absent

-- the reply is one that some map gives to the call
abbrev pub FitsCall : Call → Reply → Type 0
FitsCall call given = (m : Records) × (given ≡ reply m call)

-- the map that a call leaves
abbrev pub after : Records → Call → Records
after m (Search key) = m
after m (Insert key value) = if contains_key m key then m else insert m key value
after m (Delete key) = if contains_key m key then remove m key else m
after m (Replace key value) = if contains_key m key then insert m key value else m

-- the replies to a list of calls, one after another
abbrev pub replies : Records → List Call → List Reply
replies m [] = []
replies m (call ∷ calls) = reply m call ∷ replies (after m call) calls

-- the map that a list of calls leaves
abbrev pub outcome : Records → List Call → Records
outcome m [] = m
outcome m (call ∷ calls) = outcome (after m call) calls
