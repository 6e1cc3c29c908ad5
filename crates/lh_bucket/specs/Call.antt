-- What kind of call a call is, its key, and the room that it needs
use Rattle.std.specs.Prelude.{ℕ, ◌+◌, ◌<◌, ◌≤◌, Bool, true, false, List, length, IsTrue}
use Rattle.lh_page.specs.Slots.{widest_room}
use Rattle.lh_bucket.specs.declared.call.Call.{Call}
use Rattle.lh_bucket.specs.declared.call.Call.TheVariants.{Search, Insert, Delete, Replace}

-- the key of a call
abbrev pub key_of : Call → List ℕ
key_of (Search key) = key
key_of (Insert key value) = key
key_of (Delete key) = key
key_of (Replace key value) = key

-- whether a call is a search: whatever other call there is may change its bucket
abbrev pub is_search : Call → Bool
is_search (Search key) = true
is_search _ = false

-- whether a call is an insert: whatever other call there is takes no memory
abbrev pub is_insert : Call → Bool
is_insert (Insert key value) = true
is_insert _ = false

-- the call is a search
abbrev pub IsSearch : Call → Type 0
IsSearch call = IsTrue (is_search call)

-- the call is an insert
abbrev pub IsInsert : Call → Type 0
IsInsert call = IsTrue (is_insert call)

-- how many bytes of its key and its value a call may leave in a bucket
abbrev pub bytes_kept : Call → ℕ
bytes_kept (Search key) = 0
bytes_kept (Insert key value) = length key + length value
bytes_kept (Delete key) = 0
bytes_kept (Replace key value) = length key + length value

-- a record has room for what the call leaves: one of the widest room has it for each call
abbrev pub CallFits : ℕ → Call → Type 0
CallFits room call = room < widest_room → bytes_kept call ≤ room
