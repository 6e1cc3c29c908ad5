-- The order of the records in a bucket that is a chain of pages
use Rattle.std.specs.Prelude.{ℕ, List, [], ◌∷◌, ◌++◌, Option, Some, None, is_some, slice_index_or, if◌then◌else◌}
use Rattle.std.specs.List.{swap_remove}
use Rattle.lh_page.specs.declared.pair.Pair.{Pair}
use Rattle.lh_page.specs.Records.{place_of, no_pair, value_at, with_value}
use Rattle.lh_bucket.specs.declared.call.Call.{Call}
use Rattle.lh_bucket.specs.declared.call.Call.TheVariants.{Search, Insert, Delete, Replace}
use Rattle.lh_bucket.specs.declared.call.Reply.{Reply}
use Rattle.lh_bucket.specs.declared.call.Reply.TheVariants.{Found, Absent}

-- the reply to a search that met the record at a place, or none
abbrev pub found_at : List Pair → Option ℕ → Reply
found_at pairs (Some place) = Found (value_at pairs place)
found_at pairs None = Absent

-- the records without the one at a place, into which the last one moves
abbrev pub removed_at : List Pair → Option ℕ → List Pair
removed_at pairs (Some place) = swap_remove pairs place (slice_index_or pairs place no_pair)
removed_at pairs None = pairs

-- the records with another value in the one at a place
abbrev pub replaced_at : List Pair → Option ℕ → List ℕ → List Pair
replaced_at pairs (Some place) value = with_value pairs place value
replaced_at pairs None value = pairs

-- the records after a call: an insert puts its record last, a delete moves the last record into the hole, and a
-- replace leaves each record in its place
abbrev pub served : List Pair → Call → List Pair
served pairs (Search key) = pairs
served pairs (Insert key value) =
    if is_some (place_of pairs key) then pairs else pairs ++ record { key = key; value = value } ∷ []
served pairs (Delete key) = removed_at pairs (place_of pairs key)
served pairs (Replace key value) = replaced_at pairs (place_of pairs key) value
