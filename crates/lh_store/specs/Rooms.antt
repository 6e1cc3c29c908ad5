-- What a session tells of the room of its records
use denote.Ref.{Bor}
use Rattle.std.specs.Prelude.{◌≡◌, ℕ, ◌+◌, ◌<◌, ◌≤◌, List, length}
use Rattle.lh_bucket.specs.Listing.{Lists}
use Rattle.lh_file.specs.Buckets.Rooms.{IsRoomFault}
use Rattle.lh_page.specs.Slots.{widest_room}
use Rattle.lh_store.specs.declared.fault.CallFault.{CallFault}
use Rattle.lh_store.specs.declared.fault.CallFault.TheVariants as call
use Rattle.lh_store.specs.declared.fault.OpenStoreFault.{OpenStoreFault}
use Rattle.lh_store.specs.declared.fault.OpenStoreFault.TheVariants as open_fault

-- records have room for so many bytes, key and value together: those of the widest room have it for all
abbrev pub HasRoomFor : ℕ → ℕ → Type 0
HasRoomFor room bytes = room < widest_room → bytes ≤ room

-- A fault for want of room tells how many bytes were to be written and what the room is: less than these, and not the
-- widest. Other faults tell nothing of it.
abbrev pub TellsRoom : ℕ → ℕ → CallFault → Type 0
TellsRoom room bytes (call.Key length) = Unit {0}
TellsRoom room bytes (call.Value length) = Unit {0}
TellsRoom room bytes (call.Room told least) =
    (told ≡ bytes) × (least ≡ room) × (room < bytes) × (room < widest_room)
TellsRoom room bytes (call.File fault) = Unit {0}

-- the bytes of a record, key and value together
abbrev pub bytes_of_record : Bor (List ℕ) × Bor (List ℕ) → ℕ
bytes_of_record pair = length pair.0.now + length pair.1.now

-- all that a function may make of a value has so many bytes at most
abbrev pub MakesWithin : ℕ → (List ℕ → List ℕ → Type 0) → Type 0
MakesWithin most makes = (was made : List ℕ) → makes was made → length made ≤ most

-- where a table isn't opened for want of room, the fault names the first record that has none
abbrev pub NamesMisfit : ℕ → Lists → OpenStoreFault → Type 0
NamesMisfit room listing open_fault.Memory = Unit {0}
NamesMisfit room listing (open_fault.Room fault) = IsRoomFault room listing fault
