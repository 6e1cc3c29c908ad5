-- What follows of the definitions, for whoever reasons about buckets and listings
use Rattle.std.specs.Prelude.{◌≡◌, ℕ, ◌+◌, ◌<◌, ◌↔◌, List, [], length, Some, ◌==◌}
use Rattle.std.specs.Bool.{IsTrue}
use Rattle.std.specs.List.{IsDistinct, Contains}
use Rattle.std.specs.Str.{bytes_eq}
use Rattle.std.specs.FinMap.{empty, get, len, contains_key, retain_keys}
use Rattle.lh_addr.specs.Fnv.{code_of}
use Rattle.lh_addr.specs.Growth.{hash_at, address}
use Rattle.lh_page.specs.declared.pair.Pair.{Pair}
use Rattle.lh_page.specs.Records.{keys_of, key_at}
use Rattle.lh_bucket.specs.declared.verdict.Verdict.TheVariants.{Here}
use Rattle.lh_bucket.specs.Records.{map_of}
use Rattle.lh_bucket.specs.Bucket.{Head, verdict, stays}
use Rattle.lh_bucket.specs.Listing.{Lists, IsListing, all_of, list_at, size}

-- A call is at its bucket exactly where the code's hash at the level that it looks for is the bucket's number, and that
-- level is the bucket's.
abbrev pub HereLaw : Type 0
HereLaw =
    (head : Head) (c k : ℕ) →
    (verdict head c k ≡ Here) ↔ ((hash_at head.initial k c ≡ head.number) × (head.level ≡ Some k))

-- A split leaves a key where it is exactly if its code still leads there one level up.
abbrev pub StayLaw : Type 0
StayLaw =
    (head : Head) (level : ℕ) (key : List ℕ) → head.level ≡ Some level →
    IsTrue (stays head key) ↔ (hash_at head.initial (level + 1) (code_of key) ≡ head.number)

-- No records make the empty map.
abbrev pub EmptyLaw : Type 0
EmptyLaw = map_of [] ≡ empty

-- The map of some records has the key of each,
abbrev pub KeyLaw : Type 0
KeyLaw =
    (pairs : List Pair) (place : ℕ) → place < length pairs →
    IsTrue (contains_key (map_of pairs) (key_at pairs place))

-- where no key stands twice it has just the records,
abbrev pub LookupLaw : Type 0
LookupLaw =
    (pairs : List Pair) (key value : List ℕ) → IsDistinct bytes_eq (keys_of pairs) →
    (get (map_of pairs) key ≡ Some value) ↔ Contains pairs (record { key = key; value = value })

-- and as many as there are records.
abbrev pub CountLaw : Type 0
CountLaw = (pairs : List Pair) → IsDistinct bytes_eq (keys_of pairs) → len (map_of pairs) ≡ length pairs

-- Each bucket of a listing has just those records of the whole listing whose keys have its address.
abbrev pub PlacedLaw : Type 0
PlacedLaw =
    (listing : Lists) (bucket : ℕ) → IsListing listing → bucket < size listing →
    map_of (list_at listing.lists bucket)
    ≡ retain_keys (map_of (all_of listing.lists))
    (λ key. address listing.config.initial (size listing) (code_of key) == bucket)
