-- A whole file as lists of records, one for each bucket
use Rattle.std.specs.Prelude.{◌≡◌, ◌≢◌, ℕ, ◌/◌, ◌^◌, ◌<◌, ◌≤◌, Bool, true, false, List, [], ◌∷◌, ◌++◌, length, sum_by}
use Rattle.std.specs.Prelude.{slice_index_or}
use Rattle.std.specs.List.{IsDistinct, All}
use Rattle.std.specs.Str.{bytes_eq}
use Rattle.lh_addr.specs.Fnv.{code_of}
use Rattle.lh_addr.specs.Growth.{address}
use Rattle.lh_addr.specs.Settings.{Settings, IsInRange}
use Rattle.lh_page.specs.declared.pair.Pair.{Pair}
use Rattle.lh_page.specs.Records.{keys_of, key_at, IsRecord}

-- the configuration of a file, and the records of each of its buckets, in the order of their places
pub record Lists : Type 0 where
  pub config : Settings
  pub lists : List (List Pair)

-- the number of buckets
abbrev pub size : Lists → ℕ
size listing = length listing.lists

-- the records of a bucket, and none where there is no such bucket
abbrev pub list_at : List (List Pair) → ℕ → List Pair
list_at lists bucket = slice_index_or lists bucket []

-- the records of all buckets, one bucket after another
abbrev pub all_of : List (List Pair) → List Pair
all_of [] = []
all_of (pairs ∷ lists) = pairs ++ all_of lists

-- the number of records of all buckets
abbrev pub count_of : List (List Pair) → ℕ
count_of lists = sum_by (λ pairs. length pairs) lists

-- there are as many lists as buckets, and a file of the configuration may have that many
pub record IsShape (config : Settings) (buckets : ℕ) (lists : List (List Pair)) : Type 0 where
  pub from_initial : config.initial ≤ buckets
  pub to_max : buckets ≤ config.max
  pub each : length lists ≡ buckets

-- a fact about a place in the list of a bucket
abbrev pub PlaceFact : Type 1
PlaceFact = ℕ → List Pair → ℕ → Type 0

-- the record at the place belongs to the bucket
abbrev pub IsHome : ℕ → ℕ → PlaceFact
IsHome initial buckets bucket pairs place = address initial buckets (code_of (key_at pairs place)) ≡ bucket

-- it belongs to another bucket
abbrev pub IsAway : ℕ → ℕ → PlaceFact
IsAway initial buckets bucket pairs place = address initial buckets (code_of (key_at pairs place)) ≢ bucket

-- no record before the place has its key
abbrev pub IsNew : PlaceFact
IsNew bucket pairs place = (earlier : ℕ) → earlier < place → key_at pairs earlier ≢ key_at pairs place

-- a record before the place has its key
abbrev pub IsAgain : PlaceFact
IsAgain bucket pairs place = (earlier : ℕ) × (earlier < place) × (key_at pairs earlier ≡ key_at pairs place)

-- the first eight of the 64 bits of a code
unfoldable pub top_of : ℕ → ℕ
top_of code = code / 2 ^ 56

-- the tops of the codes of the first records' keys are among these
abbrev pub AreTopsOf : List Bool → List Pair → ℕ → Type 0
AreTopsOf tops pairs n = (p : ℕ) → p < n → slice_index_or tops (top_of (code_of (key_at pairs p))) false ≡ true

-- a fact holds at each place of each list
abbrev pub EachPlace : PlaceFact → List (List Pair) → Type 0
EachPlace Good lists =
    (bucket place : ℕ) → place < length (list_at lists bucket) → Good bucket (list_at lists bucket) place

-- the first place, by the bucket and then by the place, at which one fact fails and the other holds
pub record IsFirst (Good Bad : PlaceFact) (lists : List (List Pair)) (bucket place : ℕ) : Type 0 where
  pub within : place < length (list_at lists bucket)
  pub fault : Bad bucket (list_at lists bucket) place
  pub here : (p : ℕ) → p < place → Good bucket (list_at lists bucket) p
  pub before : (b p : ℕ) → b < bucket → p < length (list_at lists b) → Good b (list_at lists b) p

-- what holds of every listing: keys and values have the lengths that they may have, each record stands in the list of
-- its bucket, and no key stands twice
pub record IsListing (listing : Lists) : Type 0 where
  pub config : IsInRange listing.config
  pub shape : IsShape listing.config (size listing) listing.lists
  pub records : (bucket : ℕ) → All IsRecord (list_at listing.lists bucket)
  pub home : EachPlace (IsHome listing.config.initial (size listing)) listing.lists
  pub distinct : (bucket : ℕ) → IsDistinct bytes_eq (keys_of (list_at listing.lists bucket))
