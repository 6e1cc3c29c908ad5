-- When a closed file is settled: its acts are one legal history of a plain map, and the file holds what they leave
use Rattle.std.specs.Prelude.{◌≡◌, ◌%◌, List}
use Rattle.std.specs.List.{range_with_len}
use Rattle.lh_bucket.specs.Listing.{Lists, all_of}
use Rattle.lh_bucket.specs.PlainMap.{Records, replies, outcome}
use Rattle.lh_bucket.specs.Records.{map_of}
use Rattle.lh_settling.specs.declared.act.ActLine.{ActLine}
use Rattle.lh_settling.specs.Acts.{stamps_of, calls_of, replies_of, IsInOrder}
use Rattle.lh_addr.specs.RootWord.{buckets_of}
use Rattle.lh_settling.specs.ClosedFile.{ClosedFile}
use Rattle.lh_settling.specs.Contents.{ArePlaced}

-- the map that a listing stands for
abbrev pub map_in : Lists → Records
map_in listing = map_of (all_of listing.lists)

-- what the calls of a history leave of a listing's map
abbrev pub left_by : Lists → List ActLine → Records
left_by opening history = outcome (map_in opening) (calls_of history)

-- no split is under way, and the history is the acts in the order of their stamps, which are 0, 1,
-- and so on, each number below the stamp word once
pub record IsStamped (closed : ClosedFile) (acts history : List ActLine) : Type 0 where
  pub whole : closed.root % 2 ≡ 0
  pub order : IsInOrder acts history
  pub stamps : stamps_of history ≡ range_with_len 0 closed.stamps

-- the replies that the calls were given are those of the listing's map
abbrev pub IsLegal : Lists → List ActLine → Type 0
IsLegal opening history = replies_of history ≡ replies (map_in opening) (calls_of history)

-- the records of a closed file are those of a map, each in the bucket of its address
abbrev pub HoldsMap : ClosedFile → Records → Type 0
HoldsMap closed records = ArePlaced closed.config.initial (buckets_of closed.root) records closed.lists

-- The file is settled, with this history.
pub record IsSettled (opening : Lists) (closed : ClosedFile) (acts history : List ActLine) : Type 0 where
  pub stamped : IsStamped closed acts history
  pub legal : IsLegal opening history
  pub placed : HoldsMap closed (left_by opening history)

-- The file is settled.
abbrev pub Settled : Lists → ClosedFile → List ActLine → Type 0
Settled opening closed acts = (history : List ActLine) × IsSettled opening closed acts history
