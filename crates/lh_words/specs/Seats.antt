-- What the rule knows of a seat: how it begins, and how it is divided and joined
use Rattle.std.specs.Prelude.{ℕ, ◌+◌, Bool, true, false, List, [], ◌∷◌, ◌++◌, map, Option, Some, None, if◌then◌else◌}
use Rattle.std.specs.FinMap.{get}
use Rattle.std.specs.List.{range_with_len}
use Rattle.lh_addr.specs.Growth.{level_of}
use Rattle.lh_bucket.specs.Bucket.{Head, Seen, content}
use Rattle.lh_bucket.specs.Listing.{Lists, size, list_at}
use Rattle.lh_bucket.specs.declared.call.Call.{Call}
use Rattle.lh_bucket.specs.declared.call.Reply.{Reply}
use Rattle.lh_words.specs.History.Log.{entry}
use Rattle.lh_words.specs.Views.{Sizes, first_view, spent, rooted, stamped_with, floored, lessened, branch}
use Rattle.lh_words.specs.Views.{joined_views}
use Rattle.lh_words.specs.declared.seat_view.Entry.{Entry}
use Rattle.lh_words.specs.declared.seat_view.SeatView.{SeatView}
use Rattle.lh_words.specs.declared.view.View.{View}

-- the sizes of a file that is opened from a listing
abbrev pub sizes_of : Lists → Sizes
sizes_of opening = record { initial = opening.config.initial; opened = size opening; max = opening.config.max }

-- a bucket of a listing, but for its records: it is filled at its local level in a file of the listing's size
abbrev pub listed_head : Lists → ℕ → Head
listed_head listing bucket = record {
  number = bucket;
  initial = listing.config.initial;
  capacity = listing.config.capacity;
  level = Some (level_of listing.config.initial (size listing) bucket);
}

-- the bucket of a listing at a place
abbrev pub opened_at : Lists → ℕ → Seen
opened_at opening bucket = record { head = listed_head opening bucket; pairs = list_at opening.lists bucket }

-- the buckets of a listing
abbrev pub buckets_in : Lists → List Seen
buckets_in opening = map (opened_at opening) (range_with_len 0 (size opening))

-- the first seat is a hand's, and in a traced file it has all buckets
abbrev pub first_seat : Bool → Lists → SeatView
first_seat traced opening = record {
  view = first_view (sizes_of opening);
  entries = [];
  logs = [];
  parts = if traced then buckets_in opening else [];
  moved = false;
}

-- a seat that is no hand's, with these buckets
abbrev pub holder : List Seen → SeatView
holder parts = record { view = spent; entries = []; logs = []; parts = parts; moved = false }

-- the same seat, which as a hand knows, has and did this
abbrev pub with_view : SeatView → View → SeatView
with_view seat view = record seat { view = view }

-- what the first of some buckets has under a key
abbrev pub met_in : List Seen → List ℕ → Option (List ℕ)
met_in [] key = None
met_in (bucket ∷ buckets) key = get (content bucket) key

-- the seat made an act, outside or not, that met this under its key: it has one stamp and one entry more, and these
-- buckets
abbrev pub with_act : Bool → Call → Reply → Option (List ℕ) → List Seen → ℕ → SeatView → SeatView
with_act outside call given was parts stamp seat = record {
  view = stamped_with seat.view stamp;
  entries = seat.entries ++ entry outside stamp call given was ∷ [];
  logs = seat.logs;
  parts = parts;
  moved = seat.moved;
}

-- the seat took in what another knows of buckets
abbrev pub with_parts : SeatView → SeatView → SeatView
with_parts seat bucket_seat = record seat { parts = seat.parts ++ bucket_seat.parts }

-- the seat gave its buckets to a new one
abbrev pub partless : SeatView → SeatView
partless seat = record seat { parts = [] }

-- the new one
abbrev pub holder_of : SeatView → SeatView
holder_of seat = holder seat.parts

-- the seat has moved a split, of whose halves the lower stays with it
abbrev pub mover : Seen → SeatView → SeatView
mover low seat = record seat { parts = low ∷ []; moved = true }

-- the upper one has a seat of its own
abbrev pub upper_half : Seen → SeatView
upper_half high = holder (high ∷ [])

-- the pointer has moved past the bucket that was split: the seat knows of one bucket more, and has no right to split
abbrev pub pointed_seat : SeatView → SeatView
pointed_seat seat = record seat { view = rooted seat.view (seat.view.known + 1) false; moved = false }

-- in a traced file the seat has moved a split
abbrev pub moved_by : Bool → SeatView → SeatView
moved_by traced seat = record seat { moved = traced }

-- the seat was told of a log of this many acts
abbrev pub told_seat : ℕ → List Entry → SeatView → SeatView
told_seat floor log seat = record seat { view = floored seat.view floor; logs = seat.logs ++ log ∷ [] }

-- a bucket that is no file's
abbrev pub unowned_bucket : Seen
unowned_bucket = record { head = record { number = 0; initial = 1; capacity = 1; level = None }; pairs = [] }

-- what no file was opened from
abbrev pub no_listing : Lists
no_listing = record { config = record { initial = 1; capacity = 1; load = 10; max = 1 }; lists = [] }

-- the hand's seat after it gave this many calls away
abbrev pub lessened_seat : ℕ → SeatView → SeatView
lessened_seat calls seat = with_view seat (lessened calls seat.view)

-- the seat of the hand that got them
abbrev pub branch_seat : ℕ → SeatView → SeatView
branch_seat calls seat = record {
  view = branch calls seat.view;
  entries = [];
  logs = [];
  parts = [];
  moved = false;
}

-- the seats of two hands in one
abbrev pub joined_seats : SeatView → SeatView → SeatView
joined_seats first second = record {
  view = joined_views first.view second.view;
  entries = first.entries ++ second.entries;
  logs = first.logs ++ second.logs;
  parts = first.parts ++ second.parts;
  moved = first.moved;
}
