-- How a seat deals its buckets out, each to a seat of its own, as the first seat of a file does with those that it
-- begins with
use Rattle.std.specs.Prelude.{ℕ, ◌-◌, Bool, List, [], ◌∷◌, map, if◌then◌else◌}
use Rattle.std.specs.List.{range_with_len}
use Rattle.lh_bucket.specs.Bucket.{Seen}
use Rattle.lh_bucket.specs.Listing.{Lists, size}
use Rattle.lh_words.specs.Seats.{opened_at, first_seat, holder}
use Rattle.lh_words.specs.declared.seat_view.SeatView.{SeatView}

-- the first of some buckets, and the others
abbrev pub first_bucket_of : List Seen → List Seen
first_bucket_of [] = []
first_bucket_of (bucket ∷ buckets) = bucket ∷ []

abbrev pub other_buckets_of : List Seen → List Seen
other_buckets_of [] = []
other_buckets_of (bucket ∷ buckets) = buckets

-- a seat that gave its first bucket away, and the seat that has it
abbrev pub dealt_seat : SeatView → SeatView
dealt_seat seat = record seat { parts = other_buckets_of seat.parts }

abbrev pub dealt_bucket_seat : SeatView → SeatView
dealt_bucket_seat seat = holder (first_bucket_of seat.parts)

-- the buckets of a listing from one on
abbrev pub buckets_from : Lists → ℕ → List Seen
buckets_from opening bucket = map (opened_at opening) (range_with_len bucket (size opening - bucket))

-- the first seat after it dealt out the buckets below one
abbrev pub undealt : Bool → Lists → ℕ → SeatView
undealt traced opening bucket = record (first_seat traced opening) {
  parts = if traced then buckets_from opening bucket else [];
}
