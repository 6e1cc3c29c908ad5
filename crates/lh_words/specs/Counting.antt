-- What the counts of inserts and deletes say of an act
use Rattle.std.specs.Prelude.{ℕ, ◌+◌}
use Rattle.lh_bucket.specs.declared.call.Reply.{Reply}
use Rattle.lh_bucket.specs.declared.call.Reply.TheVariants.{Found, Absent, Inserted, Exists, Deleted, Replaced}
use Rattle.lh_words.specs.Seats.{with_view}
use Rattle.lh_words.specs.declared.seat_view.SeatView.{SeatView}

-- how many records an act with this reply added
abbrev pub inserts_of : Reply → ℕ
inserts_of (Found value) = 0
inserts_of Absent = 0
inserts_of Inserted = 1
inserts_of Exists = 0
inserts_of Deleted = 0
inserts_of Replaced = 0

-- how many records an act with this reply removed
abbrev pub deletes_of : Reply → ℕ
deletes_of (Found value) = 0
deletes_of Absent = 0
deletes_of Inserted = 0
deletes_of Exists = 0
deletes_of Deleted = 1
deletes_of Replaced = 0

-- the seat counted the reply of an act
abbrev pub with_counts : Reply → SeatView → SeatView
with_counts reply seat = with_view seat (record (seat.view) {
  inserted = seat.view.inserted + inserts_of reply;
  deleted = seat.view.deleted + deletes_of reply;
})
