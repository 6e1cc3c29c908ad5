-- What the fields of a file's table say, and what counting leaves
use Rattle.std.proofs.Common.{◌≡◌, ℕ, ◌+◌, ◌<◌, ◌≤◌, ◌^◌, refl, arith}
use Rattle.lh_bucket.specs.Change.{reply_of}
use Rattle.lh_bucket.specs.declared.change.ChangeReply.{ChangeReply}
use Rattle.lh_bucket.specs.declared.change.ChangeReply.TheVariants as change
use Rattle.lh_words.specs.Counting.{with_counts}
use Rattle.lh_words.specs.Seats.{with_view}
use Rattle.lh_words.specs.TableState.{IsWordTable}
use Rattle.lh_words.specs.declared.offsets.TheConstants.{WIDTH}
use Rattle.lh_words.specs.declared.seat_view.SeatView.{SeatView}
use Rattle.lh_words.specs.declared.table.WordTable.TheInside as table

-- what a table's fields are known to be
pub has_word : {M : Type 0} (t : table.Inside M) → IsWordTable t → (i : ℕ) → i < WIDTH →
    i < t.words.shared.table_id.words
has_word t is i h = let w = is.words in omega arith

-- a file may have fewer than 2^32 buckets
pub small : {M : Type 0} (t : table.Inside M) → IsWordTable t → t.words.shared.key.config.max < 2 ^ 32
small t is = let range = is.in_range.max.1 in omega arith

-- a file began with one bucket at least
pub some_buckets : {M : Type 0} (t : table.Inside M) → IsWordTable t → 1 ≤ t.words.shared.key.config.initial
some_buckets t is = let range = is.in_range.initial.0 in omega arith

-- a number that stays positive
pub still_live : (new old : ℕ) → new ≡ old → 0 < old → 0 < new
still_live new old e live = omega arith

as_before : (seat : SeatView) →
    seat ≡ with_view seat (record (seat.view) { inserted = seat.view.inserted + 0; deleted = seat.view.deleted + 0 })
as_before seat =
    let a : seat.view.inserted ≡ seat.view.inserted + 0 = omega arith in
    let b : seat.view.deleted ≡ seat.view.deleted + 0 = omega arith in
    λ i. with_view seat (record (seat.view) { inserted = a i; deleted = b i })

-- of other replies to changes nothing is counted
pub with_counts-change : (r : ChangeReply) (seat : SeatView) → (r ≡ change.Inserted → ⊥) → (r ≡ change.Deleted → ⊥) →
    seat ≡ with_counts (reply_of r) seat
with_counts-change change.Inserted seat a b = absurd (a refl)
with_counts-change change.Exists seat a b = as_before seat
with_counts-change change.Deleted seat a b = absurd (b refl)
with_counts-change change.Replaced seat a b = as_before seat
with_counts-change change.Absent seat a b = as_before seat
