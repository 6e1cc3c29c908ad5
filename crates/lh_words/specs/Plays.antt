-- What each kind of atomic step does to the hand that takes it, and tells: of the step, the seat before
-- it, the number that it found, and the seat after
use Rattle.std.specs.Prelude.{◌≡◌, ◌≢◌, ℕ, ◌+◌, ◌*◌, ◌%◌, ◌<◌, ◌≤◌, ◌^◌, Bool, true, false, List, [], ◌∷◌, length, All}
use Rattle.std.specs.Prelude.{Option, None}
use Rattle.atomic_table.specs.Table.{Me, Step}
use Rattle.lh_addr.specs.RootWord.{buckets_of}
use Rattle.lh_bucket.specs.Bucket.{Seen}
use Rattle.lh_bucket.specs.Listing.{Lists}
use Rattle.lh_bucket.specs.declared.call.Call.{Call}
use Rattle.lh_bucket.specs.declared.call.Reply.{Reply}
use Rattle.lh_words.specs.History.Told.{IsSurveyed}
use Rattle.lh_words.specs.Rule.{rights_of}
use Rattle.lh_words.specs.Seats.{with_view, with_act, pointed_seat, told_seat}
use Rattle.lh_words.specs.Views.{rooted}
use Rattle.lh_words.specs.declared.seat_view.Entry.{Entry}
use Rattle.lh_words.specs.declared.seat_view.SeatView.{SeatView}
use Rattle.lh_words.specs.declared.view.View.{View}

-- a hand's seat at the table, which holds no slot
abbrev pub Seated : Type 0
Seated = Me (Unit {0}) SeatView

-- the hand may move the next split of a file of this many buckets: it has the right, it knows that number, it has moved
-- none, and no bucket and no slot lies with it
pub record MayMove (buckets : ℕ) (me : Seated) : Type 0 where
  pub free : me.1 ≡ []
  pub bucketless : me.0.parts ≡ []
  pub right : me.0.view.has_right ≡ true
  pub known : me.0.view.known ≡ buckets
  pub unmoved : me.0.moved ≡ false

-- what a step tells
abbrev pub Telling : Type 1
Telling = Step (Unit {0}) → Seated → ℕ → Seated → Type 0

-- a root word that a hand may find: no fewer buckets than it has seen, within its file's limits, and the
-- very word that it knows where it has the right
pub record IsFound (view : View) (word : ℕ) : Type 0 where
  pub rises : view.known ≤ buckets_of word
  pub least : view.initial ≤ buckets_of word
  pub greatest : buckets_of word + word % 2 ≤ view.max
  pub exact : view.has_right ≡ true → word ≡ 2 * view.known + 1

-- a hand that has seen the size that a root word tells, with the right to split or without it
abbrev pub seen_root : Seated → ℕ → Bool → Seated
seen_root me word has_right = (with_view me.0 (rooted me.0.view (buckets_of word) has_right), me.1)

-- a load of the root word: the hand has seen its size
abbrev pub loaded_root : Telling
loaded_root step before word after =
    IsFound before.0.view word
    × (after ≡ seen_root before word before.0.view.has_right)

-- a compare-exchange of the root word from even to odd: the hand has the right where it found the word that it
-- expected, and has seen the size that it found
abbrev pub claimed : Telling
claimed step before word after =
    IsFound before.0.view word
    × (word ≡ step.first → (before.0.view.has_right ≡ false) × (after ≡ seen_root before word true))
    × (word ≢ step.first → after ≡ seen_root before word before.0.view.has_right)

-- an addition of 1 to the root word, with the right: the file has one bucket
-- more, the right is given up, and the split is over
abbrev pub pointed : Telling
pointed step before word after =
    (word ≡ 2 * before.0.view.known + 1)
    × (after ≡ (pointed_seat before.0, before.1))

-- a subtraction of 1 from the root word, with the right: it is given up
abbrev pub dropped : Telling
dropped step before word after =
    (word ≡ 2 * before.0.view.known + 1)
    × (after ≡ (with_view before.0 (rooted before.0.view before.0.view.known false), before.1))

-- an addition of 1 to the stamp word, for an act on a bucket that isn't the file's: the hand drew the
-- number found, which is greater than all that it had
abbrev pub drawn_outside : Call → Reply → Telling
drawn_outside call given step before stamp after =
    All (λ x. x < stamp) before.0.view.stamps
    × (before.0.view.inserted + before.0.view.deleted ≤ length before.0.view.stamps)
    × (after ≡ (with_act true call given None before.0.parts stamp before.0, before.1))

-- an addition of 1 to the stamp word, for an act on the file's bucket that lies with the hand, and is this one now,
-- where the act met this under its key: the hand was told of no more acts than the number found
abbrev pub drawn : Call → Reply → Option (List ℕ) → Seen → Telling
drawn call given was bucket step before stamp after =
    All (λ x. x < stamp) before.0.view.stamps
    × (before.0.view.floor ≤ stamp)
    × (before.0.view.inserted + before.0.view.deleted ≤ length before.0.view.stamps)
    × (after ≡ (with_act false call given was (bucket ∷ []) stamp before.0, before.1))

-- a load of the stamp word: the hand was told of a log of this many acts, which are no fewer than it was told before;
-- and in a traced file that was opened from this listing, the log leaves just what the buckets hold that lie with the
-- hand
abbrev pub told : Bool → Lists → Telling
told traced opening step before word after =
    (before.0.view.floor ≤ word)
    × (log : List Entry) × (after ≡ (told_seat word log before.0, before.1))
    × (traced ≡ true → IsSurveyed opening word before.0.entries before.0.logs before.0.parts log)

-- an addition of 1 to the count of inserts
abbrev pub counted_insert : Telling
counted_insert step before word after =
    after ≡ (with_view before.0 (record (before.0.view) { inserted = before.0.view.inserted + 1 }), before.1)

-- an addition of 1 to the count of deletes
abbrev pub counted_delete : Telling
counted_delete step before word after =
    after ≡ (with_view before.0 (record (before.0.view) { deleted = before.0.view.deleted + 1 }), before.1)

-- a load of the count of inserts: it is no less than the hand's own; and of any hand the
-- rule bounds what it knows and what it may draw
abbrev pub loaded_inserts : Telling
loaded_inserts step before word after =
    (before.0.view.inserted ≤ word)
    × (before.0.view.known + rights_of before.0.view ≤ before.0.view.max)
    × (before.0.view.left + length before.0.view.stamps ≤ 2 ^ 63)
    × (after ≡ before)

-- a load of the count of deletes: it is no less than the hand's own
abbrev pub loaded_deletes : Telling
loaded_deletes step before word after = (before.0.view.deleted ≤ word) × (after ≡ before)
