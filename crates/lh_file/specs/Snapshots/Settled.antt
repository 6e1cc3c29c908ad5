-- A snapshot of a file whose acts are settled
use Rattle.std.specs.Prelude.{◌≡◌, ◌+◌, ◌%◌, ◌^◌, List, Contains, length, take}
use Rattle.lh_bucket.specs.Listing.{Lists}
use Rattle.lh_settling.specs.Acts.{acts_before}
use Rattle.lh_settling.specs.ClosedFile.{ClosedFile}
use Rattle.lh_settling.specs.Settled.{IsStamped, IsSettled}
use Rattle.lh_settling.specs.declared.act.ActLine.{ActLine}
use Rattle.lh_file.specs.Closing.{NoneOutside, HasHistory}
use Rattle.lh_file.specs.Snapshots.Moments.{IsSnapshot}
use Rattle.lh_file.specs.Words.HandState.{HandState}
use Rattle.lh_words.specs.declared.seat_view.Entry.{Entry}

-- The acts that came before the snapshot are settled with it, and their history is the first part of this one.
abbrev pub IsSettledFirst : Lists → ClosedFile → List ActLine → List ActLine → Type 0
IsSettledFirst opening snapshot acts history =
    IsSettled opening snapshot (acts_before snapshot.stamps acts) (take snapshot.stamps history)

-- The history of the acts that came before a snapshot is the first part of the history of all of them.
abbrev pub BeforeLaw : Type 0
BeforeLaw =
    (snapshot closed : ClosedFile) (acts before history : List ActLine) →
    IsStamped snapshot (acts_before snapshot.stamps acts) before → IsStamped closed acts history →
    before ≡ take snapshot.stamps history

-- A snapshot of a traced file, with no split under way, was taken by the hand that closed the file, or by one that was
-- joined into it. Where each call came home to that hand and none was outside, the acts that came before the snapshot
-- are settled with it, and their history is the first part of the file's.
abbrev pub SnapshotLaw : Type 0
SnapshotLaw =
    (opening : Lists) (snapshot closed : ClosedFile) (entries : List Entry) (logs : List (List Entry))
    (log : List Entry)
    (hand : HandState) (acts history : List ActLine) → snapshot.root % 2 ≡ 0 →
    IsSnapshot opening snapshot entries logs log → Contains hand.logs log → HasHistory opening closed acts hand →
    hand.view.left + length hand.acts ≡ 2 ^ 63 → NoneOutside hand.entries → IsSettled opening closed acts history →
    IsSettledFirst opening snapshot acts history
