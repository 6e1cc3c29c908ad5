-- The words of a closed file, the hand that closed it, and the buckets that it gathered
use Rattle.std.specs.Prelude.{◌≡◌, ℕ, ◌+◌, ◌^◌, ◌≤◌, Bool, true, false, List, [], length}
use Rattle.std.specs.List.{IsDistinct}
use Rattle.std.specs.Str.{bytes_eq}
use mathlib.Core.Option.{some}
use lib.ListN.{get_elem?}
use Rattle.lh_addr.specs.Settings.{Settings}
use Rattle.lh_page.specs.declared.pair.Pair.{Pair}
use Rattle.lh_page.specs.Records.{keys_of}
use Rattle.lh_bucket.specs.Bucket.{Seen}
use Rattle.lh_bucket.specs.Listing.{Lists, list_at}
use Rattle.lh_settling.specs.Acts.{stamps_of}
use Rattle.lh_settling.specs.ClosedFile.{ClosedFile}
use Rattle.lh_settling.specs.SettleFault.{IsMissing}
use Rattle.lh_settling.specs.Settled.{IsSettled}
use Rattle.lh_settling.specs.declared.act.ActLine.{ActLine}
use Rattle.lh_words.specs.History.Log.{lines_of}
use Rattle.lh_file.specs.Snapshots.Moments.{IsSnapshot}
use Rattle.lh_file.specs.Words.HandState.{HandState}
use Rattle.lh_words.specs.Rule.{Each, IsRule}
use Rattle.lh_words.specs.Sums.{times, once_below}
use Rattle.lh_words.specs.declared.numbers.FileWords.{FileWords}
use Rattle.lh_words.specs.declared.seat_view.Entry.{Entry}
use Rattle.lh_words.specs.declared.view.View.{View}

-- the rule holds of these words and of some views, of which this is one
abbrev pub RuleHolds : Settings → FileWords → View → Type 0
RuleHolds config words view =
    (views : List View) × (id : ℕ) × IsRule config.initial config.max words views × (get_elem? views id ≡ some view)

-- where the file records, and no call is left with another hand, each stamp below the stamp word
-- is among the hand's acts, once, and no other is
abbrev pub NoneIsLost : HandState → ℕ → Type 0
NoneIsLost hand drawn =
    hand.recording ≡ true → hand.view.left + length hand.acts ≡ 2 ^ 63 →
    (x : ℕ) → times x (stamps_of hand.acts) ≡ once_below x drawn

-- the first of these lists are the records of some buckets, each in the place of its number; no list has a key twice;
-- and where they are clean the lists past those have no record
pub record AreGathered (buckets : List Seen) (lists : List (List Pair)) (whole : ℕ) (clean : Bool) : Type 0 where
  pub within : whole ≤ length lists
  pub count : length buckets ≡ whole
  pub each : (place : ℕ) (bucket : Seen) → get_elem? buckets place ≡ some bucket →
      (bucket.head.number ≡ place) × (list_at lists place ≡ bucket.pairs)
  pub distinct : (place : ℕ) → IsDistinct bytes_eq (keys_of (list_at lists place))
  pub beyond : clean ≡ true → (place : ℕ) → whole ≤ place → list_at lists place ≡ []

-- none of these acts was made on a bucket that isn't the file's
abbrev pub NoneOutside : List Entry → Type 0
NoneOutside entries = Each entries (λ e. e.outside ≡ false)

-- each act of the log is one of these
abbrev pub AreAmong : List Entry → List Entry → Type 0
AreAmong entries log = Each log (λ e. (place : ℕ) × (get_elem? entries place ≡ some e))

-- A traced file was closed with all its buckets and no split under way: the hand that closed it was told of a log, of
-- all that was done with the file, and the closed file holds just what that leaves. Where each call came home to this
-- hand and none was outside, these acts are the log's, of which none is outside, and the file is settled; and each act
-- of the log is one of the hand's, with what it met.
abbrev pub HasHistory : Lists → ClosedFile → List ActLine → HandState → Type 0
HasHistory opening closed acts hand =
    (log : List Entry) × IsSnapshot opening closed hand.entries hand.logs log
    × (hand.view.left + length hand.acts ≡ 2 ^ 63 → NoneOutside hand.entries →
    IsSettled opening closed acts (lines_of log) × NoneOutside log × AreAmong hand.entries log)

-- No stamp is missing where the file records and all calls came home to the hand that closed it.
abbrev pub NoneMissingLaw : Type 0
NoneMissingLaw =
    (hand : HandState) (closed : ClosedFile) (stamp : ℕ) → hand.recording ≡ true →
    hand.view.left + length hand.acts ≡ 2 ^ 63 → NoneIsLost hand closed.stamps →
    IsMissing closed hand.acts stamp → ⊥
