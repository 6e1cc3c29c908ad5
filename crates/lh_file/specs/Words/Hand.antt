-- What a hand's fields are
use Rattle.std.specs.Prelude.{◌≡◌, ◌+◌, ◌-◌, ◌<◌, ◌≤◌, true, false, [], vec_len, vec_capacity}
use Rattle.lh_words.specs.History.Log.{lines_of, stamps_in}
use Rattle.lh_file.specs.Words.HandState.{HandState}
use Rattle.lh_words.specs.Rule.{rights_of}
use Rattle.lh_file.specs.declared.words.hand.Hand.TheInside.{Inside}

-- what contracts see of the fields
abbrev pub hand_state_of : Inside → HandState
hand_state_of hand = record {
  table = hand.seat.table_id;
  view = hand.seat.me.0.view;
  recording = hand.recording;
  entries = hand.seat.me.0.entries;
  logs = hand.seat.me.0.logs;
  acts = hand.acts.items;
  room = vec_capacity hand.acts - vec_len hand.acts;
}

-- the fields say what the hand's view says, no bucket lies with the hand, it has moved no split, its stamps are those
-- of its acts, and it keeps their lines where the file records
pub record IsHand (hand : Inside) : Type 0 where
  pub known : hand.known ≡ hand.seat.me.0.view.known
  pub right : hand.has_right ≡ hand.seat.me.0.view.has_right
  pub left : hand.left ≡ hand.seat.me.0.view.left
  pub live : 0 < hand.seat.me.0.view.initial
  pub least : hand.seat.me.0.view.initial ≤ hand.seat.me.0.view.known
  pub greatest : hand.seat.me.0.view.known + rights_of hand.seat.me.0.view ≤ hand.seat.me.0.view.max
  pub free : hand.seat.me.1 ≡ []
  pub bucketless : hand.seat.me.0.parts ≡ []
  pub unmoved : hand.seat.me.0.moved ≡ false
  pub entered : stamps_in hand.seat.me.0.entries ≡ hand.seat.me.0.view.stamps
  pub recorded : hand.recording ≡ true → hand.acts.items ≡ lines_of hand.seat.me.0.entries
  pub silent : hand.recording ≡ false → hand.acts.items ≡ []
