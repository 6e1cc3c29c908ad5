use Rattle.std.proofs.Common.{◌≡◌, ◌*◌, ◌≤◌, All, length}
use Rattle.std.specs.Vec.{vec_len, vec_capacity}
use Rattle.lh_file.specs.Words.HandState.{IsBranch, seeing}
use Rattle.lh_words.specs.Views.{lessened}
use Rattle.lh_file.proofs.file.SizedFile.given_hands.Given as goal

abbrev pub invariant-loop-thread : goal.invariant-loop-thread
invariant-loop-thread g l = record {
  many : length l.hands.items ≡ l._thread;
  len : vec_len l.hands ≡ l._thread;
  room : l.count ≤ vec_capacity l.hands;
  given : All (IsBranch l.calls l.fn.hand) l.hands.items;
  kept : l.hand ≡ seeing l.fn.hand (lessened (l._thread * l.calls) l.fn.hand.view);
}
