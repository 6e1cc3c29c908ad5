-- There is room for a session of each hand that is left.
use Rattle.std.proofs.Common.{◌≡◌, ◌+◌, ◌≤◌, All, length, vec_len, vec_capacity}
use Rattle.std.specs.Vec.Iter.{into_iter_items}
use Rattle.lh_store.specs.Sessions.{IsSession}
use Rattle.lh_store.proofs.file_session.SizedSession.beside.Given as goal

abbrev pub invariant-loop-hand : goal.invariant-loop-hand
invariant-loop-hand g l = record {
  each : All (IsSession g.M.Mode.traced g.B.SessionName.is_named g.B.SessionName.state l.self.file)
      (into_iter_items l.hand-iterator);
  room : vec_len l.sessions + length (into_iter_items l.hand-iterator) ≤ vec_capacity l.sessions;
  count : vec_len l.sessions + length (into_iter_items l.hand-iterator)
      ≡ length (into_iter_items l.initial.hand-iterator);
}
