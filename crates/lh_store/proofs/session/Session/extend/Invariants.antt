-- The records so far were put.
use Rattle.std.proofs.Common.{◌≡◌, ◌≤◌}
use Rattle.lh_store.specs.Sessions.{HasPut}
use Rattle.lh_store.proofs.session.Session.extend.Given as goal

abbrev pub invariant-loop-key : goal.invariant-loop-key
invariant-loop-key g l = record {
  place : l.done ≡ l.key-index;
  few : l.added ≤ l.done;
  puts : HasPut g.Self.Session.made l.records l.initial.self l.done l.added l.self;
}
