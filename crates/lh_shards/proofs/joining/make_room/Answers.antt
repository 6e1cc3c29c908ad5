-- The hand whose turn it is gets room, or has none.
use Rattle.std.proofs.Common.{◌≡◌, ◌<◌, ◌≤◌, List, length, Some, refl, sym, ap, ◌∙◌, subst, arith}
use Rattle.std.specs.List.{slice_get}
use Rattle.std.proofs.lemmas.Option.{same_Some, slice_get_read, slice_get_within}
use Rattle.lh_file.specs.Words.HandState.{HandState}
use Rattle.lh_shards.proofs.Joins.{HasRoom, room_before}
use Rattle.lh_shards.proofs.Passing.{passed_next}
use Rattle.lh_shards.proofs.Places.{set_other}
use Rattle.lh_shards.proofs.joining.make_room.Goals as goal
use Rattle.lh_shards.proofs.joining.make_room.Goals.{After-make_room_for}

second_at : (c : After-make_room_for) → slice_get c.args.second.now c.loop-shard.shard ≡ Some c.index.result.now
second_at c =
    let size : c.len-shard-end.result ≡ length c.second.inside.hands.items =
    c.len-shard-end.ensures ∙ c.second.inside.hands.ok.0 in
    subst (λ (l : List HandState). slice_get l c.loop-shard.shard ≡ Some c.index.result.now) c.second.view_is
    (slice_get_read c.second.inside.hands.items (length c.second.inside.hands.items) c.loop-shard.shard
    c.index.result.now refl (omega (arith, size, c.loop-shard-test.true)) c.index.ensures)

first_at : (c : After-make_room_for) → slice_get c.args.first.now c.loop-shard.shard ≡ Some c.index_mut.result.now
first_at c =
    let in_second : c.loop-shard.shard < length c.args.second.now =
    slice_get_within c.args.second.now c.loop-shard.shard c.index.result.now (second_at c) in
    let count : length c.loop-shard.first-inside.hands.items ≡ length c.args.first.now = c.loop-shard.invariant.count in
    let le : c.loop-shard.shard ≤ c.loop-shard.shard = omega arith in
    sym (c.loop-shard.invariant.rest c.loop-shard.shard le)
    ∙ slice_get_read c.loop-shard.first-inside.hands.items (length c.loop-shard.first-inside.hands.items)
    c.loop-shard.shard c.index_mut.result.now refl (omega (arith, in_second, count, c.requires.count))
    c.index_mut.ensures.value

pub returns-in-Err-clause-before : goal.returns-in-Err-clause-before
returns-in-Err-clause-before c k one other lt ko kp =
    room_before c.args.second.now c.args.first.now c.loop-shard.first-inside.hands.items c.loop-shard.shard k one other
    c.loop-shard.invariant lt
    (sym
    (set_other c.loop-shard.first-inside.hands.items c.loop-shard.shard c.make_room_for.new.self k
    (λ e. omega (arith, lt, e))) ∙ ko) kp

pub loop-shard-preserved : goal.loop-shard-preserved
loop-shard-preserved c =
    let before : After-make_room_for = (goal.at.loop-shard-preserved c).After-make_room_for in
    passed_next (HasRoom c.args.second.now) c.loop-shard.shard c.args.first.now c.loop-shard.first-inside.hands.items
    c.index_mut.result.now c.make_room_for.new.self (first_at before) (
      c.make_room_for.ensures.same,
      λ other at.
          subst (λ (h : HandState). length h.acts ≤ c.make_room_for.new.self.room)
          (same_Some c.index.result.now other (sym (second_at before) ∙ at)) c.in-Ok.ensures.ok,
    )
    c.loop-shard.invariant

pub returns-clause-room : goal.returns-clause-room
returns-clause-room c k one other ko kp =
    let size : c.len-shard-end.result ≡ length c.second.inside.hands.items =
    c.len-shard-end.ensures ∙ c.second.inside.hands.ok.0 in
    let same : length c.second.inside.hands.items ≡ length c.args.second.now = ap length c.second.view_is in
    let within : k < length c.args.second.now = slice_get_within c.args.second.now k other kp in
    room_before c.args.second.now c.args.first.now c.loop-shard.first-inside.hands.items c.loop-shard.shard k one other
    c.loop-shard.invariant (omega (arith, within, size, same, c.loop-shard-test.false)) ko kp
