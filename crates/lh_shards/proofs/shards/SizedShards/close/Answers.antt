-- The next file is closed by the next hand.
use Rattle.std.proofs.Common.{suc, ◌≡◌, ℕ, ◌+◌, ◌<◌, ◌≤◌, List, drop, length, map, Some, add-one, sym, ap, ◌∙◌, subst}
use Rattle.std.proofs.Common.{lit<, arith}
use Rattle.std.specs.List.{slice_get}
use Rattle.std.specs.Vec.Iter.{into_iter_items, into_iter_len}
use Rattle.std.proofs.lemmas.List.{length_push}
use Rattle.std.proofs.lemmas.Option.{slice_get_within}
use Rattle.lh_file.specs.FileState.{FileState}
use Rattle.lh_file.specs.HashFile.{Shared}
use Rattle.lh_file.specs.Words.HandState.{HandState}
use Rattle.lh_settling.specs.declared.act.ActLine.{ActLine}
use Rattle.lh_shards.specs.Closing.{IsClosedBy}
use Rattle.lh_shards.specs.Hands.{AreAtHome}
use Rattle.lh_shards.specs.declared.closed_shard.ClosedShard.{ClosedShard}
use Rattle.lh_shards.proofs.Places.{EachThree, there, left_next, three_next}
use Rattle.lh_shards.proofs.shards.SizedShards.close.Given.{Over}
use Rattle.lh_shards.proofs.shards.SizedShards.close.Goals as goal
use Rattle.lh_shards.proofs.shards.SizedShards.close.Goals.{In-Some-next}

file_next : (g : Over) (c : In-Some-next g) →
    (slice_get c.args.self c.loop-shard._shard ≡ Some c.in-Some.file.state)
    × (drop (suc c.loop-shard._shard) c.args.self ≡
    map (λ (file : Shared). file.state) (into_iter_items c.next.new.self))
file_next g c =
    left_next c.args.self (map (λ (file : Shared). file.state) (into_iter_items c.next.new.self)) c.loop-shard._shard
    c.in-Some.file.state
    (sym c.loop-shard.invariant.files ∙ ap (map (λ (file : Shared). file.state)) c.in-Some.ensures.items)

hand_next : (g : Over) (c : In-Some-next g) →
    (slice_get c.args.hands c.loop-shard._shard ≡ Some c.in-Some-next.hand)
    × (drop (suc c.loop-shard._shard) c.args.hands ≡ into_iter_items c.next-in-loop-shard.new.self)
hand_next g c =
    left_next c.args.hands (into_iter_items c.next-in-loop-shard.new.self) c.loop-shard._shard c.in-Some-next.hand
    (sym c.loop-shard.invariant.hands ∙ c.in-Some-next.ensures.items)

pub close_shard-requires : goal.close_shard-requires
close_shard-requires g c = (
  lit< tt,
  (c.requires.each c.loop-shard._shard c.in-Some.file.state c.in-Some-next.hand (file_next g c).0 (hand_next g c).0).of,
)

pub loop-shard-preserved : goal.loop-shard-preserved
loop-shard-preserved g c =
    let i : ℕ = c.loop-shard._shard in
    let next_file = file_next g (goal.at.loop-shard-preserved g c).In-Some-next in
    let next_hand = hand_next g (goal.at.loop-shard-preserved g c).In-Some-next in
    let fewer_files : into_iter_len c.next.new.self + 1 ≡ into_iter_len c.loop-shard.files = c.in-Some.ensures.len in
    let fewer_hands : into_iter_len c.next-in-loop-shard.new.self + 1 ≡ into_iter_len c.loop-shard.hands =
    c.in-Some-next.ensures.len in
    record {
      files =
          subst (λ n. map (λ (file : Shared). file.state) (into_iter_items c.next.new.self) ≡ drop n c.args.self)
          (sym (add-one i)) (sym next_file.1);
      hands =
          subst (λ n. into_iter_items c.next-in-loop-shard.new.self ≡ drop n c.args.hands) (sym (add-one i))
          (sym next_hand.1);
      files_left = omega (arith, fewer_files, c.loop-shard.invariant.files_left);
      hands_left = omega (arith, fewer_hands, c.loop-shard.invariant.hands_left);
      many =
          ap length c.in_ok-push.ensures.items ∙ length_push c.loop-shard.shards.items c.in_ok-shard.shard
          ∙ ap (λ n. n + 1) c.loop-shard.invariant.many;
      each =
          subst (λ (l : List ClosedShard). EachThree (IsClosedBy g.M.Mode.traced) c.args.self c.args.hands l)
          (sym c.in_ok-push.ensures.items)
          (three_next (IsClosedBy g.M.Mode.traced) c.args.self c.args.hands c.loop-shard.shards.items i
          c.in-Some.file.state c.in-Some-next.hand c.in_ok-shard.shard c.loop-shard.invariant.many next_file.0
          next_hand.0 c.in_ok-shard.ensures c.loop-shard.invariant.each);
    }

pub invariant_of-result : goal.invariant_of-result
invariant_of-result g c =
    let range : (1 ≤ c.count-count.result) × (c.count-count.result ≤ 1024) = c.count-count.ensures.range in
    let end : c.loop-shard._shard ≤ c.count-count.result = c.loop-shard.auto._shard-end in
    let many : length c.loop-shard.shards.items ≡ length c.args.self =
    omega (arith, c.loop-shard.invariant.many, c.loop-shard-test.false, c.count-count.ensures.value, end) in
    record {
      range = (
        omega (arith, many, range.0, c.count-count.ensures.value),
        omega (arith, many, range.1, c.count-count.ensures.value),
      );
      home = λ k closed at.
          let lt : k < length c.loop-shard.shards.items = slice_get_within c.loop-shard.shards.items k closed at in
          let long : length c.args.hands ≡ length c.args.self = c.requires.count in
          let file : (x : FileState) × (slice_get c.args.self k ≡ Some x) =
          there c.args.self k (omega (arith, lt, many)) in
          let hand : (x : HandState) × (slice_get c.args.hands k ≡ Some x) =
          there c.args.hands k (omega (arith, lt, many, long)) in
          let by : IsClosedBy g.M.Mode.traced file.0 hand.0 closed =
          c.loop-shard.invariant.each k file.0 hand.0 closed file.1 hand.1 at in
          subst (λ n. AreAtHome n k closed.acts) (sym many)
          (subst (λ (l : List ActLine). AreAtHome (length c.args.self) k l) (sym by.acts)
          (c.requires.each k file.0 hand.0 file.1 hand.1).home);
    }
