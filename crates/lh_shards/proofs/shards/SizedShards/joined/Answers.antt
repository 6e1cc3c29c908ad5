-- The next hands are joined, and stand behind those that were.
use Rattle.std.proofs.Common.{suc, ◌≡◌, ℕ, ◌+◌, ◌<◌, ◌≤◌, List, [], ◌∷◌, ◌++◌, drop, length, Some, add-one}
use Rattle.std.proofs.Common.{rules, append_assoc, lit<, sym, ap, ◌∙◌, subst, arith}
use Rattle.std.specs.List.{slice_get}
use Rattle.std.specs.Vec.Iter.{into_iter_items, into_iter_len}
use Rattle.std.proofs.lemmas.List.{drop_all, length_push}
use Rattle.lh_file.specs.HashFile.{Shared}
use Rattle.lh_file.specs.Words.HandState.{HandState, IsJoined}
use Rattle.lh_shards.specs.Hands.{IsOfShard}
use Rattle.lh_shards.specs.Joining.{AreJoinedByShard}
use Rattle.lh_shards.proofs.Places.{front_next, left_next, length_mapped, read_at, three_next}
use Rattle.lh_shards.proofs.shards.SizedShards.joined.Given.{Over}
use Rattle.lh_shards.proofs.shards.SizedShards.joined.Goals as goal
use Rattle.lh_shards.proofs.shards.SizedShards.joined.Goals.{After-index}

is_within : (g : Over) (c : After-index g) → c.loop-shard.shard < length c.args.first
is_within g c =
    let fewer : into_iter_len c.next.new.self + 1 ≡ into_iter_len c.loop-shard.others = c.in-Some-next.ensures.len in
    omega (arith, fewer, c.loop-shard.invariant.others_left)

own_next : (g : Over) (c : After-index g) →
    (slice_get c.args.first c.loop-shard.shard ≡ Some c.in-Some.own)
    × (c.pop_front.new.self.items ≡ drop (suc c.loop-shard.shard) c.args.first ++ c.loop-shard.invariant.done)
own_next g c =
    front_next c.args.first c.loop-shard.invariant.done c.pop_front.new.self.items c.loop-shard.shard c.in-Some.own
    (is_within g c) (sym c.loop-shard.invariant.hands ∙ c.in-Some.ensures.items)

other_next : (g : Over) (c : After-index g) →
    (slice_get c.args.second c.loop-shard.shard ≡ Some c.in-Some-next.other)
    × (drop (suc c.loop-shard.shard) c.args.second ≡ into_iter_items c.next.new.self)
other_next g c =
    left_next c.args.second (into_iter_items c.next.new.self) c.loop-shard.shard c.in-Some-next.other
    (sym c.loop-shard.invariant.others ∙ c.in-Some-next.ensures.items)

file_at : (g : Over) (c : After-index g) → slice_get c.args.self.now c.loop-shard.shard ≡ Some c.index.result.now.state
file_at g c =
    read_at (λ (file : Shared). file.state) c.self.inside.files.items c.args.self.now c.loop-shard.shard
    c.index.result.now c.self.view_is (subst (λ n. c.loop-shard.shard < n) c.requires.first.count (is_within g c))
    c.index.ensures

own_of : (g : Over) (c : After-index g) →
    IsOfShard (length c.args.self.now) c.loop-shard.shard c.index.result.now.state c.in-Some.own
own_of g c =
    c.requires.first.each c.loop-shard.shard c.index.result.now.state c.in-Some.own (file_at g c) (own_next g c).0

other_of : (g : Over) (c : After-index g) →
    IsOfShard (length c.args.self.now) c.loop-shard.shard c.index.result.now.state c.in-Some-next.other
other_of g c =
    c.requires.second.each c.loop-shard.shard c.index.result.now.state c.in-Some-next.other (file_at g c)
    (other_next g c).0

pub loop-shard-init : goal.loop-shard-init
loop-shard-init g c = record {
  done = [];
  many = search rules;
  hands = search rules;
  others = search rules;
  others_left = search rules;
  each = search rules;
}

pub join-requires : goal.join-requires
join-requires g c =
    let before : After-index g = (goal.at.join-requires g c).After-index in (
      lit< tt,
      (
        (own_of g before).of,
        (
          (other_of g before).of,
          (
            (other_of g before).right,
            c.requires.room c.loop-shard.shard c.in-Some.own c.in-Some-next.other (own_next g before).0
                (other_next g before).0,
          ),
        ),
      ),
    )

pub loop-shard-preserved : goal.loop-shard-preserved
loop-shard-preserved g c =
    let i : ℕ = c.loop-shard.shard in
    let before : After-index g = (goal.at.loop-shard-preserved g c).After-index in
    let own = own_next g before in
    let other = other_next g before in
    let fewer : into_iter_len c.next.new.self + 1 ≡ into_iter_len c.loop-shard.others = c.in-Some-next.ensures.len in
    let more : List HandState = c.loop-shard.invariant.done ++ c.join.result ∷ [] in record {
      done = more;
      many = length_push c.loop-shard.invariant.done c.join.result ∙ ap (λ n. n + 1) c.loop-shard.invariant.many;
      hands = subst (λ n. c.push_back_reserved.new.self.items ≡ drop n c.args.first ++ more) (sym (add-one i))
          (c.push_back_reserved.ensures.items ∙ ap (λ (l : List HandState). l ++ c.join.result ∷ []) own.1
          ∙ append_assoc (drop (suc i) c.args.first) c.loop-shard.invariant.done (c.join.result ∷ []));
      others = subst (λ n. into_iter_items c.next.new.self ≡ drop n c.args.second) (sym (add-one i)) (sym other.1);
      others_left = omega (arith, fewer, c.loop-shard.invariant.others_left);
      each =
          three_next IsJoined c.args.first c.args.second c.loop-shard.invariant.done i c.in-Some.own
          c.in-Some-next.other c.join.result c.loop-shard.invariant.many own.0 other.0 c.join.ensures
          c.loop-shard.invariant.each;
    }

pub returns : goal.returns
returns g c =
    let long : length c.args.self.now ≡ length c.self.inside.files.items =
    ap length (sym c.self.view_is) ∙ length_mapped (λ (file : Shared). file.state) c.self.inside.files.items in
    let many : length c.args.first ≡ length c.args.self.now = c.requires.first.count in
    let size : c.len-shard-end.result ≡ length c.self.inside.files.items =
    c.len-shard-end.ensures ∙ c.self.inside.files.ok.0 in
    let past : length c.args.first ≤ c.loop-shard.shard = omega (arith, long, many, size, c.loop-shard-test.false) in
    let end : c.loop-shard.shard ≤ c.len-shard-end.result = c.loop-shard.auto.shard-end in
    let all : c.loop-shard.shard ≡ length c.args.first = omega (arith, long, many, size, past, end) in
    let is : c.into_vec.result.items ≡ c.loop-shard.invariant.done =
    c.into_vec.ensures.items ∙ c.loop-shard.invariant.hands
    ∙ ap (λ (l : List HandState). l ++ c.loop-shard.invariant.done)
    (drop_all c.loop-shard.shard c.args.first past) in
    subst (λ (l : List HandState). AreJoinedByShard c.args.first c.args.second l) (sym is)
    (record { count = c.loop-shard.invariant.many ∙ all; each = c.loop-shard.invariant.each })
