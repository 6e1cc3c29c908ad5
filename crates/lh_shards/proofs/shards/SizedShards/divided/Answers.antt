-- The hand whose turn it is has given its calls, and those before it have.
use Rattle.std.proofs.Common.{◌≡◌, ◌+◌, ◌<◌, ℕ, List, length, lit<, sym, ap, ◌∙◌, subst, arith}
use lib.ListN.{length-set}
use Rattle.std.proofs.lemmas.List.{length_push}
use Rattle.std.proofs.lemmas.Option.{slice_get_within}
use Rattle.lh_file.specs.HashFile.{Shared}
use Rattle.lh_file.specs.Words.HandState.{HandState}
use Rattle.lh_shards.proofs.Giving.{Given, turn, given_next, kept_next, rest_next}
use Rattle.lh_shards.proofs.Places.{length_mapped}
use Rattle.lh_shards.proofs.shards.SizedShards.divided.Goals as goal

pub divide-hand-requires : goal.divide-hand-requires
divide-hand-requires g c =
    let at : _ =
    turn c.self.inside.files.items c.args.self.now c.args.hands.now c.loop-shard.hands-inside.hands.items
    c.loop-shard.shard c.index.result.now c.index_mut.result.now c.self.view_is c.requires.of
    c.loop-shard.invariant.count c.loop-shard.invariant.rest (omega arith) c.index.ensures c.index_mut.ensures.value in
    (lit< tt, (at.of, c.requires.enough c.loop-shard.shard c.index_mut.result.now at.hand_at))

pub loop-shard-preserved : goal.loop-shard-preserved
loop-shard-preserved g c =
    let i : ℕ = c.loop-shard.shard in
    let at : _ =
    (turn c.self.inside.files.items c.args.self.now c.args.hands.now c.loop-shard.hands-inside.hands.items
    c.loop-shard.shard c.index.result.now c.index_mut.result.now c.self.view_is c.requires.of
    c.loop-shard.invariant.count c.loop-shard.invariant.rest (omega arith) c.index.ensures
    c.index_mut.ensures.value).hand_at in
    record {
      so_far =
          ap length c.put.ensures.items ∙ length_push c.loop-shard.given.items c.divide-hand.result
          ∙ ap (λ n. n + 1) c.loop-shard.invariant.so_far;
      len = omega arith;
      room = omega arith;
      count = length-set c.loop-shard.hands-inside.hands.items i c.divide-hand.new.hand ∙ c.loop-shard.invariant.count;
      given = subst (λ (l : List HandState). Given c.args.calls c.args.hands.now l) (sym c.put.ensures.items)
          (given_next c.args.calls c.args.hands.now c.loop-shard.given.items i c.index_mut.result.now
          c.divide-hand.result c.loop-shard.invariant.so_far at c.divide-hand.ensures.given
          c.loop-shard.invariant.given);
      kept =
          kept_next c.args.calls c.args.hands.now c.loop-shard.hands-inside.hands.items i c.index_mut.result.now
          c.divide-hand.new.hand at c.divide-hand.ensures.kept c.loop-shard.invariant.kept;
      rest =
          rest_next c.args.hands.now c.loop-shard.hands-inside.hands.items i c.divide-hand.new.hand
          c.loop-shard.invariant.rest;
    }

pub returns-clause-kept : goal.returns-clause-kept
returns-clause-kept g c =
    let long : length c.args.self.now ≡ length c.self.inside.files.items =
    ap length (sym c.self.view_is) ∙ length_mapped (λ (file : Shared). file.state) c.self.inside.files.items in
    let many : length c.args.hands.now ≡ length c.args.self.now = c.requires.of.count in record {
      count = c.loop-shard.invariant.count;
      each =
          λ k old new ko kn.
          let lt : k < length c.args.hands.now = slice_get_within c.args.hands.now k old ko in
          c.loop-shard.invariant.kept k old new (omega arith) ko kn;
    }
