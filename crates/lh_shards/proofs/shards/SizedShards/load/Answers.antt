-- The file whose turn it is answers one term more, and its hand is as it was.
use Rattle.std.proofs.Common.{◌≡◌, ℕ, ◌≤◌, ◌∷◌, [], ◌++◌, List, length, set, sym, ap, ◌∙◌, lit<, arith}
use Rattle.lh_file.specs.HashFile.{Shared}
use Rattle.lh_file.specs.Words.Calls.{IsLoadOf}
use Rattle.lh_file.specs.Words.HandState.{HandState}
use Rattle.lh_file.specs.declared.words.load.Load.{Load}
use Rattle.lh_shards.proofs.Counting.{so_far_next, all_answered, one_more, set_self}
use Rattle.lh_shards.proofs.Giving.{Ready, turn}
use Rattle.lh_shards.proofs.Places.{length_mapped}
use Rattle.lh_shards.proofs.shards.SizedShards.load.Given.{Over}
use Rattle.lh_shards.proofs.shards.SizedShards.load.Goals as goal
use Rattle.lh_shards.proofs.shards.SizedShards.load.Goals.{After-index_mut}

ready : (g : Over) (c : After-index_mut g) →
    Ready c.args.self.now c.args.hands.now c.loop-shard.shard c.index.result.now c.index_mut.result.now
ready g c =
    let size : c.len-shard-end.result ≡ length c.self.inside.files.items =
    c.len-shard-end.ensures ∙ c.self.inside.files.ok.0 in
    turn c.self.inside.files.items c.args.self.now c.args.hands.now c.loop-shard.hands-inside.hands.items
    c.loop-shard.shard c.index.result.now c.index_mut.result.now c.self.view_is c.requires
    c.loop-shard.invariant.so_far.passed.count c.loop-shard.invariant.so_far.passed.rest
    (omega (arith, size, c.loop-shard-test.true)) c.index.ensures c.index_mut.ensures.value

pub load-requires : goal.load-requires
load-requires g c = (lit< tt, (ready g (goal.at.load-requires g c).After-index_mut).of)

pub loop-shard-preserved : goal.loop-shard-preserved
loop-shard-preserved g c =
    let at : Ready c.args.self.now c.args.hands.now c.loop-shard.shard c.index.result.now c.index_mut.result.now =
    ready g (goal.at.loop-shard-preserved g c).After-index_mut in
    let items : List HandState = c.loop-shard.hands-inside.hands.items in
    let i : ℕ = c.loop-shard.shard in record {
      terms = c.loop-shard.invariant.terms ++ c.load.result ∷ [];
      so_far =
          so_far_next IsLoadOf c.args.self.now c.args.hands.now i c.loop-shard.invariant.terms items
          c.index.result.now.state c.index_mut.result.now c.load.result c.load.new.hand at.file_at at.hand_at
          c.load.ensures c.loop-shard.invariant.so_far;
      same =
          ap (λ h. set items i h) c.load.ensures.same
          ∙ ap (λ (l : List HandState). set l i c.index_mut.result.now) c.loop-shard.invariant.same
          ∙ set_self c.args.hands.now i c.index_mut.result.now at.hand_at;
      opening =
          one_more (λ (term : Load). term.opening) c.loop-shard.invariant.terms c.load.result c.loop-shard.total.opening
          c.added-total.result.opening c.loop-shard.invariant.opening
          (ap (λ (l : Load). l.opening) c.added-total.ensures);
      inserted =
          one_more (λ (term : Load). term.inserted) c.loop-shard.invariant.terms c.load.result
          c.loop-shard.total.inserted c.added-total.result.inserted c.loop-shard.invariant.inserted
          (ap (λ (l : Load). l.inserted) c.added-total.ensures);
      deleted =
          one_more (λ (term : Load). term.deleted) c.loop-shard.invariant.terms c.load.result c.loop-shard.total.deleted
          c.added-total.result.deleted c.loop-shard.invariant.deleted
          (ap (λ (l : Load). l.deleted) c.added-total.ensures);
    }

pub returns-clause-sum : goal.returns-clause-sum
returns-clause-sum g c =
    let long : length c.args.self.now ≡ length c.self.inside.files.items =
    ap length (sym c.self.view_is) ∙ length_mapped (λ (file : Shared). file.state) c.self.inside.files.items in
    let size : c.len-shard-end.result ≡ length c.self.inside.files.items =
    c.len-shard-end.ensures ∙ c.self.inside.files.ok.0 in
    let end : c.loop-shard.shard ≤ c.len-shard-end.result = c.loop-shard.auto.shard-end in
    let all : c.loop-shard.shard ≡ length c.args.self.now = omega (arith, long, size, end, c.loop-shard-test.false) in
    record {
      terms = c.loop-shard.invariant.terms;
      answered =
          all_answered IsLoadOf c.args.self.now c.args.hands.now c.loop-shard.shard c.loop-shard.invariant.terms
          c.loop-shard.hands-inside.hands.items all c.loop-shard.invariant.so_far;
      same = c.loop-shard.invariant.same;
      opening = c.loop-shard.invariant.opening;
      inserted = c.loop-shard.invariant.inserted;
      deleted = c.loop-shard.invariant.deleted;
    }
