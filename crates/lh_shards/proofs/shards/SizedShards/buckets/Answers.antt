-- The file whose turn it is answers one term more.
use Rattle.std.proofs.Common.{◌≡◌, ◌+◌, ◌^◌, ◌<◌, ◌≤◌, ◌∷◌, [], ◌++◌, length, sym, ap, ◌∙◌, lit<, arith}
use Rattle.std.proofs.lemmas.List.Sums.{sum_by_push}
use Rattle.lh_file.specs.HashFile.{Shared}
use Rattle.lh_file.specs.Words.Calls.{IsBuckets}
use Rattle.lh_shards.specs.Counts.{AreAnswered}
use Rattle.lh_shards.proofs.Counting.{so_far_next, all_answered, counted_are_of}
use Rattle.lh_shards.proofs.Giving.{Ready, turn}
use Rattle.lh_shards.proofs.Places.{length_mapped}
use Rattle.lh_shards.proofs.shards.SizedShards.buckets.Given.{Over}
use Rattle.lh_shards.proofs.shards.SizedShards.buckets.Goals as goal
use Rattle.lh_shards.proofs.shards.SizedShards.buckets.Goals.{After-index_mut, After-loop-shard}

ready : (g : Over) (c : After-index_mut g) →
    Ready c.args.self.now c.args.hands.now c.loop-shard.shard c.index.result.now c.index_mut.result.now
ready g c =
    let long : length c.args.self.now ≡ length c.self.inside.files.items =
    ap length (sym c.self.view_is) ∙ length_mapped (λ (file : Shared). file.state) c.self.inside.files.items in
    turn c.self.inside.files.items c.args.self.now c.args.hands.now c.loop-shard.hands-inside.hands.items
    c.loop-shard.shard c.index.result.now c.index_mut.result.now c.self.view_is c.requires
    c.loop-shard.invariant.so_far.passed.count c.loop-shard.invariant.so_far.passed.rest (omega arith)
    c.index.ensures c.index_mut.ensures.value

pub buckets-requires : goal.buckets-requires
buckets-requires g c = (lit< tt, (ready g (goal.at.buckets-requires g c).After-index_mut).of)

pub loop-shard-preserved : goal.loop-shard-preserved
loop-shard-preserved g c =
    let at : Ready c.args.self.now c.args.hands.now c.loop-shard.shard c.index.result.now c.index_mut.result.now =
    ready g (goal.at.loop-shard-preserved g c).After-index_mut in
    let more : c.buckets.result < 2 ^ 32 = c.buckets.type_inv in record {
      terms = c.loop-shard.invariant.terms ++ c.buckets.result ∷ [];
      so_far =
          so_far_next IsBuckets c.args.self.now c.args.hands.now c.loop-shard.shard c.loop-shard.invariant.terms
          c.loop-shard.hands-inside.hands.items c.index.result.now.state c.index_mut.result.now c.buckets.result
          c.buckets.new.hand at.file_at at.hand_at c.buckets.ensures c.loop-shard.invariant.so_far;
      total =
          ap (λ n. n + c.buckets.result) c.loop-shard.invariant.total
          ∙ sym (sum_by_push (λ n. n) c.loop-shard.invariant.terms c.buckets.result);
      few = omega (arith, c.loop-shard.invariant.few, more);
    }

answered : (g : Over) (c : After-loop-shard g) →
    AreAnswered IsBuckets c.args.self.now c.args.hands.now c.loop-shard.invariant.terms
    c.loop-shard.hands-inside.hands.items
answered g c =
    let end : c.loop-shard.shard ≤ c.count-shard-end.result = c.loop-shard.auto.shard-end in
    let all : c.loop-shard.shard ≡ length c.args.self.now =
    omega (arith, c.loop-shard-test.false, c.count-shard-end.ensures.value) in
    all_answered IsBuckets c.args.self.now c.args.hands.now c.loop-shard.shard c.loop-shard.invariant.terms
    c.loop-shard.hands-inside.hands.items all c.loop-shard.invariant.so_far

pub returns-clause-sum : goal.returns-clause-sum
returns-clause-sum g c =
    record { terms = c.loop-shard.invariant.terms; answered = answered g c; total = c.loop-shard.invariant.total }

pub returns-clause-of : goal.returns-clause-of
returns-clause-of g c =
    counted_are_of c.args.self.now c.args.hands.now c.loop-shard.hands-inside.hands.items c.loop-shard.invariant.terms
    c.requires (answered g c)
