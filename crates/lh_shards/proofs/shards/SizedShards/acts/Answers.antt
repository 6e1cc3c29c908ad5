-- The file whose turn it is tells its hand.
use Rattle.std.proofs.Common.{◌≡◌, ◌≤◌, ◌∷◌, [], ◌++◌, length, sym, ap, ◌∙◌, lit<, arith}
use Rattle.lh_file.specs.HashFile.{Shared}
use Rattle.lh_file.specs.History.Telling.{HasTold}
use Rattle.lh_shards.specs.Counts.{AreAnswered}
use Rattle.lh_shards.proofs.Counting.{so_far_next, all_answered, one_more, told_are_of}
use Rattle.lh_shards.proofs.Giving.{Ready, turn}
use Rattle.lh_shards.proofs.Places.{length_mapped}
use Rattle.lh_shards.proofs.shards.SizedShards.acts.Given.{Over}
use Rattle.lh_shards.proofs.shards.SizedShards.acts.Goals as goal
use Rattle.lh_shards.proofs.shards.SizedShards.acts.Goals.{After-index_mut, After-loop-place}

ready : (g : Over) (c : After-index_mut g) →
    Ready c.args.self.now c.args.hands.now c.loop-place.place c.index.result.now c.index_mut.result.now
ready g c =
    let size : c.len-place-end.result ≡ length c.self.inside.files.items =
    c.len-place-end.ensures ∙ c.self.inside.files.ok.0 in
    turn c.self.inside.files.items c.args.self.now c.args.hands.now c.loop-place.hands-inside.hands.items
    c.loop-place.place c.index.result.now c.index_mut.result.now c.self.view_is c.requires
    c.loop-place.invariant.so_far.passed.count c.loop-place.invariant.so_far.passed.rest
    (omega (arith, size, c.loop-place-test.true)) c.index.ensures c.index_mut.ensures.value

pub told-requires : goal.told-requires
told-requires g c = (lit< tt, (ready g (goal.at.told-requires g c).After-index_mut).of)

pub loop-place-preserved : goal.loop-place-preserved
loop-place-preserved g c =
    let at : Ready c.args.self.now c.args.hands.now c.loop-place.place c.index.result.now c.index_mut.result.now =
    ready g (goal.at.loop-place-preserved g c).After-index_mut in record {
      terms = c.loop-place.invariant.terms ++ c.told.result ∷ [];
      so_far =
          so_far_next (HasTold g.M.Mode.traced) c.args.self.now c.args.hands.now c.loop-place.place
          c.loop-place.invariant.terms c.loop-place.hands-inside.hands.items c.index.result.now.state
          c.index_mut.result.now c.told.result c.told.new.hand at.file_at at.hand_at c.told.ensures
          c.loop-place.invariant.so_far;
      total =
          one_more (λ n. n) c.loop-place.invariant.terms c.told.result c.loop-place.total _
          c.loop-place.invariant.total c.saturating_add-total.ensures;
    }

answered : (g : Over) (c : After-loop-place g) →
    AreAnswered (HasTold g.M.Mode.traced) c.args.self.now c.args.hands.now c.loop-place.invariant.terms
    c.loop-place.hands-inside.hands.items
answered g c =
    let long : length c.args.self.now ≡ length c.self.inside.files.items =
    ap length (sym c.self.view_is) ∙ length_mapped (λ (file : Shared). file.state) c.self.inside.files.items in
    let size : c.len-place-end.result ≡ length c.self.inside.files.items =
    c.len-place-end.ensures ∙ c.self.inside.files.ok.0 in
    let end : c.loop-place.place ≤ c.len-place-end.result = c.loop-place.auto.place-end in
    let all : c.loop-place.place ≡ length c.args.self.now = omega (arith, long, size, end, c.loop-place-test.false) in
    all_answered (HasTold g.M.Mode.traced) c.args.self.now c.args.hands.now c.loop-place.place
    c.loop-place.invariant.terms c.loop-place.hands-inside.hands.items all c.loop-place.invariant.so_far

pub returns-clause-sum : goal.returns-clause-sum
returns-clause-sum g c =
    let at = (goal.at.returns-clause-sum g c).After-loop-place in
    record {
      terms = c.loop-place.invariant.terms;
      answered = answered g at;
      total = c.loop-place.invariant.total;
    }

pub returns-clause-of : goal.returns-clause-of
returns-clause-of g c =
    told_are_of g.M.Mode.traced c.args.self.now c.args.hands.now c.loop-place.hands-inside.hands.items
    c.loop-place.invariant.terms c.requires (answered g (goal.at.returns-clause-of g c).After-loop-place)
