-- A table more, from the listing whose turn it is
use Rattle.std.proofs.Common.{◌≡◌, ◌+◌, ◌≤◌, List, length, Some, refl, sym, ap, ◌∙◌, subst, arith}
use Rattle.std.specs.List.{slice_get}
use Rattle.std.proofs.lemmas.List.{length_push}
use Rattle.std.proofs.lemmas.Option.{slice_get_read}
use Rattle.lh_file.specs.FileState.{FileState}
use Rattle.lh_shards.proofs.Beginning.{BegunFrom, begun_next}
use Rattle.lh_shards.proofs.openings.Openings.begun.Goals as goal

pub loop-shard-preserved : goal.loop-shard-preserved
loop-shard-preserved c =
    let here : slice_get c.args.listings.now c.loop-shard.shard ≡ Some c.index-listings-shard.result =
    slice_get_read c.args.listings.now (length c.args.listings.now) c.loop-shard.shard c.index-listings-shard.result
    refl (omega (arith, c.loop-shard-test.true)) c.index-listings-shard.is in
    let few : length c.args.listings.now ≤ 1024 = c.requires.1 in
    let own : c.in_ok-opening.opening.shard ≡ c.loop-shard.shard =
    omega (arith, c.in_ok-opening.ensures.shard, c.loop-shard-test.true, few) in
    record {
      many =
          ap length c.in_ok-push.ensures.items ∙ length_push c.loop-shard.openings.items c.in_ok-opening.opening
          ∙ ap (λ n. n + 1) c.loop-shard.invariant.many;
      each =
          subst (λ (l : List FileState). BegunFrom c.args.listings.now c.args.recording l)
          (sym c.in_ok-push.ensures.items)
          (begun_next c.args.listings.now c.args.recording c.loop-shard.openings.items c.loop-shard.shard
          c.index-listings-shard.result c.in_ok-opening.opening c.loop-shard.invariant.many here
          (c.in_ok-opening.ensures.begun, own) c.loop-shard.invariant.each);
    }

pub invariant_of-result : goal.invariant_of-result
invariant_of-result c =
    let end : c.loop-shard.shard ≤ length c.args.listings.now = c.loop-shard.auto.shard-end in
    let all : length c.loop-shard.openings.items ≡ length c.args.listings.now =
    omega (arith, c.loop-shard.invariant.many, c.loop-shard-test.false, end) in
    (omega (arith, all, c.requires.0), omega (arith, all, c.requires.1))

pub returns : goal.returns
returns c =
    let end : c.loop-shard.shard ≤ length c.args.listings.now = c.loop-shard.auto.shard-end in record {
      count = omega (arith, c.loop-shard.invariant.many, c.loop-shard-test.false, end);
      each = c.loop-shard.invariant.each;
    }
