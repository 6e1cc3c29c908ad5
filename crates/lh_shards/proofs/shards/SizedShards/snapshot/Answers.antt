-- The hand of the shard is one of its file, and stays one; the others are as they were.
use Rattle.std.proofs.Common.{length, lit<, refl, subst, sym}
use Rattle.lh_file.specs.Words.HandState.{HandState}
use Rattle.lh_shards.specs.Hands.{AreAtHome}
use Rattle.lh_shards.proofs.Looks.{surveyed_keeps, taken}
use Rattle.lh_shards.proofs.OneShard.{at_place, of_kept}
use Rattle.lh_shards.proofs.shards.SizedShards.snapshot.Goals as goal

pub snapshot-requires : goal.snapshot-requires
snapshot-requires g c = (lit< tt, (c.requires.of.each _ _ _ c.file.ensures c.at.ensures.value).of)

pub returns-clause-taken : goal.returns-clause-taken
returns-clause-taken g c =
    at_place _ c.file.ensures c.at.ensures.value
    (record {
      taken = taken _ _ _ _ c.snapshot.result c.snapshot.ensures.config c.snapshot.ensures.whole c.snapshot.ensures.size
          c.snapshot.ensures.later c.snapshot.ensures.told;
      fault = c.snapshot.ensures.fault;
      surveyed = c.snapshot.ensures.surveyed;
    })

pub returns-clause-of : goal.returns-clause-of
returns-clause-of g c =
    of_kept c.requires.of c.file.ensures c.at.ensures.value c.snapshot.ensures.of
    (surveyed_keeps (λ (h : HandState). h.view.has_right) (λ k. refl) (λ k n log. refl) c.snapshot.ensures.surveyed)
    (subst (λ acts. AreAtHome (length c.args.self.now) c.args.shard acts)
    (sym
    (surveyed_keeps (λ (h : HandState). h.acts) (λ k. refl) (λ k n log. refl) c.snapshot.ensures.surveyed)))
