use Rattle.std.proofs.Common.{◌∙◌, ap, arith}
use Rattle.std.specs.FinMap.{empty}
use Rattle.std.proofs.lemmas.List.{take_all}
use Rattle.lh_bucket.specs.Listing.{all_of}
use Rattle.lh_bucket.specs.PlainMap.{outcome}
use Rattle.lh_settling.specs.Replay.{calls_inserting}
use Rattle.lh_settling.proofs.Values.{outcome-inserts}
use Rattle.lh_settling.proofs.Histories.{loaded_more}
use Rattle.lh_settling.proofs.replay.map_in.Goals as goal

pub loop-bucket-preserved : goal.loop-bucket-preserved
loop-bucket-preserved c =
    loaded_more empty c.loop-bucket.records c.add_bucket.new.records c.args.listing.now.lists c.loop-bucket.bucket
    (omega (
      arith,
      c.loop-bucket-test.true,
      c.buckets-bucket-end.ensures.value,
    )) c.loop-bucket.invariant c.in_ok-add_bucket.ensures

pub returns : goal.returns
returns c =
    c.loop-bucket.invariant
    ∙ ap (λ lists. outcome empty (calls_inserting (all_of lists)))
    (take_all c.loop-bucket.bucket c.args.listing.now.lists
    (omega (arith, c.loop-bucket-test.false, c.buckets-bucket-end.ensures.value)))
    ∙ outcome-inserts (all_of c.args.listing.now.lists)
