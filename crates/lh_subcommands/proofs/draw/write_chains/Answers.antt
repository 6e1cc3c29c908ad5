use Rattle.std.proofs.Common.{◌<◌, refl, arith}
use Rattle.lh_bucket.specs.Listing.{size}
use Rattle.lh_subcommands.proofs.Sending.{on_err}
use Rattle.lh_subcommands.proofs.Turns.{turn_begins, turn_goes_on, turn_stops}
use Rattle.lh_subcommands.proofs.draw.write_chains.Goals as goal

pub loop-bucket-init : goal.loop-bucket-init
loop-bucket-init g c before sent h = turn_begins before _ _ sent _ h

pub loop-bucket-preserved : goal.loop-bucket-preserved
loop-bucket-preserved g c before sent h =
    turn_goes_on before _ _ sent _ c.loop-bucket.bucket _ refl
    (c.in_ok-write_chain.ensures.ok before _ (c.loop-bucket.invariant before sent h))

pub returns-in_err-write_chain-clause-err : goal.returns-in_err-write_chain-clause-err
returns-in_err-write_chain-clause-err g c before sent h =
    let here : c.loop-bucket.bucket < size c.args.listing.now =
    omega (arith, c.loop-bucket-test.true, c.buckets-bucket-end.ensures.value) in
    on_err c.from_residual.result
    (turn_stops before _ sent _ _ c.loop-bucket.bucket _ here refl
    (c.in_err-write_chain.ensures.err before _ (c.loop-bucket.invariant before sent h)))
