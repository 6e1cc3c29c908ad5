use Rattle.std.proofs.Common.{◌||◌, refl, arith}
use Rattle.lh_serving.proofs.CallsServed.{called, refused, uncounted}
use Rattle.lh_serving.proofs.serving.serve_call.Goals as goal

pub returns-then-count-clause-answered : goal.returns-then-count-clause-answered
returns-then-count-clause-answered c =
    λ file h.
    uncounted c.args.world.now c.args.records.now c.args.missed.now c.args.call file h
    (omega (arith, c.if-count.true))

pub returns-in-Ok-clause-answered : goal.returns-in-Ok-clause-answered
returns-in-Ok-clause-answered c =
    λ file h.
    called c.args.world.now c.serve.new.self c.args.records.now c.in-Ok.served.records c.args.missed.now
    (c.args.missed.now || c.in-Ok.served.split_refused)
    c.in-Ok.served.split_refused c.args.call c.in-Ok.served.reply file h
    (c.in-Ok.ensures.served file.map h.stands h.count) refl

pub returns-in-Err-clause-answered : goal.returns-in-Err-clause-answered
returns-in-Err-clause-answered c =
    λ file h.
    refused c.args.world.now c.serve.new.self c.args.records.now c.args.missed.now c.args.call file h
    c.in-Err.ensures.err
    c.in-Err.ensures.insert
