use Rattle.std.proofs.Common.{◌++◌}
use Rattle.lh_subcommands.proofs.Sending.{on_err}
use Rattle.lh_subcommands.proofs.Serving.{cut_before, cut_longer, cut_rest, hears}
use Rattle.lh_subcommands.proofs.serve.answer_first.Goals as goal

pub returns-in_default-clause-err : goal.returns-in_default-clause-err
returns-in_default-clause-err g c = λ s before heard h.
    cut_longer s before (g.W.Write.contents c.args.writer.now) heard c.args.bytes.now
    (cut_before s c.args.talk.now before (g.W.Write.contents c.args.writer.now) heard h)

pub returns-in_err-tell_enough-clause-err : goal.returns-in_err-tell_enough-clause-err
returns-in_err-tell_enough-clause-err g c = λ s before heard h.
    let d =
    hears s c.args.talk.now c.hear.new.self before (g.W.Write.contents c.args.writer.now) heard c.args.bytes.now
    c.in-Ok.behind.now h (c.in-Ok.ensures.heard s heard) in
    on_err c.from_residual.result
    (cut_rest s before (g.W.Write.contents c.tell_enough.new.writer) heard c.args.bytes.now d.0 c.in-Ok.behind.now d.1
    (c.in_err-tell_enough.ensures.err s before (heard ++ d.0) d.2))

pub returns-clause-ok : goal.returns-clause-ok
returns-clause-ok g c = λ s before heard h.
    let d =
    hears s c.args.talk.now c.hear.new.self before (g.W.Write.contents c.args.writer.now) heard c.args.bytes.now
    c.in-Ok.behind.now h (c.in-Ok.ensures.heard s heard) in
    (d.0, d.1, c.in_ok-tell_enough.ensures.ok s before (heard ++ d.0) d.2)
