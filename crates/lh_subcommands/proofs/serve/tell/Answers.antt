use Rattle.lh_subcommands.proofs.Sending.{on_err}
use Rattle.lh_subcommands.proofs.Serving.{cut_within, telling_now}
use Rattle.lh_subcommands.proofs.serve.tell.Goals as goal

pub returns-in_err-write_pending-clause-err : goal.returns-in_err-write_pending-clause-err
returns-in_err-write_pending-clause-err g c = λ s before heard h.
    on_err c.from_residual.result
    (cut_within s c.args.talk.now before (g.W.Write.contents c.args.writer.now)
    (g.W.Write.contents c.write_pending.new.writer) heard h c.in_err-write_pending.ensures.err)

pub returns-clause-ok : goal.returns-clause-ok
returns-clause-ok g c = λ s before heard h.
    telling_now s c.args.talk.now c.note_told.new.self before (g.W.Write.contents c.args.writer.now)
    (g.W.Write.contents c.write_pending.new.writer) heard h (c.note_told.ensures.told s heard)
    c.in_ok-write_pending.ensures.ok
