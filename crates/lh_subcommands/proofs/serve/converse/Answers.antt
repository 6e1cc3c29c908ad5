use Rattle.std.proofs.Common.{◌++◌}
use Rattle.std.proofs.KnownBytes.{Consumes-trans}
use Rattle.lh_subcommands.proofs.Serving.{ends_broken, ends_done, ends_read, told_by_now}
use Rattle.lh_subcommands.proofs.serve.converse.Goals as goal

pub turns-preserved : goal.turns-preserved
turns-preserved g c = record {
  heard = λ s h.
      let i = c.turns.invariant.heard s h in
      let d = c.in-Ok-true.ensures.ok s (g.W.Write.contents c.args.writer.now) i.0 i.2 in
      (i.0 ++ d.0, Consumes-trans _ _ _ i.0 d.0 i.1 d.1, d.2);
  told = c.in-Ok-true.ensures.told;
}

pub returns-in-Ok-false : goal.returns-in-Ok-false
returns-in-Ok-false g c = λ s h.
    let i = c.turns.invariant.heard s h in
    let d = c.in-Ok-false.ensures.ok s (g.W.Write.contents c.args.writer.now) i.0 i.2 in
    ends_done s (g.R.Read.remaining c.args.reader.now) (g.R.Read.remaining c.take_turn.new.reader)
    (g.W.Write.contents c.args.writer.now) (g.W.Write.contents c.take_turn.new.writer) (i.0 ++ d.0)
    (Consumes-trans _ _ _ i.0 d.0 i.1 d.1) (d.3 c.in-Ok-false.field-0-test)
    (told_by_now s c.take_turn.new.talk _ _ (i.0 ++ d.0) d.2 c.in-Ok-false.ensures.told)

pub returns-in-Err : goal.returns-in-Err
returns-in-Err g c = λ s h.
    let i = c.turns.invariant.heard s h in
    let d = c.in-Err.ensures.err s (g.W.Write.contents c.args.writer.now) i.0 i.2 in
    ends_broken s c.in-Err.fault (g.R.Read.remaining c.args.reader.now) _ (g.R.Read.remaining c.take_turn.new.reader)
    (g.W.Write.contents c.args.writer.now) (g.W.Write.contents c.take_turn.new.writer) i.0 d.0 i.1 d.1 d.2

pub returns : goal.returns
returns g c = λ s h.
    let i = c.turns.invariant.heard s h in
    ends_read s (g.R.Read.remaining c.args.reader.now) (g.R.Read.remaining c.turns.reader)
    (g.W.Write.contents c.args.writer.now) (g.W.Write.contents c.turns.writer) i.0 i.1
    (told_by_now s c.turns.talk _ _ i.0 i.2 c.turns.invariant.told)
