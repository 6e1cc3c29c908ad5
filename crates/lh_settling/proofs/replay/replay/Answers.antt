use Rattle.std.proofs.Common.{◌∙◌, sym, below_more}
use Rattle.std.proofs.lemmas.Option.{same_Some}
use Rattle.lh_settling.specs.Settled.{map_in}
use Rattle.lh_settling.proofs.Histories.{given_at, due_at, left_more, all_legal}
use Rattle.lh_settling.proofs.replay.replay.Goals as goal

pub returns-then-not-is_same-clause-err : goal.returns-then-not-is_same-clause-err
returns-then-not-is_same-clause-err c =
    let m = map_in c.args.opening.now in
    let act = c.index-history-place.result in
    let given = given_at m c.args.history.now c.loop-place.place act c.loop-place-test.true c.index-history-place.is in
    let due =
    due_at m c.args.history.now c.loop-place.place act c.loop-place-test.true c.index-history-place.is
    c.loop-place.records c.in_ok-due.due c.loop-place.invariant.left c.in_ok-due.ensures.reply in
    record {
      differ = record {
        before = c.loop-place.invariant.same;
        here = λ e.
            c.if-not-is_same.ensures.other (same_Some act.reply c.in_ok-due.due (sym given ∙ e ∙ due));
      };
      was = given;
      was_due = due;
    }

pub loop-place-preserved : goal.loop-place-preserved
loop-place-preserved c =
    let m = map_in c.args.opening.now in
    let act = c.index-history-place.result in
    let given = given_at m c.args.history.now c.loop-place.place act c.loop-place-test.true c.index-history-place.is in
    let due =
    due_at m c.args.history.now c.loop-place.place act c.loop-place-test.true c.index-history-place.is
    c.loop-place.records act.reply c.loop-place.invariant.left
    (c.if-not-is_same.ensures.same ∙ c.in_ok-due.ensures.reply) in
    record {
      left = left_more m c.args.history.now c.loop-place.place act c.loop-place-test.true c.index-history-place.is
          c.loop-place.records c.serve.new.self c.loop-place.invariant.left c.in_ok-due.ensures.after;
      same = below_more _ _ c.loop-place.invariant.same (given ∙ sym due);
    }

pub returns-clause-legal : goal.returns-clause-legal
returns-clause-legal c = all_legal
    (map_in c.args.opening.now) c.args.history.now c.loop-place.place c.loop-place-test.false
    c.loop-place.invariant.same
