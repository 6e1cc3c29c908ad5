use Rattle.std.proofs.Common.{◌≡◌, ◌++◌, append_assoc, arith, length, subst}
use Rattle.std.proofs.lemmas.Bool.Decides.{nat_tests}
use Rattle.lh_subcommands.specs.Serve.{IsTelling}
use Rattle.lh_subcommands.proofs.Sending.{on_err}
use Rattle.lh_subcommands.proofs.Serving.{cut_in_rest, heard_all, takes_more}
use Rattle.lh_subcommands.proofs.serve.answer_all.Goals as goal

pub returns-in_err-rest-clause-err : goal.returns-in_err-rest-clause-err
returns-in_err-rest-clause-err g c = λ s before heard h.
    let i = c.loop-rest.invariant.heard s before heard h in
    on_err c.from_residual.result
    (cut_in_rest s before (g.W.Write.contents c.answer_first.new.writer) heard c.args.bytes.now i.0 c.loop-rest.rest.now
    i.1 (c.in_err-rest.ensures.err s before (heard ++ i.0) i.2))

pub loop-rest-preserved : goal.loop-rest-preserved
loop-rest-preserved g c = record {
  image = c.in_ok-rest.ensures.image;
  heard = λ s before heard h.
      let i = c.loop-rest.invariant.heard s before heard h in
      let d = c.in_ok-rest.ensures.ok s before (heard ++ i.0) i.2 in (
        i.0 ++ d.0,
        takes_more c.args.bytes.now i.0 c.loop-rest.rest.now d.0 c.in_ok-rest.rest.now i.1 d.1,
        subst (IsTelling s c.answer_first.new.talk before (g.W.Write.contents c.answer_first.new.writer))
            (append_assoc heard i.0 d.0) d.2,
      );
}

pub returns-clause-ok : goal.returns-clause-ok
returns-clause-ok g c = λ s before heard h.
    let i = c.loop-rest.invariant.heard s before heard h in
    let none : length c.loop-rest.rest.now ≡ 0 = grind (arith, nat_tests, c.is_empty.ensures, c.loop-rest-test.false) in
    c.tell.ensures.ok s before (heard ++ c.args.bytes.now)
    (heard_all s c.loop-rest.talk before (g.W.Write.contents c.loop-rest.writer) heard c.args.bytes.now i.0
    c.loop-rest.rest.now i.1 none i.2)

pub returns-clause-err : goal.returns-clause-err
returns-clause-err g c = λ s before heard h.
    let i = c.loop-rest.invariant.heard s before heard h in
    let none : length c.loop-rest.rest.now ≡ 0 = grind (arith, nat_tests, c.is_empty.ensures, c.loop-rest-test.false) in
    c.tell.ensures.err s before (heard ++ c.args.bytes.now)
    (heard_all s c.loop-rest.talk before (g.W.Write.contents c.loop-rest.writer) heard c.args.bytes.now i.0
    c.loop-rest.rest.now i.1 none i.2)
