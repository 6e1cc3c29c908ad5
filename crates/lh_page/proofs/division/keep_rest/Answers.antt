use Rattle.std.proofs.Common.{◌≡◌, ◌<◌, Bool, not, length, sym, ap, ◌∙◌, arith}
use Rattle.lh_page.specs.declared.pair.Pair.{Pair}
use Rattle.lh_page.specs.Records.{key_at}
use Rattle.lh_page.proofs.Moving.{moved_on, moved_past}
use Rattle.lh_page.proofs.division.keep_rest.Goals as goal
use Rattle.lh_page.proofs.division.keep_rest.Goals.{then-not-takes, else-not-takes}

pub loop-place-preserved : goal.loop-place-preserved
loop-place-preserved g c =
    let old = c.args.pairs.now in
    let l = c.loop-place in
    let test : Pair → Bool = λ p. not (g.S.KeySet.member c.args.keys.now p.key) in
    let h = l.invariant.moved in
    let within : l.place < length old = omega arith in
    let goes : c.takes.result ≡ g.S.KeySet.member c.args.keys.now (key_at old l.place) =
    c.takes.ensures
    ∙ ap (λ (p : Pair). g.S.KeySet.member c.args.keys.now p.key) (h.behind l.place (omega arith)) in
    elim c.if-not-takes.branch [
      | then-not-takes w ↦
          rw (w.pairs-is, w.marks-is, w.kept-is) (record {
            moved =
                moved_on test old l.pairs w.move_to.new.self l.marks w.move_mark.new.marks l.kept l.place within h
                (ap not (sym goes ∙ w.if-not-takes.true)) w.move_to.ensures w.move_mark.ensures;
            room = w.move_mark.ensures.room ∙ l.invariant.room;
          })
      | else-not-takes w ↦
          rw (w.pairs-is, w.marks-is, w.kept-is) (record {
            moved =
                moved_past test old l.pairs l.marks l.kept l.place within h
                (ap not (sym goes ∙ w.if-not-takes.false));
            room = l.invariant.room;
          })
    ]
