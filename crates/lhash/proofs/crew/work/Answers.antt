use Rattle.std.proofs.Common.{◌≡◌, ℕ, ◌+◌, Result, Ok, length, sym, subst, arith}
use Rattle.lhash.proofs.Places.{places_from-next, places_from-none}
use Rattle.lhash.specs.Crew.{IsWorked, places_from}
use Rattle.lh_file.specs.declared.fault.FileFault.{FileFault}
use Rattle.lhash.proofs.crew.work.Goals.{else-loop-place-test}
use Rattle.lhash.proofs.crew.work.Goals.{then-loop-place-test+in_ok-make+else-threads-place-end}
use Rattle.lhash.proofs.crew.work.Goals as goal

pub make-requires : goal.make-requires
make-requires g c =
    let calls = length c.args.calls.now in
    let next = places_from-next c.loop-place.place c.args.threads calls c.requires.threads c.loop-place-test.true in (
      places_from c.args.first c.args.threads calls,
      c.loop-place.invariant.made,
      c.loop-place.invariant.have,
      omega (arith, next, c.loop-place.invariant.left),
    )

pub loop-place-preserved : goal.loop-place-preserved
loop-place-preserved g c =
    let calls = length c.args.calls.now in
    let next = places_from-next c.loop-place.place c.args.threads calls c.requires.threads c.loop-place-test.true in
    record {
      made = c.loop-place.invariant.made + 1;
      have = c.in_ok-make.ensures.made _ _ c.loop-place.invariant.have;
      left = omega (arith, c.loop-place.invariant.left, next);
    }

pub returns : goal.returns
returns g c =
    let calls = length c.args.calls.now in
    let all = places_from c.args.first c.args.threads calls in
    let have = g.T.SharedTable.have c.args.table.now all in
    elim c.loop-place-test.branch [
      | else-loop-place-test w ↦
          let none =
          places_from-none c.loop-place.place c.args.threads calls c.requires.threads w.loop-place-test.false in (
            subst (have all) (sym w.hands-is)
                (subst (λ made. have made c.loop-place.hands) (omega (arith, c.loop-place.invariant.left, none))
                c.loop-place.invariant.have),
            tt,
          )
      | then-loop-place-test+in_ok-make+else-threads-place-end w ↦
          let next =
          places_from-next c.loop-place.place c.args.threads calls c.requires.threads w.loop-place-test.true in
          let none =
          places_from-none (c.loop-place.place + c.args.threads) c.args.threads calls c.requires.threads
          (omega arith) in (
            subst (have all) (sym w.hands-is)
                (subst (λ made. have made w.make.new.hands) (omega (arith, c.loop-place.invariant.left, next, none))
                (w.in_ok-make.ensures.made _ _ c.loop-place.invariant.have)),
            tt,
          )
    ]
