use Rattle.std.proofs.Common.{rules, of_calls, [], ◌∷◌, refl}
use Rattle.lh_file.proofs.snapshots.scan.Scan.for_each.Goals as goal

pub returns-in_err-copy-clause-called : goal.returns-in_err-copy-clause-called
returns-in_err-copy-clause-called g c =
    let all = c.loop-f.invariant.goes_on [] c.loop-f.f c.next.new.self c.next.new.hand refl c.in_err-copy.ensures.err in
    (all.0, c.loop-f.f, all.1, all.2)

pub loop-f-preserved : goal.loop-f-preserved
loop-f-preserved g c = record {
  callable = search of_calls;
  initial = search rules;
  of = c.next.ensures.of;
  goes_on = λ copies last after left folds scanned.
      c.loop-f.invariant.goes_on (c.in-Some.copy ∷ copies) last after left (c.f.new.self, search rules, folds)
      (c.next.new.self, c.next.new.hand, search rules, search rules, scanned);
}

pub returns-clause-called : goal.returns-clause-called
returns-clause-called g c =
    let all =
    c.loop-f.invariant.goes_on [] c.loop-f.f c.next.new.self c.next.new.hand refl
    (c.in_ok-copy.ensures.same c.in_default.is) in
    (all.0, c.loop-f.f, all.1, all.2)
