use Rattle.std.proofs.Common.{◌≡◌, ◌++◌, ◌∷◌, [], All, length, length-append, ap, subst, sym, rules, arith}
use Rattle.lhash.proofs.HandCalls.{looked_still}
use Rattle.lhash.proofs.Looking.{looked_again, looked_first, taken_more}
use Rattle.lhash.specs.Crew.{HasTakenOne}
use Rattle.lhash.proofs.file_crew.HashFileTracedSharedTable.look_on.Goals as goal

pub take_snapshot-requires : goal.take_snapshot-requires
take_snapshot-requires g c = (search rules, c.loop-number.invariant.hand.own)

pub loop-number-init : goal.loop-number-init
loop-number-init g c = record {
  hand = looked_first _ _ c.requires.1.own;
  count = search rules;
  each = search rules;
}

pub returns-in_err-snapshot-clause-kept : goal.returns-in_err-snapshot-clause-kept
returns-in_err-snapshot-clause-kept g c =
    looked_still _ _ _ (looked_again _ _ _ _ c.take_snapshot.ensures.hand c.loop-number.invariant.hand)

pub returns-then-is_err-clause-kept : goal.returns-then-is_err-clause-kept
returns-then-is_err-clause-kept g c =
    looked_still _ _ _ (looked_again _ _ _ _ c.take_snapshot.ensures.hand c.loop-number.invariant.hand)

pub returns-clause-kept : goal.returns-clause-kept
returns-clause-kept g c = looked_still _ _ _ c.loop-number.invariant.hand

pub loop-number-preserved : goal.loop-number-preserved
loop-number-preserved g c =
    let hand = c.take_snapshot.new.hand in
    let taken = c.loop-number.taken.items in
    let snapshot = c.in_ok-snapshot.snapshot in
    let more : c.push.new.self.items ≡ taken ++ snapshot ∷ [] = search rules in record {
      hand = looked_again _ _ _ _ c.take_snapshot.ensures.hand c.loop-number.invariant.hand;
      count = omega (arith, ap length more, length-append taken (snapshot ∷ []), c.loop-number.invariant.count);
      each = subst (All (HasTakenOne c.args.self.now.state hand)) (sym more)
          (taken_more c.args.self.now.state c.loop-number.hand hand taken snapshot c.take_snapshot.ensures.hand.knows
          c.loop-number.invariant.each c.in_ok-snapshot.ensures.taken);
    }
