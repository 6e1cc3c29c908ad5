use Rattle.std.proofs.Common.{rules}
use Rattle.lhash.proofs.Looking.{looked_told}
use Rattle.lhash.proofs.file_crew.await_acts.Goals as goal

pub told-made-requires : goal.told-made-requires
told-made-requires g c = (search rules, c.loop-turn.invariant.own.of)

pub loop-turn-preserved : goal.loop-turn-preserved
loop-turn-preserved g c =
    looked_told _ _ _ _ c.told-made.result c.told-made.ensures.log c.told-made.ensures.after_is c.loop-turn.invariant

pub returns-then-made-acts : goal.returns-then-made-acts
returns-then-made-acts g c =
    looked_told _ _ _ _ c.told-made.result c.told-made.ensures.log c.told-made.ensures.after_is c.loop-turn.invariant
