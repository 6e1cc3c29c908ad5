use Rattle.std.proofs.Common.{subst, arith}
use Rattle.lh_shards.specs.Dividing.{IsRefused}
use Rattle.lhash.proofs.ShardHands.{all_have, divided}
use Rattle.lhash.proofs.shards_crew.ShardsTracedSharedTable.divide.Goals as goal

pub returns-in-Ok-clause-part : goal.returns-in-Ok-clause-part
returns-in-Ok-clause-part g c =
    (divided c.hands_keep_their_shares.ensures.divided c.args.self.now c.args.calls c.args.hands.now c.in-Ok.part
    c.split_hands.new.hands c.in-Ok.ensures.given c.split_hands.ensures.of c.in-Ok.ensures.divided.given
    c.in-Ok.ensures.divided.kept c.requires.0 c.requires.1).0

pub returns-in-Ok-clause-kept : goal.returns-in-Ok-clause-kept
returns-in-Ok-clause-kept g c others have =
    (divided c.hands_keep_their_shares.ensures.divided c.args.self.now c.args.calls c.args.hands.now c.in-Ok.part
    c.split_hands.new.hands c.in-Ok.ensures.given c.split_hands.ensures.of c.in-Ok.ensures.divided.given
    c.in-Ok.ensures.divided.kept others have).1

pub unreachable-requires : goal.unreachable-requires
unreachable-requires g c =
    let refused =
    subst (IsRefused c.args.calls c.args.hands.now) c.in-Err-Spent.field-0-is c.in-Err-Spent.ensures.divided.refused in
    let short = refused.0 in
    omega (
      arith,
      short.2,
      short.3,
      all_have c.args.self.now _ 0 c.args.calls c.args.hands.now c.requires.1 (omega arith) _ short.0 short.1,
    )
