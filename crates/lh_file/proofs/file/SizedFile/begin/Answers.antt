use Rattle.lh_file.proofs.OfCalls.Serving.{knows_same, knows_room}
use Rattle.lh_file.proofs.file.SizedFile.begin.Goals as goal

pub returns-then-left-eq0-clause-looked : goal.returns-then-left-eq0-clause-looked
returns-then-left-eq0-clause-looked g c = knows_same c.args.hand.now

pub returns-in_err-make_room-clause-looked : goal.returns-in_err-make_room-clause-looked
returns-in_err-make_room-clause-looked g c = knows_room _ _ c.in_err-make_room.ensures.same
