use Rattle.lh_file.proofs.OfCalls.Serving.{knows_same, knows_equal}
use Rattle.lh_file.proofs.file.SizedFile.grow.Goals as goal

pub returns-then-has_right-clause-looked : goal.returns-then-has_right-clause-looked
returns-then-has_right-clause-looked g c = knows_same c.args.hand.now

pub returns-then-not-wants_split-clause-looked : goal.returns-then-not-wants_split-clause-looked
returns-then-not-wants_split-clause-looked g c =
    knows_equal c.args.hand.now c.load-load.new.hand c.load-load.ensures.same
