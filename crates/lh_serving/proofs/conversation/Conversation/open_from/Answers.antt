use Rattle.lh_serving.specs.Answers.{file_of}
use Rattle.lh_serving.proofs.CallsServed.{shows_opened}
use Rattle.lh_serving.proofs.conversation.Conversation.open_from.Goals as goal

pub returns-clause-begun : goal.returns-clause-begun
returns-clause-begun c =
    c.over.ensures.begun (file_of c.args.listing.now)
    (shows_opened c.args.listing.now c.in_ok-world.world c.in_ok-records.records c.in_ok-world.ensures
    c.in_ok-records.ensures.count)
