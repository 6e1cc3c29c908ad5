use Rattle.lh_serving.specs.Answers.{first_file}
use Rattle.lh_serving.proofs.CallsServed.{shows_first}
use Rattle.lh_serving.proofs.conversation.Conversation.new.Goals as goal

pub returns-clause-begun : goal.returns-clause-begun
returns-clause-begun c =
    c.over.ensures.begun (first_file c.args.config)
    (shows_first c.args.config c.in_ok-new.field-0 c.in_ok-new.ensures.config c.in_ok-new.ensures.state
    c.in_ok-new.ensures.empty)
