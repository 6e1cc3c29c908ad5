use Rattle.lh_subcommands.proofs.SameReplies.{same_replies}
use Rattle.lh_subcommands.proofs.laws.serve_replies_as_commands.Goals as goal

pub returns : goal.returns
returns c = same_replies
