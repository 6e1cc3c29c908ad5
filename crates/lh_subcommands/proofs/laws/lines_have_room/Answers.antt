use Rattle.lh_subcommands.proofs.LineLengths.{entry_fits, record_fits, reply_fits, size_fits}
use Rattle.lh_subcommands.proofs.laws.lines_have_room.Goals as goal

pub returns : goal.returns
returns c = record {
  replies = reply_fits c.words_are_short.ensures;
  sizes = size_fits;
  entries = entry_fits c.words_are_short.ensures;
  records = record_fits c.words_are_short.ensures;
}
