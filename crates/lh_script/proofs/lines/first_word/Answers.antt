use Rattle.std.proofs.Common.{drop, take, length, ◌-◌, arith}
use Rattle.std.proofs.lemmas.Grind.{common_steps}
use Rattle.lh_script.proofs.Splitting.{no_words, word_parts}
use Rattle.lh_script.proofs.lines.first_word.Goals as goal

pub returns-then-is_empty : goal.returns-then-is_empty
returns-then-is_empty c = grind (arith, common_steps, no_words c.args.line.now)

pub returns : goal.returns
returns c =
    grind (
      arith,
      common_steps,
      word_parts c.args.line.now
          (take (length c.args.line.now - c.blanks.result) (drop c.blanks.result c.args.line.now))
          c.split_at.result.0.now c.split_at.result.1.now,
    )
