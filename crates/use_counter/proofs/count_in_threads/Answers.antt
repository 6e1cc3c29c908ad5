-- Each hand that was given calls only counts, and so does the one that all are joined into.
use Rattle.std.proofs.Common.{◌*◌}
use Rattle.std.specs.Int.{to_be_bytes, w32}
use Rattle.lh_file.specs.History.UpdatingLaws.{giving, joining}
use Rattle.use_counter.specs.Counting.{one_more}
use Rattle.use_counter.proofs.count_in_threads.Goals as goal

pub returns : goal.returns
returns g c =
    joining one_more (to_be_bytes w32 1) c.args.file.now.state c.split_hands.new.hand c.count_with.new.hands.items
    c.in_ok-join_all.field-0 c.in_ok-join_all.ensures.joined c.in_ok-join_all.ensures.of
    (giving one_more (to_be_bytes w32 1) c.args.file.now.state (8 * 100) c.args.hand c.split_hands.new.hand
    c.in_ok-hands.ensures.kept c.requires)
    (λ k d below. (c.count_with.ensures k d below).counter)
