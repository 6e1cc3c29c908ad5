-- A merge leaves the hand one that only counts.
use Rattle.std.proofs.Common.{sym, ap, subst, ◌∙◌}
use Rattle.lh_file.specs.History.Updating.{IsUpdating}
use Rattle.lh_file.specs.History.UpdatingLaws.{merging}
use Rattle.use_counter.specs.Counting.{one_more}
use Rattle.use_counter.proofs.count_word.Goals as goal

pub returns : goal.returns
returns g c =
    subst (λ first. IsUpdating one_more first c.args.file.now.state c.merge.new.hand) c.value.ensures
    (merging one_more c.value.result c.args.word.now _ c.args.file.now.state c.args.hand.now c.merge.new.hand
    c.merge.result (λ was value made. made.1 ∙ ap one_more made.2) c.merge.ensures
    (subst (λ first. IsUpdating one_more first c.args.file.now.state c.args.hand.now) (sym c.value.ensures) c.requires))
