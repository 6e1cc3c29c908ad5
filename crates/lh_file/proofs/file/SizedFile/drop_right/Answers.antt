use Rattle.std.proofs.Common.{ap, ◌∙◌}
use Rattle.lh_file.specs.HashFile.{Shared}
use Rattle.lh_file.proofs.OfWords.Fields.{is_of, righted}
use Rattle.lh_file.proofs.file.SizedFile.drop_right.Goals as goal

pub drop_right-requires : goal.drop_right-requires
drop_right-requires g c = record {
  at =
      (is_of c.words.inside c.hand.inside _ _ (c.words.view_is ∙ ap (λ (s : Shared). s.state) c.self.view_is)
      c.hand.view_is c.requires.of).table;
  live = c.hand.invariant.live;
  right = righted c.hand.inside _ c.hand.view_is c.requires.right;
  unmoved = c.hand.invariant.unmoved;
}
