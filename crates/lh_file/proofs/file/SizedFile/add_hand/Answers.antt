use Rattle.std.proofs.Common.{ap, ◌∙◌}
use Rattle.lh_file.specs.HashFile.{Shared}
use Rattle.lh_file.proofs.OfWords.Fields.{is_of, unrighted}
use Rattle.lh_file.proofs.file.SizedFile.add_hand.Goals as goal

pub unite-requires : goal.unite-requires
unite-requires g c = let state = c.words.view_is ∙ ap (λ (s : Shared). s.state) c.self.view_is in record {
  first = (is_of c.words.inside c.first.inside _ _ state c.first.view_is c.requires.first).table;
  second = (is_of c.words.inside c.second.inside _ _ state c.second.view_is c.requires.second).table;
  live = c.first.invariant.live;
  free = c.second.invariant.free;
  right = unrighted c.second.inside _ c.second.view_is c.requires.right;
  unmoved = c.second.invariant.unmoved;
}
