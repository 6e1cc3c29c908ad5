use Rattle.std.proofs.Common.{ap, ◌∙◌}
use Rattle.lh_file.specs.HashFile.{Shared}
use Rattle.lh_file.proofs.OfWords.Fields.{is_of}
use Rattle.lh_file.proofs.file.SizedFile.root_word.Goals as goal

pub root_word-word-requires : goal.root_word-word-requires
root_word-word-requires g c = record {
  at =
      (is_of c.words.inside c.hand.inside _ _ (c.words.view_is ∙ ap (λ (s : Shared). s.state) c.self.view_is)
      c.hand.view_is c.requires).table;
  live = c.hand.invariant.live;
}
