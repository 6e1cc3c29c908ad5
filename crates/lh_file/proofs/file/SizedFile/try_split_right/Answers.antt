use Rattle.std.proofs.Common.{arith, ap, sym, ◌∙◌}
use Rattle.lh_file.specs.FileState.{FileState}
use Rattle.lh_file.specs.HashFile.{Shared}
use Rattle.lh_file.proofs.OfWords.Fields.{is_of, known_more, even}
use Rattle.lh_file.proofs.file.SizedFile.try_split_right.Goals as goal

pub claim_right-found-requires : goal.claim_right-found-requires
claim_right-found-requires g c =
    let state = c.words.view_is ∙ ap (λ (s : Shared). s.state) c.self.view_is in
    let of =
    is_of c.words.inside c.hand.inside _ _ state c.hand.view_is
    (known_more _ _ _ _ c.requires c.root_word-word.ensures.knows) in
    let max = of.max in
    let range = c.root_word-word.ensures.range.1 in
    let no_right = even c.root_word-word.result (sym c.split_of.ensures ∙ c.if-split_of.false) in
    let not_full = c.if-size-max.false in
    let same = ap (λ (f : FileState). f.config.max) state in record {
      at = of.table;
      live = c.hand.invariant.live;
      even = no_right;
      below = omega arith;
      small = omega arith;
    }
