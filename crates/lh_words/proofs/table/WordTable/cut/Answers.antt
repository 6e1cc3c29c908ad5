use Rattle.std.proofs.Common.{arith, sym, ap, ◌∙◌, subst}
use Rattle.lh_bucket.specs.Listing.{Lists}
use Rattle.lh_words.specs.TableState.{TableState}
use Rattle.lh_words.specs.History.Buckets.{IsNextSplit}
use Rattle.lh_words.proofs.OfHistory.Moving.{moves}
use Rattle.lh_words.proofs.OfWords.Fields.{has_word, some_buckets}
use Rattle.lh_words.proofs.table.WordTable.cut.Goals as goal

pub split_seat-requires : goal.split_seat-requires
split_seat-requires g c =
    let h = c.requires.halves in let k = c.self.inside.words.shared.key in let d = c.args.seat.now.me.0 in (
      c.requires.at ∙ sym (ap (λ (f : TableState). f.id) c.self.view_is),
      has_word c.self.inside c.self.invariant _ (omega arith),
      moves g.M.Mode.traced k c.root_is_only_pair.ensures c.split_moves_one_bucket.ensures.levels
          c.hashes_are_nested.ensures.rises (some_buckets c.self.inside c.self.invariant)
          c.args.seat.now.id d h.0 g.H.Halves.low g.H.Halves.high h.1 c.requires.right c.requires.unmoved
          (subst (λ (l : Lists). IsNextSplit l.config.initial d.view.known h.0)
          (sym (ap (λ (f : TableState). f.listing) c.self.view_is)) h.2)
          h.3,
    )
