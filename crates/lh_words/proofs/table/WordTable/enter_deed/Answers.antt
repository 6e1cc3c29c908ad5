use Rattle.std.proofs.Common.{List, arith, sym, ap, ◌∙◌}
use Rattle.lh_bucket.specs.Bucket.{Seen}
use Rattle.lh_bucket.specs.PlainMap.{key_of}
use Rattle.lh_words.specs.Seats.{met_in}
use Rattle.lh_words.specs.TableState.{TableState}
use Rattle.lh_words.proofs.OfWords.CountSteps.{draws_stamp}
use Rattle.lh_words.proofs.OfWords.Fields.{has_word}
use Rattle.lh_words.proofs.table.WordTable.enter_deed.Goals as goal

pub fetch_add-requires : goal.fetch_add-requires
fetch_add-requires g c = let s = c.requires.serves in (
  c.requires.at ∙ sym (ap (λ (f : TableState). f.id) c.self.view_is),
  has_word c.self.inside c.self.invariant _ (omega arith),
  draws_stamp g.M.Mode.traced c.self.inside.words.shared.key _ _ c.args.seat.now.me s.0 g.D.Deed.bucket g.D.Deed.call
      g.D.Deed.reply g.D.Deed.was s.1 s.2 s.3
      (c.requires.met ∙ ap (λ (l : List Seen). met_in l (key_of g.D.Deed.call)) s.1) c.requires.live c.requires.left,
)
