use Rattle.std.proofs.Common.{arith, sym, ap, ◌∙◌, subst}
use mathlib.Core.Option.{none}
use Rattle.atomic_table.specs.Table.{step, Allows}
use Rattle.lh_bucket.specs.Listing.{Lists}
use Rattle.lh_words.specs.TableState.{TableState}
use Rattle.lh_words.specs.Plays.{told}
use Rattle.lh_words.specs.Table.{IsFileTable}
use Rattle.lh_words.specs.declared.offsets.TheConstants.{STAMPS}
use Rattle.lh_words.proofs.OfWords.CountSteps.{tells}
use Rattle.lh_words.proofs.OfWords.Fields.{has_word}
use Rattle.lh_words.proofs.table.WordTable.tell.Goals as goal

pub load-requires : goal.load-requires
load-requires g c = let k = c.self.inside.words.shared.key in let z = c.self.inside.words.shared.table_id.slots in (
  c.requires.at ∙ sym (ap (λ (f : TableState). f.id) c.self.view_is),
  has_word c.self.inside c.self.invariant _ (omega arith),
  subst
      (λ (l : Lists).
      Allows (IsFileTable g.M.Mode.traced k) z c.args.seat.now.id c.args.seat.now.me STAMPS (λ n. n)
      (told g.M.Mode.traced l (step z STAMPS 0 0 none) c.args.seat.now.me))
      (ap (λ (f : TableState). f.listing) c.self.view_is ∙ sym c.requires.opened)
      (tells g.M.Mode.traced k z c.args.seat.now.id c.args.seat.now.me c.requires.live),
)
