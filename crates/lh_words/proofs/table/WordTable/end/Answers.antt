use Rattle.std.proofs.Common.{ap, subst}
use Rattle.std.specs.Slots.{slots_items}
use Rattle.lh_bucket.specs.Listing.{Lists}
use Rattle.lh_words.specs.Table.{IsEnd}
use Rattle.lh_words.specs.TableState.{TableState}
use Rattle.lh_words.proofs.OfWords.LastWords.{ends}
use Rattle.lh_words.proofs.table.WordTable.end.Goals as goal

pub returns : goal.returns
returns g c =
    subst
    (λ (l : Lists).
    IsEnd g.M.Mode.traced l
    (record {
      root = c.word.result;
      stamps = c.word-2.result;
      inserts = c.word-3.result;
      deletes = c.word-4.result;
    }) c.args.seat.me.0) (ap (λ (t : TableState). t.listing) c.self.view_is)
    (ends g.M.Mode.traced c.self.inside.words.shared.key (slots_items c.close_with-closed.result.words) _ c.args.seat.id
    c.args.seat.me.0 _ c.close_with-closed.ensures.values.2 c.word.ensures c.word-2.ensures c.word-3.ensures
    c.word-4.ensures)
