-- What a closed table says
use Rattle.std.proofs.Common.{◌≡◌, ℕ, zero, suc, Bool, List, [], ◌∷◌, map, get_or, sym, ap, ◌∙◌, subst}
use mathlib.Core.Option.{some, some-injective, some-ne-none}
use lib.ListN.{get_elem?}
use Rattle.atomic_table.specs.Table.{Final, Seen}
use Rattle.lh_bucket.specs.Listing.{Lists}
use Rattle.lh_words.specs.History.History.{History}
use Rattle.lh_words.specs.Rule.{IsRule, words_of}
use Rattle.lh_words.specs.Table.{shown, IsFileTable, IsEnd}
use Rattle.lh_words.specs.declared.numbers.FileWords.{FileWords}
use Rattle.lh_words.specs.declared.offsets.TheConstants.{ROOT, STAMPS, INSERTS, DELETES}
use Rattle.lh_words.specs.declared.seat_view.SeatView.{SeatView}

at : (l : List ℕ) (i a : ℕ) → get_elem? l i ≡ some a → get_or l i 0 ≡ a
at [] i a e = absurd (some-ne-none a (sym e))
at (x ∷ l) zero a e = some-injective x a e
at (x ∷ l) (suc i) a e = at l i a e

-- what a closed table says
pub ends : (traced : Bool) (k : Lists) (items : List ℕ) (xs : List (Unit {0})) (id : ℕ) (d : SeatView)
    (last : FileWords) → Final (Seen (IsFileTable traced k) id d) items xs
    → get_elem? items ROOT ≡ some last.root → get_elem? items STAMPS ≡ some last.stamps →
    get_elem? items INSERTS ≡ some last.inserts → get_elem? items DELETES ≡ some last.deletes → IsEnd traced k last d
ends traced k items xs id d last end root stamps inserts deletes =
    let s = end.0 in let o = end.1.0 in
    let read : words_of items ≡ last =
    λ i.
    record {
      root = at items ROOT last.root root i;
      stamps = at items STAMPS last.stamps stamps i;
      inserts = at items INSERTS last.inserts inserts i;
      deletes = at items DELETES last.deletes deletes i;
    } in
    let same : words_of s.words ≡ last = ap words_of end.2 ∙ read in record {
      seats = s.views;
      id = id;
      here = end.1.1;
      rule = subst (λ (w : FileWords). IsRule k.config.initial k.config.max w (map shown s.views)) same o.rule;
      history = λ on. subst (λ (w : FileWords). History k w s.views) same (o.history on);
    }
