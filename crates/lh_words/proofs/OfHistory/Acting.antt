-- An act enters the log in the step that draws its stamp
use Rattle.std.proofs.Common.{
  ◌≡◌,
  ◌≢◌,
  ℕ,
  ◌+◌,
  ◌<◌,
  ◌≤◌,
  Bool,
  true,
  false,
  Option,
  Some,
  None,
  List,
  [],
  ◌∷◌,
  ◌++◌,
  set,
  refl,
  sym,
}
use Rattle.std.proofs.Common.{cond, ap, ◌∙◌, subst, arith, length-append, append_assoc}
use Rattle.std.specs.FinMap.{get, retain_keys}
use Rattle.std.proofs.lemmas.Bool.{false≢true}
use mathlib.Core.Option.{some}
use lib.ListN.{get_elem?}
use Rattle.atomic_table.proofs.Lists.{at_longer, at_last}
use Rattle.lh_addr.specs.Fnv.{code_of}
use Rattle.lh_addr.specs.Growth.{level_of}
use Rattle.lh_addr.specs.RootWord.{buckets_of}
use Rattle.lh_bucket.specs.Bucket.{Seen, content}
use Rattle.lh_bucket.specs.Listing.{Lists}
use Rattle.lh_bucket.specs.PlainMap.{Records, reply, after, key_of}
use Rattle.lh_bucket.specs.declared.call.Call.{Call}
use Rattle.lh_bucket.specs.declared.call.Reply.{Reply}
use Rattle.lh_settling.specs.Settled.{map_in}
use Rattle.lh_words.specs.History.Buckets.{bit, owns, belongs, owners_in, Mirrors, HasServedCall, IsPlacedIn}
use Rattle.lh_words.specs.History.History.{owners, moves_in, History}
use Rattle.lh_words.specs.History.Log.{entry, left_after, IsLegalAct, stamps_in, StandsIn, Begins}
use Rattle.lh_words.specs.Rule.{Each, rights_of}
use Rattle.lh_words.specs.Seats.{with_act}
use Rattle.lh_words.specs.Sums.{total}
use Rattle.lh_words.specs.declared.numbers.FileWords.{FileWords}
use Rattle.lh_words.specs.declared.seat_view.Entry.{Entry}
use Rattle.lh_words.specs.declared.seat_view.SeatView.{SeatView}
use Rattle.lh_bucket.specs.PlainMapLaws.{get_kept, reply_here, after_here, after_elsewhere, kept_alike}
use Rattle.lh_words.specs.History.LogLaws.{left_after-snoc, legal-snoc, stamps_in-append}
use Rattle.lh_words.specs.EachLaws.{each_other, each_set, each_snoc, each_one}
use Rattle.lh_words.specs.SumLaws.{total-set, term_le, terms_le}

begins_longer : (log more start : List Entry) → Begins log start → Begins (log ++ more) start
begins_longer log more start (rest, is) = (rest ++ more, sym (append_assoc start rest more) ∙ ap (λ l. l ++ more) is)

-- a code of a bucket counts
pub owned : (c : ℕ) (d : SeatView) (i : ℕ) (p : Seen) → get_elem? d.parts i ≡ some p → owns c p ≡ true → 1 ≤ owners c d
owned c d i p at is =
    subst (λ (b : Bool). bit b ≤ owners c d) is (term_le (λ (x : Seen). bit (owns c x)) d.parts i p at)

-- what is never true is false
pub none_or_all : (b : Bool) → (b ≡ true → ⊥) → b ≡ false
none_or_all b never =
    elim b as (λ b. (b ≡ true → ⊥) → b ≡ false) [ true ↦ λ f. absurd (f refl) | false ↦ λ f. refl ] never

module _ (k : Lists) (old new : FileWords) (seats : List SeatView) (id : ℕ) (d : SeatView)
    (me : get_elem? seats id ≡ some d) (drawn : new.stamps ≡ old.stamps + 1) (root : new.root ≡ old.root) where
  -- the log that is one act longer is legal, and leaves what the buckets hold
  pub enters : (outside : Bool) (call : Call) (given : Reply) (was : Option (List ℕ)) (parts : List Seen)
      (o : History k old seats)
      → (outside ≡ false → IsLegalAct (left_after (map_in k) o.log) (entry outside old.stamps call given was))
      → Each parts (Mirrors (left_after (map_in k) (o.log ++ entry outside old.stamps call given was ∷ [])))
      → ((j : ℕ) (u : SeatView) → j ≢ id → get_elem? seats j ≡ some u →
      Each u.parts (Mirrors (left_after (map_in k) (o.log ++ entry outside old.stamps call given was ∷ []))))
      → ((c : ℕ) → owners_in c parts ≡ owners c d)
      → ((n : ℕ) → Each d.parts (IsPlacedIn k.config.initial n) → Each parts (IsPlacedIn k.config.initial n))
      → History k new (set seats id (with_act outside call given was parts old.stamps d))
  enters outside call given was parts o legal mine others counts places =
      let e : Entry = entry outside old.stamps call given was in
      let log : List Entry = o.log ++ e ∷ [] in
      let w : SeatView = with_act outside call given was parts old.stamps d in
      let size : buckets_of new.root ≡ buckets_of old.root = ap buckets_of root in
      let sum : buckets_of old.root + total moves_in seats ≡ buckets_of new.root + total moves_in (set seats id w) =
      (let a = total-set moves_in seats id d w me in omega arith) in
      record {
        log = log;
        size_is = let z = o.size_is in let l = length-append o.log (e ∷ []) in omega arith;
        legal = legal-snoc (map_in k) o.log e o.legal legal;
        stamped =
            each_set (λ (u : SeatView). u.view.stamps ≡ stamps_in u.entries) seats id w o.stamped
            (ap (λ (l : List ℕ). l ++ old.stamps ∷ []) (o.stamped id d me) ∙ sym (stamps_in-append d.entries (e ∷ [])));
        stand =
            each_other (λ (u : SeatView). Each u.entries (StandsIn log)) seats id w
            (λ j u _ at i a here. at_longer o.log (e ∷ []) a.line.stamp a (o.stand j u at i a here))
            (each_snoc (StandsIn log) d.entries e
            (λ i a here. at_longer o.log (e ∷ []) a.line.stamp a (o.stand id d me i a here))
            (at_last o.log e old.stamps o.size_is));
        logs =
            each_other (λ (u : SeatView). Each u.logs (Begins log)) seats id w
            (λ j u _ at i s here. begins_longer o.log (e ∷ []) s (o.logs j u at i s here))
            (λ i s here. begins_longer o.log (e ∷ []) s (o.logs id d me i s here));
        mirror =
            each_other (λ (u : SeatView). Each u.parts (Mirrors (left_after (map_in k) log))) seats id w others mine;
        one = λ c. let a = total-set (owners c) seats id d w me in let b = counts c in let g = o.one c in omega arith;
        placed = subst (λ (x : ℕ). Each (set seats id w) (λ u. Each u.parts (IsPlacedIn k.config.initial x))) sum
            (each_set
            (λ (u : SeatView).
            Each u.parts (IsPlacedIn k.config.initial (buckets_of old.root + total moves_in seats))) seats id w
            o.placed
            (places (buckets_of old.root + total moves_in seats) (o.placed id d me)));
        movers = each_set (λ (u : SeatView). moves_in u ≤ rights_of u.view) seats id w o.movers (o.movers id d me);
      }

  -- an act on a bucket that isn't the file's changes nothing
  pub stays_outside : (call : Call) (given : Reply) → History k old seats →
      History k new (set seats id (with_act true call given None d.parts old.stamps d))
  stays_outside call given o =
      let same : left_after (map_in k) (o.log ++ entry true old.stamps call given None ∷ [])
      ≡ left_after (map_in k) o.log = left_after-snoc (map_in k) o.log (entry true old.stamps call given None) in
      let still =
      λ (ps : List Seen) (all : Each ps
      (Mirrors (left_after (map_in k) o.log))) (i : ℕ) (x : Seen) (here : get_elem? ps i ≡ some x).
      all i x here ∙ ap (λ m. retain_keys m (belongs x)) (sym same) in
      enters true call given None d.parts o
      (λ (no : true ≡ false). absurd (false≢true (sym no)))
      (still d.parts (o.mirror id d me))
      (λ j u _ at. still u.parts (o.mirror j u at))
      (λ c. refl)
      (λ n at. at)

  -- an act on the file's bucket that lies with the hand: it is legal, since the bucket holds what the log leaves of its
  -- keys, and no other bucket has the key
  pub acts : (p r : Seen) (call : Call) (given : Reply) (was : Option (List ℕ)) → d.parts ≡ p ∷ [] →
      owns (code_of (key_of call)) p ≡ true → HasServedCall p call given r → was ≡ get (content p) (key_of call)
      → History k old seats → History k new (set seats id (with_act false call given was (r ∷ []) old.stamps d))
  acts p r call given was has own served met o =
      let m : Records = left_after (map_in k) o.log in
      let n : Records = left_after (map_in k) (o.log ++ entry false old.stamps call given was ∷ []) in
      let longer : n ≡ after m call = left_after-snoc (map_in k) o.log (entry false old.stamps call given was) in
      let there : get_elem? d.parts 0 ≡ some p = subst (λ (l : List Seen). get_elem? l 0 ≡ some p) (sym has) refl in
      let held : content p ≡ retain_keys m (belongs p) = o.mirror id d me 0 p there in
      let alike : (key : List ℕ) → belongs p key ≡ belongs r key =
      λ key. ap (λ hd. owns (code_of key) (record { head = hd; pairs = p.pairs })) (sym served.head) in
      let count : (c : ℕ) → bit (owns c r) ≡ bit (owns c p) =
      λ c. ap (λ hd. bit (owns c (record { head = hd; pairs = p.pairs }))) served.head in
      enters false call given was (r ∷ []) o
      (λ _. (
        served.replied ∙ ap (λ z. reply z call) held ∙ reply_here m (belongs p) call own,
        met ∙ ap (λ z. get z (key_of call)) held ∙ get_kept m (belongs p) (key_of call)
            ∙ ap (λ b. cond b (get m (key_of call)) None) own,
      ))
      (each_one (Mirrors n) r
      (served.left ∙ ap (λ z. after z call) held ∙ after_here m (belongs p) call own
      ∙ kept_alike (after m call) (belongs p) (belongs r) alike
      ∙ ap (λ z. retain_keys z (belongs r)) (sym longer)))
      (λ j u ne at i x here.
      let apart : belongs x (key_of call) ≡ false = none_or_all (owns (code_of (key_of call)) x) (λ is.
      let two = terms_le (owners (code_of (key_of call))) seats id j d u ne me at in
      let a = owned (code_of (key_of call)) d 0 p there own in
      let b = owned (code_of (key_of call)) u i x here is in
      let only = o.one (code_of (key_of call)) in
      absurd (omega arith)) in
      o.mirror j u at i x here ∙ sym (after_elsewhere m (belongs x) call apart)
      ∙ ap (λ z. retain_keys z (belongs x)) (sym longer))
      (λ c. let a = ap (owners_in c) has in let b = count c in omega arith)
      (λ z at. each_one (IsPlacedIn k.config.initial z) r (
      let was : IsPlacedIn k.config.initial z p = at 0 p there in record {
        initial_is = ap (λ hd. hd.initial) served.head ∙ was.initial_is;
        below = subst (λ hd. hd.number < z) (sym served.head) was.below;
        level_is = subst (λ hd. hd.level ≡ Some (level_of k.config.initial z hd.number)) (sym served.head) was.level_is;
      }))
