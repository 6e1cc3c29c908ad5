-- A split's move keeps the history
use Rattle.std.proofs.Common.{◌≡◌, ◌≢◌, ℕ, zero, suc, ◌+◌, ◌*◌, ◌^◌, ◌<◌, ◌≤◌, Bool, true, false, cond, ◌||◌, eqb, List}
use Rattle.std.proofs.Common.{[], ◌∷◌, ◌++◌, set, Some, refl, sym, ap, ◌∙◌, subst, arith, eq-eqb, ne_eqb}
use Rattle.std.specs.Option.{unwrap_or}
use Rattle.std.proofs.Math.Nat.{mod-eq_of_lt}
use Rattle.std.proofs.lemmas.Bool.{false≢true}
use mathlib.Core.Option.{some, some-injective, some-ne-none}
use lib.ListN.{get_elem?}
use Rattle.atomic_table.specs.Table.{Splits}
use Rattle.atomic_table.proofs.Lists.{at_map}
use Rattle.lh_addr.specs.Growth.{hash_at, level, pointer, level_of, RootLaw, SplitLevels, HashRises}
use Rattle.lh_addr.specs.RootWord.{buckets_of}
use Rattle.lh_bucket.specs.Bucket.{Seen}
use Rattle.lh_bucket.specs.Listing.{Lists}
use Rattle.lh_settling.specs.Settled.{map_in}
use Rattle.lh_words.specs.History.Buckets.{bit, owns, owners_in, Mirrors, HasDivided, IsPlacedIn, IsNextSplit}
use Rattle.lh_words.specs.History.History.{owners, moves_in, History}
use Rattle.lh_words.specs.History.Log.{left_after, stamps_in, StandsIn, Begins}
use Rattle.lh_words.specs.Rule.{Each, rights_of, words_of}
use Rattle.lh_words.specs.Seats.{mover, upper_half}
use Rattle.lh_words.specs.Sums.{total}
use Rattle.lh_words.specs.Table.{shown, IsFileTable}
use Rattle.lh_words.specs.declared.numbers.FileWords.{FileWords}
use Rattle.lh_words.specs.declared.seat_view.SeatView.{SeatView}
use Rattle.lh_words.specs.History.BucketLaws.{root_of}
use Rattle.lh_words.proofs.OfHistory.Acting.{owned}
use Rattle.lh_words.proofs.OfHistory.Halves.{halves_count, low_mirrors, high_mirrors}
use Rattle.lh_words.specs.EachLaws.{each_other, each_snoc, each_none, each_one, total-cut}
use Rattle.lh_words.proofs.OfHistory.BucketSeats.{with_spent}
use Rattle.lh_words.proofs.OfWords.Changes.{Words, rights-one}
use Rattle.lh_words.specs.SumLaws.{total-cons, total-le, total-map, terms_le}

-- what one has of a smaller sum, and what it leaves of a greater one
gap : {A : Type 0} (f g : A → ℕ) (l : List A) (id : ℕ) (v : A) → get_elem? l id ≡ some v →
    ((j : ℕ) (u : A) → get_elem? l j ≡ some u → f u ≤ g u) → total f l + g v ≤ total g l + f v
gap f g [] id v e h = absurd (some-ne-none v (sym e))
gap f g (x ∷ xs) zero v e h =
    let is = some-injective x v e in
    omega (arith, total-cons f x xs, total-cons g x xs, ap f is, ap g is, total-le f g xs (λ j u at. h (suc j) u at))
gap f g (x ∷ xs) (suc id) v e h =
    omega (arith, total-cons f x xs, total-cons g x xs, h 0 x refl, gap f g xs id v e (λ j u at. h (suc j) u at))

-- the levels that a split leaves
chosen : (N S i : ℕ) (a b : Bool) → level_of N (S + 1) i ≡ cond (a || b) (level N S + 1) (level_of N S i)
    → (a ≡ true → level_of N (S + 1) i ≡ level N S + 1) × (b ≡ true → level_of N (S + 1) i ≡ level N S + 1)
    × (a ≡ false → b ≡ false → level_of N (S + 1) i ≡ level_of N S i)
chosen N S i true b e = ((λ _. e), (λ _. e), (λ no _. absurd (false≢true (sym no))))
chosen N S i false true e = ((λ no. absurd (false≢true no)), (λ _. e), (λ _ no. absurd (false≢true (sym no))))
chosen N S i false false e = ((λ no. absurd (false≢true no)), (λ no. absurd (false≢true no)), (λ _ _. e))

module _ (k : Lists) (words : FileWords) (seats : List SeatView) (id : ℕ) (d : SeatView)
    (me : get_elem? seats id ≡ some d) where
  -- the bucket that the pointer names becomes its halves, in the seat that alone may move a split
  pub moves_on : RootLaw → SplitLevels → HashRises → (o : History k words seats) → 1 ≤ k.config.initial →
      k.config.initial ≤ buckets_of words.root → d.view.known ≡ buckets_of words.root → rights_of d.view ≡ 1
      → total moves_in seats ≡ 0 → d.moved ≡ false → (p low high : Seen) → d.parts ≡ p ∷ [] →
      IsNextSplit k.config.initial d.view.known p → HasDivided p low high
      → History k words (set seats id (mover low d) ++ upper_half high ∷ [])
  moves_on roots levels rises o pos least known right nobody unmoved p low high has next divided =
      let N : ℕ = k.config.initial in let S : ℕ = buckets_of words.root in let L : ℕ = level N S in
      let a : SeatView = mover low d in let b : SeatView = upper_half high in
      let S' : S + total moves_in seats ≡ S = omega arith in
      let at_p : get_elem? d.parts 0 ≡ some p = subst (λ (l : List Seen). get_elem? l 0 ≡ some p) (sym has) refl in
      let was : IsPlacedIn N S p = subst (λ x. IsPlacedIn N x p) S' (o.placed id d me 0 p at_p) in
      let lev : p.head.level ≡ Some L = next.level_is ∙ ap (λ x. Some (level N x)) known in
      let num : p.head.number ≡ pointer N S = next.number_is ∙ ap (pointer N) known in
      let root = root_of roots N S pos least in
      let l_is : unwrap_or p.head.level 0 ≡ L = ap (λ x. unwrap_or x 0) lev in
      let small : p.head.number < N * 2 ^ L = (let z = root.in_range in omega arith) in
      let pos' : 1 ≤ p.head.initial = (let z = was.initial_is in omega arith) in
      let below : p.head.number < p.head.initial * 2 ^ unwrap_or p.head.level 0 =
      subst (λ (x : ℕ). p.head.number < x * 2 ^ unwrap_or p.head.level 0) (sym was.initial_is)
      (subst (λ (x : ℕ). p.head.number < N * 2 ^ x) (sym l_is) small) in
      let count = halves_count rises p low high divided pos' below in
      let held : Mirrors (left_after (map_in k) o.log) p = o.mirror id d me 0 p at_p in
      let high_number : high.head.number ≡ S =
      divided.number ∙ (λ i. p.head.number + was.initial_is i * 2 ^ l_is i) ∙ (let z = root.size in omega arith) in
      let choice = λ (i : ℕ) (le : i ≤ S). chosen N S i (eqb i (pointer N S)) (eqb i S) (levels N S i pos least le) in
      let low_at : IsPlacedIn N (S + 1) low = record {
        initial_is = ap (λ hd. hd.initial) divided.low_head ∙ was.initial_is;
        below = subst (λ hd. hd.number < S + 1) (sym divided.low_head) (let z = was.below in omega arith);
        level_is =
            subst (λ hd. hd.level ≡ Some (level_of N (S + 1) hd.number)) (sym divided.low_head)
            (ap (λ x. Some (x + 1)) l_is
            ∙ ap Some
            (sym
            ((choice p.head.number (let z = was.below in omega arith)).0
            (eq-eqb p.head.number (pointer N S) num))));
      } in
      let high_at : IsPlacedIn N (S + 1) high = record {
        initial_is = divided.initial ∙ was.initial_is;
        below = omega arith;
        level_is =
            divided.level ∙ ap (λ x. Some (x + 1)) l_is ∙ ap Some (sym ((choice S (omega arith)).1 (eq-eqb S S refl)))
            ∙ ap (λ x. Some (level_of N (S + 1) x)) (sym high_number);
      } in
      let own_p : owns p.head.number p ≡ true =
      eq-eqb (hash_at p.head.initial (unwrap_or p.head.level 0) p.head.number) p.head.number (mod-eq_of_lt below) in
      let others : (j : ℕ) (u : SeatView) → j ≢ id → get_elem? seats j ≡ some u → Each u.parts (IsPlacedIn N (S + 1)) =
      λ j u ne at i x here. (
      let xa : IsPlacedIn N S x = subst (λ y. IsPlacedIn N y x) S' (o.placed j u at i x here) in
      let apart : x.head.number ≢ p.head.number = λ same. (
      let xl : unwrap_or x.head.level 0 ≡ unwrap_or p.head.level 0 =
      ap (λ y. unwrap_or y 0) (xa.level_is ∙ ap (λ y. Some (level_of N S y)) same ∙ sym was.level_is) in
      let own_x : owns p.head.number x ≡ true =
      (λ i. eqb (hash_at ((xa.initial_is ∙ sym was.initial_is) i) (xl i) p.head.number) (same i)) ∙ own_p in
      let two = terms_le (owners p.head.number) seats id j d u ne me at in
      let y = owned p.head.number d 0 p at_p own_p in
      let z = owned p.head.number u i x here own_x in
      let only = o.one p.head.number in
      omega arith) in
      record {
        initial_is = xa.initial_is;
        below = let z = xa.below in omega arith;
        level_is =
            xa.level_is
            ∙ ap Some
            (sym
            ((choice x.head.number (let z = xa.below in omega arith)).2
            (ne_eqb x.head.number (pointer N S) (λ e. apart (e ∙ sym num)))
            (ne_eqb x.head.number S (λ e. let z = xa.below in absurd (omega arith)))));
      }) in
      let every =
      λ (P : SeatView → Type 0) (all : (j : ℕ) (u : SeatView) → j ≢ id → get_elem? seats j ≡ some u →
      P u) (l : P a) (r : P b). each_snoc P (set seats id a) b (each_other P seats id a all l) r in
      let moves : S + 1 ≡ S + total moves_in (set seats id a ++ b ∷ []) =
      (let c = total-cut moves_in seats id d a b me in let z = ap bit unmoved in omega arith) in
      record {
        log = o.log;
        size_is = o.size_is;
        legal = o.legal;
        stamped =
            every (λ u. u.view.stamps ≡ stamps_in u.entries) (λ j u ne at. o.stamped j u at) (o.stamped id d me) refl;
        stand =
            every (λ u. Each u.entries (StandsIn o.log)) (λ j u ne at. o.stand j u at) (o.stand id d me)
            (each_none (StandsIn o.log));
        logs =
            every (λ u. Each u.logs (Begins o.log)) (λ j u ne at. o.logs j u at) (o.logs id d me)
            (each_none (Begins o.log));
        mirror = every (λ u. Each u.parts (Mirrors (left_after (map_in k) o.log))) (λ j u ne at. o.mirror j u at)
            (each_one (Mirrors (left_after (map_in k) o.log)) low
            (low_mirrors rises p low high divided pos' below (left_after (map_in k) o.log) held))
            (each_one (Mirrors (left_after (map_in k) o.log)) high
            (high_mirrors rises p low high divided pos' below (left_after (map_in k) o.log) held));
        one = λ c. omega (arith, total-cut (owners c) seats id d a b me, count c, ap (owners_in c) has, o.one c);
        placed = subst (λ (x : ℕ). Each (set seats id a ++ b ∷ []) (λ u. Each u.parts (IsPlacedIn N x))) moves
            (every (λ u. Each u.parts (IsPlacedIn N (S + 1))) others (each_one (IsPlacedIn N (S + 1)) low low_at)
            (each_one (IsPlacedIn N (S + 1)) high high_at));
        movers = every (λ u. moves_in u ≤ rights_of u.view) (λ j u ne at. o.movers j u at) (omega arith) (omega arith);
      }

module _ (traced : Bool) (k : Lists) where
  -- a split's move
  pub moves : RootLaw → SplitLevels → HashRises → 1 ≤ k.config.initial → (id : ℕ) (d : SeatView) (p low high : Seen) →
      d.parts ≡ p ∷ [] → d.view.has_right ≡ true → d.moved ≡ false
      → IsNextSplit k.config.initial d.view.known p → HasDivided p low high →
      Splits (IsFileTable traced k) id d (mover low d) (upper_half high)
  moves roots levels rises pos id d p low high has right unmoved next divided s o me =
      let known : d.view.known ≡ buckets_of (words_of s.words).root =
      o.rule.exact id d.view (at_map shown s.views id d me) right in
      record {
        wide = o.wide;
        rule =
            with_spent k.config.initial k.config.max (words_of s.words) s.views id d (mover low d) (high ∷ []) me refl
            o.rule;
        history =
            λ on.
            moves_on k (words_of s.words) s.views id d me roots levels rises (o.history on) pos o.rule.least known
            (rights-one d.view right) (nobody s o me on right unmoved) unmoved p low high has next divided;
      }
    where
      nobody : (s : Words) (o : IsFileTable traced k s) → get_elem? s.views id ≡ some d → traced ≡ true →
          d.view.has_right ≡ true → d.moved ≡ false → total moves_in s.views ≡ 0
      nobody s o me on right unmoved =
          let g = gap moves_in (λ (u : SeatView). rights_of u.view) s.views id d me (o.history on).movers in
          let r = o.rule.right in
          let t = total-map rights_of shown s.views in
          let m = ap bit unmoved in
          let one = rights-one d.view right in
          omega arith
