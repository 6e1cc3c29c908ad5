-- A file that was just opened from a listing has a history, and its first seat deals the buckets out
use Rattle.std.proofs.Common.{◌≡◌, ℕ, zero, suc, ◌+◌, ◌*◌, ◌<◌, ◌≤◌, Bool, true, eqb}
use Rattle.std.proofs.Common.{List, [], ◌∷◌, set, replicate, refl, sym, ap, ◌∙◌, subst, arith}
use Rattle.std.specs.List.{range_with_len}
use mathlib.Core.Option.{some, some-injective, some-ne-none}
use lib.ListN.{get_elem?}
use Rattle.atomic_table.specs.Table.{Splits, opening}
use Rattle.lh_addr.specs.Fnv.{code_of}
use Rattle.lh_addr.specs.Growth.{address, AddressLaw}
use Rattle.lh_addr.specs.RootWord.{buckets_of}
use Rattle.lh_bucket.specs.Bucket.{Seen}
use Rattle.lh_bucket.specs.Laws.{PlacedLaw}
use Rattle.lh_bucket.specs.Listing.{Lists, IsListing, size}
use Rattle.lh_bucket.specs.PlainMapLaws.{kept_alike}
use Rattle.lh_settling.specs.Settled.{map_in}
use Rattle.lh_words.specs.History.BucketLaws.{addressed}
use Rattle.lh_words.specs.History.Buckets.{bit, owns, belongs, owners_in, Mirrors, IsPlacedIn}
use Rattle.lh_words.specs.History.History.{owners, moves_in, History}
use Rattle.lh_words.specs.History.Log.{stamps_in, StandsIn, Begins}
use Rattle.lh_words.specs.Dealing.{first_bucket_of, other_buckets_of, dealt_seat, dealt_bucket_seat}
use Rattle.lh_words.specs.Rule.{Each, rights_of, words_of}
use Rattle.lh_words.specs.Seats.{opened_at, buckets_in, first_seat}
use Rattle.lh_words.specs.Sums.{total, times, once_below}
use Rattle.lh_words.specs.Table.{IsFileTable}
use Rattle.lh_words.specs.declared.offsets.TheConstants.{ROOT, WIDTH}
use Rattle.lh_words.specs.declared.seat_view.SeatView.{SeatView}
use Rattle.lh_words.specs.EachLaws.{each_none, each_one, back_at}
use Rattle.lh_words.proofs.OfHistory.BucketSeats.{cut_off, with_spent}
use Rattle.lh_words.proofs.OfWords.Dividing as words
use Rattle.lh_words.specs.SumLaws.{total-cons, total-map, times-cons, once-yes, once-no, once-more}

in_range : (a n i j : ℕ) → get_elem? (range_with_len a n) i ≡ some j → j < a + n
in_range a zero i j e = absurd (some-ne-none j (sym e))
in_range a (suc n) zero j e = let h = some-injective a j e in omega arith
in_range a (suc n) (suc i) j e = let h = in_range (a + 1) n i j e in omega arith

alike : (f g : ℕ → ℕ) (a n : ℕ) → ((i : ℕ) → i < a + n → f i ≡ g i) →
    total f (range_with_len a n) ≡ total g (range_with_len a n)
alike f g a zero h = refl
alike f g a (suc n) h =
    omega (
      arith,
      total-cons f a (range_with_len (a + 1) n),
      total-cons g a (range_with_len (a + 1) n),
      h a (omega arith),
      alike f g (a + 1) n (λ i b. h i (omega arith)),
    )

-- each number of a range stands there once
pub range-once : (a n x : ℕ) → times x (range_with_len a n) + once_below x a ≡ once_below x (a + n)
range-once a zero x = let e : a ≡ a + 0 = omega arith in omega (arith, ap (once_below x) e)
range-once a (suc n) x = let r = range-once (a + 1) n x in let e : a + 1 + n ≡ a + suc n = omega arith in
    omega (arith, times-cons x a (range_with_len (a + 1) n), times-cons x a [], once-more x a, ap (once_below x) e)

module _ (law : AddressLaw) (placed : PlacedLaw) (k : Lists) (kept : IsListing k) where
  each_bucket : (P : Seen → Type 0) → ((i : ℕ) → i < size k → P (opened_at k i)) → Each (buckets_in k) P
  each_bucket P all j p at =
      let b = back_at (opened_at k) (range_with_len 0 (size k)) j p at in
      subst P b.2 (all b.0 (let h = in_range 0 (size k) j b.0 b.1 in omega arith))

  one_owner : (c : ℕ) → total (owners c) (first_seat true k ∷ []) ≡ 1
  one_owner c =
      let x : ℕ = address k.config.initial (size k) c in
      let some_first = kept.config.initial.0 in let least = kept.shape.from_initial in
      let within : x < size k = ((law k.config.initial (size k) c x some_first least).0 refl).0 in
      let a = total-map (λ (p : Seen). bit (owns c p)) (opened_at k) (range_with_len 0 (size k)) in
      let b =
      alike (λ i. bit (owns c (opened_at k i))) (λ i. bit (eqb x i)) 0 (size k)
      (λ i below. ap bit (addressed law k.config.initial (size k) c i some_first least (omega arith))) in
      let r : times x (range_with_len 0 (size k)) + once_below x 0 ≡ once_below x (0 + size k) =
      range-once 0 (size k) x in
      let same : total (λ i. bit (eqb x i)) (range_with_len 0 (size k)) ≡ times x (range_with_len 0 (size k)) = refl in
      omega (arith, a, b, r, same, once-yes x (0 + size k) (omega arith), once-no x 0 (omega arith))

  history : (word : ℕ) → word ≡ 2 * size k →
      History k (record { root = word; stamps = 0; inserts = 0; deletes = 0 }) (first_seat true k ∷ [])
  history word is =
      let some_first = kept.config.initial.0 in let least = kept.shape.from_initial in record {
        log = [];
        size_is = refl;
        legal = tt;
        stamped = each_one (λ (d : SeatView). d.view.stamps ≡ stamps_in d.entries) (first_seat true k) refl;
        stand = each_one (λ (d : SeatView). Each d.entries (StandsIn [])) (first_seat true k) (each_none (StandsIn []));
        logs = each_one (λ (d : SeatView). Each d.logs (Begins [])) (first_seat true k) (each_none (Begins []));
        mirror = each_one (λ (d : SeatView). Each d.parts (Mirrors (map_in k))) (first_seat true k)
            (each_bucket (Mirrors (map_in k))
            (λ i below.
            placed k i kept below
            ∙ kept_alike (map_in k) (λ key. eqb (address k.config.initial (size k) (code_of key)) i)
            (belongs (opened_at k i))
            (λ key. sym (addressed law k.config.initial (size k) (code_of key) i some_first least below))));
        one = one_owner;
        placed =
            each_one
            (λ (d : SeatView).
            Each d.parts (IsPlacedIn k.config.initial (buckets_of word + total moves_in (first_seat true k ∷ []))))
            (first_seat true k)
            (subst (λ (x : ℕ). Each (buckets_in k) (IsPlacedIn k.config.initial x)) (omega arith)
            (each_bucket (IsPlacedIn k.config.initial (size k))
            (λ i below. record { initial_is = refl; below = below; level_is = refl })));
        movers = each_one (λ (d : SeatView). moves_in d ≤ rights_of d.view) (first_seat true k) (omega arith);
      }

  -- the rule of a file that was just opened from a listing
  pub opens : (traced : Bool) (word : ℕ) → word ≡ 2 * size k →
      IsFileTable traced k (opening (set (replicate WIDTH 0) ROOT word) [] (first_seat traced k))
  opens traced word is = let held = words.opens k word is kept.shape.from_initial kept.shape.to_max in record {
    wide = held.wide;
    rule = held.rule;
    history =
        λ on.
        subst (λ (b : Bool). History k (words_of (set (replicate WIDTH 0) ROOT word)) (first_seat b k ∷ [])) (sym on)
        (history word is);
  }

-- the first bucket goes to a seat of its own
each_cut : (l : List Seen) (P : Seen → Type 0) → Each l P → Each (other_buckets_of l) P × Each (first_bucket_of l) P
each_cut [] P all = (each_none P, each_none P)
each_cut (p ∷ ps) P all = ((λ j u at. all (suc j) u at), each_one P p (all 0 p refl))

counts_cut : (c : ℕ) (l : List Seen) →
    owners_in c (other_buckets_of l) + owners_in c (first_bucket_of l) ≡ owners_in c l
counts_cut c [] = refl
counts_cut c (p ∷ ps) =
    omega (arith, total-cons (λ (b : Seen). bit (owns c b)) p ps, total-cons (λ (b : Seen). bit (owns c b)) p [])

-- a seat deals out its first bucket: the table stays one of the file
pub deals : (traced : Bool) (k : Lists) (id : ℕ) (d : SeatView) →
    Splits (IsFileTable traced k) id d (dealt_seat d) (dealt_bucket_seat d)
deals traced k id d s o me = record {
  wide = o.wide;
  rule =
      with_spent k.config.initial k.config.max (words_of s.words) s.views id d (dealt_seat d) (first_bucket_of d.parts)
      me refl o.rule;
  history =
      λ on.
      cut_off k (words_of s.words) s.views id d me (o.history on) (other_buckets_of d.parts) (first_bucket_of d.parts)
      (λ P all. each_cut d.parts P all) (λ c. counts_cut c d.parts);
}
