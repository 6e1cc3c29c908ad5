-- What the history says of a closed file: it is settled
use Rattle.std.proofs.Common.{◌≡◌, ℕ, zero, suc, ◌+◌, ◌%◌, ◌^◌, ◌<◌, ◌≤◌, ◌⊎◌, inl, inr, ⊎_elim, Bool, true, false}
use Rattle.std.proofs.Common.{cond, eqb, List, [], ◌∷◌, ◌++◌, map, length, get_or, slice_index_or, refl, sym, ap, ◌∙◌}
use Rattle.std.proofs.Common.{subst, arith, length-append}
use Rattle.std.specs.FinMap.{retain_keys}
use Rattle.std.specs.List.{range_with_len, All, IsDistinct}
use Rattle.std.specs.Option.{unwrap_or}
use Rattle.std.specs.Str.{bytes_eq}
use Rattle.std.proofs.Math.ListN.{get_or-map}
use Rattle.std.proofs.lemmas.List.{length-map, get_or_default}
use Rattle.std.proofs.lemmas.List.FromFn.{length-range_with_len, get_or-range_with_len}
use Rattle.std.proofs.lemmas.List.Sorted.{All-permutation}
use mathlib.Core.Logic.{dite}
use mathlib.Core.Option.{some, some-injective, some-ne-none}
use native.Mathlib.Decide.{ℕ_discrete, dec_le}
use lib.ListN.{get_elem?}
use Rattle.atomic_table.proofs.Lists.{at_map, at_index}
use Rattle.lh_addr.specs.Fnv.{code_of}
use Rattle.lh_addr.specs.Growth.{hash_at, address, AddressLaw}
use Rattle.lh_addr.specs.RootWord.{buckets_of}
use Rattle.lh_addr.specs.Settings.{Settings}
use Rattle.lh_page.specs.declared.pair.Pair.{Pair}
use Rattle.lh_page.specs.Records.{keys_of}
use Rattle.lh_bucket.specs.Bucket.{Seen}
use Rattle.lh_bucket.specs.Listing.{list_at}
use Rattle.lh_bucket.specs.PlainMap.{Records, after, replies, outcome}
use Rattle.lh_bucket.specs.Records.{map_of}
use Rattle.lh_bucket.specs.PlainMapLaws.{kept_alike}
use Rattle.lh_settling.specs.Acts.{stamps_of, calls_of, replies_of, IsInOrder}
use Rattle.lh_settling.specs.Laws.{OrderLaw, FilledLaw}
use Rattle.lh_settling.specs.Settled.{map_in, HoldsMap, IsSettled}
use Rattle.lh_settling.specs.declared.act.ActLine.{ActLine}
use Rattle.lh_words.specs.Table.{IsEnd}
use Rattle.lh_file.specs.Closing.{AreGathered, AreAmong, NoneOutside, HasHistory}
use Rattle.lh_file.specs.FileState.{FileState}
use Rattle.lh_words.specs.History.Buckets.{belongs, Mirrors, IsPlacedIn}
use Rattle.lh_words.specs.History.History.{moves_in}
use Rattle.lh_words.specs.History.Log.{passed, left_after, IsLegalLog, lines_of, stamps_in, StandsIn}
use Rattle.lh_file.specs.Snapshots.Moments.{IsSnapshot}
use Rattle.lh_file.specs.Words.Hand.{hand_state_of, IsHand}
use Rattle.lh_file.specs.Words.HandState.{HandState}
use Rattle.lh_words.specs.Rule.{Each, rights_of}
use Rattle.lh_words.specs.Sums.{total, times, once_below}
use Rattle.lh_words.specs.Table.{shown}
use Rattle.lh_file.specs.declared.words.hand.Hand.TheInside as hand
use Rattle.lh_words.specs.declared.numbers.FileWords.{FileWords}
use Rattle.lh_words.specs.declared.seat_view.Entry.{Entry}
use Rattle.lh_words.specs.declared.seat_view.SeatView.{SeatView}
use Rattle.lh_words.specs.declared.view.View.{View}
use Rattle.lh_words.specs.History.LogLaws.{stamps_of-lines}
use Rattle.lh_words.specs.EachLaws.{back_at}
use Rattle.lh_words.specs.SumLaws.{total-map}
use Rattle.lh_words.specs.History.BucketLaws.{addressed}
use Rattle.lh_file.proofs.OfHistory.NoneMissing.{no_act, all_drawn}
use Rattle.lh_file.proofs.OfWords.LastWords.{rule_of, none-lost}
use Rattle.lh_words.specs.SumLaws.{total-le, term_le}

module _ {A : Type 0} where
  -- lists read at a place
  pub index_left : (xs : List A) (y d : A) (i : ℕ) → i < length xs →
      slice_index_or (xs ++ y ∷ []) i d ≡ slice_index_or xs i d
  index_left [] y d i below = absurd (omega arith)
  index_left (x ∷ xs) y d zero below = refl
  index_left (x ∷ xs) y d (suc i) below = index_left xs y d i (omega arith)

  -- what is added to a list is read at the place that was the list's length
  pub index_last : (xs : List A) (y d : A) (i : ℕ) → i ≡ length xs → slice_index_or (xs ++ y ∷ []) i d ≡ y
  index_last [] y d zero is = refl
  index_last [] y d (suc i) is = absurd (omega arith)
  index_last (x ∷ xs) y d zero is = absurd (omega arith)
  index_last (x ∷ xs) y d (suc i) is = index_last xs y d i (omega arith)

  -- past the end of a list the default is read
  pub index_past : (xs : List A) (d : A) (i : ℕ) → length xs ≤ i → slice_index_or xs i d ≡ d
  index_past [] d i past = refl
  index_past (x ∷ xs) d zero past = absurd (omega arith)
  index_past (x ∷ xs) d (suc i) past = index_past xs d i (omega arith)

  -- what stands in a list stands before its end
  pub below_end : (i : ℕ) (l : List A) (a : A) → get_elem? l i ≡ some a → suc i ≤ length l
  below_end i [] a at = absurd (some-ne-none a (sym at))
  below_end zero (x ∷ l) a at = omega arith
  below_end (suc i) (x ∷ l) a at = let h = below_end i l a at in omega arith

-- a list at any place of lists that are one longer
any_place : (P : List Pair → Type 0) (lists : List (List Pair)) (pairs : List Pair) → ((i : ℕ) → P (list_at lists i)) →
    P pairs → (i : ℕ) → P (list_at (lists ++ pairs ∷ []) i)
any_place P lists pairs all here i = dite (dec_le (suc i) (length lists))
    (λ low. subst P (sym (index_left lists pairs [] i low)) (all i))
    (λ high. dite (ℕ_discrete i (length lists))
    (λ is. subst P (sym (index_last lists pairs [] i is)) here)
    (λ other.
    subst P
    (index_past lists [] i (omega arith)
    ∙ sym (index_past (lists ++ pairs ∷ []) [] i (omega (arith, length-append lists (pairs ∷ []))))) (all i)))

at_end : (l : List Seen) (y b : Seen) (i : ℕ) → get_elem? (l ++ y ∷ []) i ≡ some b →
    (get_elem? l i ≡ some b) ⊎ ((i ≡ length l) × (y ≡ b))
at_end [] y b zero at = inr (refl, some-injective y b at)
at_end [] y b (suc i) at = absurd (some-ne-none b (sym at))
at_end (x ∷ l) y b zero at = inl at
at_end (x ∷ l) y b (suc i) at =
    ⊎_elim (λ t. inl t) (λ (t : (i ≡ length l) × (y ≡ b)). inr (ap suc t.0, t.1)) (at_end l y b i at)

module _ (parts : List Seen) (lists : List (List Pair)) (whole : ℕ) (clean : Bool)
    (o : AreGathered parts lists whole clean) (p : Seen) (distinct : IsDistinct bytes_eq (keys_of p.pairs)) where
  -- the next bucket came with its seat
  pub gathers : whole ≡ length lists → p.head.number ≡ whole →
      AreGathered (parts ++ p ∷ []) (lists ++ p.pairs ∷ []) (whole + 1) clean
  gathers all number = record {
    within = omega (arith, length-append lists (p.pairs ∷ []));
    count = omega (arith, o.count, length-append parts (p ∷ []));
    each = λ i b at. ⊎_elim
        (λ (t : get_elem? parts i ≡ some b).
        let e = o.each i b t in
        let below = below_end i parts b t in
        let c = o.count in
        (e.0, index_left lists p.pairs [] i (omega arith) ∙ e.1))
        (λ (t : (i ≡ length parts) × (p ≡ b)). let c = o.count in (
          subst (λ (x : Seen). x.head.number ≡ i) t.1 (let e : p.head.number ≡ i = (let z = t.0 in omega arith) in e),
          index_last lists p.pairs [] i (let z = t.0 in omega arith) ∙ ap (λ (x : Seen). x.pairs) t.1,
        ))
        (at_end parts p b i at);
    distinct = any_place (λ ps. IsDistinct bytes_eq (keys_of ps)) lists p.pairs o.distinct distinct;
    beyond = λ on i past. index_past (lists ++ p.pairs ∷ []) [] i (omega (arith, length-append lists (p.pairs ∷ [])));
  }

  -- the next bucket came without its seat
  pub passes : (still : Bool) → (still ≡ true → (clean ≡ true) × (p.pairs ≡ [])) →
      AreGathered parts (lists ++ p.pairs ∷ []) whole still
  passes still when = record {
    within = let w = o.within in omega (arith, length-append lists (p.pairs ∷ []));
    count = o.count;
    each =
        λ i b at.
        let e = o.each i b at in
        let below = below_end i parts b at in
        let c = o.count in
        let w = o.within in
        (e.0, index_left lists p.pairs [] i (omega arith) ∙ e.1);
    distinct = any_place (λ ps. IsDistinct bytes_eq (keys_of ps)) lists p.pairs o.distinct distinct;
    beyond = λ on i past. dite (dec_le (suc i) (length lists))
        (λ low. index_left lists p.pairs [] i low ∙ o.beyond (when on).0 i past)
        (λ high. dite (ℕ_discrete i (length lists))
        (λ is. index_last lists p.pairs [] i is ∙ (when on).1)
        (λ other. index_past (lists ++ p.pairs ∷ []) [] i (omega (arith, length-append lists (p.pairs ∷ [])))));
  }

-- no act is outside: the log is a history of plain calls, and leaves their outcome
pub plain : (m : Records) (log : List Entry) → NoneOutside log → IsLegalLog m log
    → (replies_of (lines_of log) ≡ replies m (calls_of (lines_of log)))
    × (left_after m log ≡ outcome m (calls_of (lines_of log)))
plain m [] none legal = (refl, refl)
plain m (e ∷ log) none legal =
    let here : e.outside ≡ false = none 0 e refl in
    let rest = plain (passed m e) log (λ j x at. none (suc j) x at) legal.1 in
    let same : passed m e ≡ after m e.line.call = ap (λ b. cond b m (after m e.line.call)) here in (
      (λ i. (legal.0 here).0 i ∷ (rest.0 ∙ ap (λ n. replies n (calls_of (lines_of log))) same) i),
      rest.1 ∙ ap (λ n. outcome n (calls_of (lines_of log))) same,
    )

module _ {A : Type 0} where
  -- lists of one length with the same rows are the same
  pub same_rows : (xs ys : List A) → length xs ≡ length ys →
      ((i : ℕ) (a : A) → get_elem? xs i ≡ some a → get_elem? ys i ≡ some a) → xs ≡ ys
  same_rows [] [] len h = refl
  same_rows [] (y ∷ ys) len h = absurd (omega arith)
  same_rows (x ∷ xs) [] len h = absurd (omega arith)
  same_rows (x ∷ xs) (y ∷ ys) len h =
      let e : y ≡ x = some-injective y x (h 0 x refl) in
      let r = same_rows xs ys (omega arith) (λ i a at. h (suc i) a at) in
      λ i. sym e i ∷ r i

  -- a row read by its place, and with a default
  pub read_at : (l : List A) (i : ℕ) (a d : A) → get_elem? l i ≡ some a → get_or l i d ≡ a
  read_at [] i a d e = absurd (some-ne-none a (sym e))
  read_at (x ∷ l) zero a d e = some-injective x a e
  read_at (x ∷ l) (suc i) a d e = read_at l i a d e

  -- at each place before its end a list has what is read there with a default
  pub there_at : (l : List A) (i : ℕ) (d : A) → i < length l → get_elem? l i ≡ some (get_or l i d)
  there_at l i d below = at_index l i (get_or l i d) below (get_or_default l i d (get_or l i d) below)

  -- something stands at each place before the end of a list
  pub some_at : (l : List A) (i : ℕ) → i < length l → (a : A) × (get_elem? l i ≡ some a)
  some_at [] i below = absurd (omega arith)
  some_at (x ∷ l) zero below = (x, refl)
  some_at (x ∷ l) (suc i) below = some_at l i (omega arith)

-- the stamp of a row of a history
pub stamp_read : (history : List ActLine) (i d : ℕ) (z : ActLine) → i < length history →
    get_or (stamps_of history) i d ≡ (get_or history i z).stamp
stamp_read history i d z below =
    get_or_default (stamps_of history) i d z.stamp (omega (arith, length-map history (λ (a : ActLine). a.stamp)))
    ∙ get_or-map (λ (a : ActLine). a.stamp) history i z

-- a line that stands in a log at its stamp, of an act that isn't outside
abbrev InLog : List Entry → List Entry → ActLine → Type 0
InLog entries log a =
    (e : Entry) × (e.line ≡ a) × (get_elem? log a.stamp ≡ some e) × (e.outside ≡ false)
    × ((place : ℕ) × (get_elem? entries place ≡ some e))

module _ (order_of : OrderLaw) (log entries : List Entry) (q : ℕ) (len : length log ≡ q)
    (stand : Each entries (StandsIn log)) (none : NoneOutside entries)
    (once : (x : ℕ) → times x (stamps_in entries) ≡ once_below x q) where
  all_in : All (InLog entries log) (lines_of entries)
  all_in k d below =
      let at : get_elem? (lines_of entries) k ≡ some (get_or (lines_of entries) k d) =
      there_at (lines_of entries) k d below in
      let b = back_at (λ (e : Entry). e.line) entries k (get_or (lines_of entries) k d) at in (
        b.0,
        b.2,
        subst (λ (a : ActLine). get_elem? log a.stamp ≡ some b.0) b.2 (stand k b.0 b.1),
        none k b.0 b.1,
        (
          k,
          b.1,
        ),
      )

  -- the log is the acts in the order of their stamps, of which none is missing
  ordered : IsInOrder (lines_of entries) (lines_of log) × (stamps_of (lines_of log) ≡ range_with_len 0 q)
      × NoneOutside log × AreAmong entries log
  ordered =
      let z = no_act in
      let o = order_of (lines_of entries) in
      let history : List ActLine = o.0 in
      let is : stamps_of history ≡ range_with_len 0 q =
      all_drawn (lines_of entries) history q o.1 (λ x. ap (times x) (stamps_of-lines entries) ∙ once x) in
      let size : length history ≡ q =
      sym (length-map history (λ (a : ActLine). a.stamp)) ∙ ap length is ∙ length-range_with_len 0 q in
      let inside : All (InLog entries log) history =
      All-permutation (InLog entries log) (lines_of entries) history o.1.same all_in in
      let number : (t : ℕ) → t < q → (get_or history t z).stamp ≡ t =
      λ t below.
      (let a = stamp_read history t 0 z (omega arith) in
      let b = ap (λ (l : List ℕ). get_or l t 0) is in
      let c = get_or-range_with_len 0 q t 0 below in
      omega arith) in
      let there : (t : ℕ) → t < q →
      (e : Entry) × (e.line ≡ get_or history t z) × (get_elem? log t ≡ some e) × (e.outside ≡ false)
      × ((place : ℕ) × (get_elem? entries place ≡ some e)) =
      λ t below. (
      let i = inside t z (omega arith) in
      (i.0, i.1, subst (λ (x : ℕ). get_elem? log x ≡ some i.0) (number t below) i.2, i.3, i.4)) in
      let alike : history ≡ lines_of log =
      same_rows history (lines_of log) (size ∙ sym (length-map log (λ (e : Entry). e.line) ∙ len)) (λ t a at.
      let below : t < q = (let b = below_end t history a at in omega arith) in
      let x = there t below in
      at_map (λ (e : Entry). e.line) log t x.0 x.2 ∙ ap some (x.1 ∙ read_at history t a z at)) in (
        subst (IsInOrder (lines_of entries)) alike o.1,
        sym (ap stamps_of alike) ∙ is,
        (λ t e at.
            let below : t < q = (let b = below_end t log e at in omega arith) in
            let x = there t below in
            subst (λ (y : Entry). y.outside ≡ false) (some-injective x.0 e (sym x.2 ∙ at)) x.3),
        (λ t e at.
            let below : t < q = (let b = below_end t log e at in omega arith) in
            let x = there t below in
            subst (λ (y : Entry). (place : ℕ) × (get_elem? entries place ≡ some y)) (some-injective x.0 e (sym x.2 ∙
            at))
            x.4),
      )

-- a bucket in its place holds what the log leaves of its address
pub home : AddressLaw → (N S : ℕ) (m : Records) (p : Seen) (i : ℕ) → 1 ≤ N → N ≤ S → IsPlacedIn N S p →
    p.head.number ≡ i → Mirrors m p → map_of p.pairs ≡ retain_keys m (λ key. eqb (address N S (code_of key)) i)
home law N S m p i pos least at number held =
    held ∙ kept_alike m (belongs p) (λ key. eqb (address N S (code_of key)) i) (λ key.
    (λ j. eqb (hash_at (at.initial_is j) ((ap (λ x. unwrap_or x 0) at.level_is) j) (code_of key)) p.head.number)
    ∙ addressed law N S (code_of key) p.head.number pos least at.below
    ∙ ap (eqb (address N S (code_of key))) number)

-- while the root word is even no split has moved
nobody : (file : FileState) (last : FileWords) (d : SeatView) (e : IsEnd true file.listing last d) → last.root % 2 ≡ 0 →
    total moves_in e.seats ≡ 0
nobody file last d e whole =
    let h = e.history refl in let g = total-le moves_in (λ (u : SeatView). rights_of u.view) e.seats h.movers in
    let t = total-map rights_of shown e.seats in let r = e.rule.right in omega arith

-- a traced file that was closed with all buckets gathered holds what its log leaves, whoever made the acts
leaves : AddressLaw → FilledLaw →
    (file : FileState) (last : FileWords) (d : SeatView) (lists : List (List Pair)) (whole : ℕ)
    (clean gathered : Bool) → 1 ≤ file.config.initial → file.listing.config ≡ file.config
    → (e : IsEnd true file.listing last d) → last.root % 2 ≡ 0
    → AreGathered d.parts lists whole clean → clean ≡ true → whole ≡ buckets_of last.root
    → IsSnapshot file.listing
    (record { config = file.config; root = last.root; stamps = last.stamps; lists = lists; gathered = gathered })
    d.entries d.logs (e.history refl).log
leaves law placed file last d lists whole clean gathered pos config e even g tidy all =
    let h = e.history refl in
    let N : ℕ = file.config.initial in
    let S : ℕ = buckets_of last.root in
    let m : Records = map_in file.listing in
    let same : file.listing.config.initial ≡ N = ap (λ (s : Settings). s.initial) config in
    let least : N ≤ S = subst (λ n. n ≤ S) same e.rule.least in
    let at : (p : Seen) (i : ℕ) → get_elem? d.parts i ≡ some p → IsPlacedIn N S p = λ p i here.
    subst (λ x. IsPlacedIn x S p) same
    (subst (λ x. IsPlacedIn file.listing.config.initial x p) (let z = nobody file last d e even in omega arith)
    (h.placed e.id d e.here i p here)) in
    let each : (b : ℕ) → b < S →
    map_of (list_at lists b) ≡ retain_keys (left_after m h.log) (λ key. eqb (address N S (code_of key)) b) =
    λ b below.
    (let t = some_at d.parts b (let c = g.count in omega arith) in let r = g.each b t.0 t.1 in
    ap map_of r.1
    ∙ home law N S (left_after m h.log) t.0 b pos least (at t.0 b t.1) r.0 (h.mirror e.id d e.here b t.0 t.1)) in (
      (h.size_is, h.legal, h.stand e.id d e.here, h.logs e.id d e.here),
      placed N S (left_after m h.log) lists (λ code. ((law N S code (address N S code) pos least).0 refl).0) each
          (λ b past. g.beyond tidy b (let c = all in omega arith)) g.distinct,
    )

-- where all its calls are at home and no act was outside, it is settled
settles : OrderLaw → (file : FileState) (last : FileWords) (d : SeatView) (lists : List (List Pair)) (gathered : Bool) →
    file.listing.config ≡ file.config → (e : IsEnd true file.listing last d) → last.root % 2 ≡ 0
    → NoneOutside d.entries → d.view.left + length d.view.stamps ≡ 2 ^ 63
    → IsSnapshot file.listing
    (record { config = file.config; root = last.root; stamps = last.stamps; lists = lists; gathered = gathered })
    d.entries d.logs (e.history refl).log
    → IsSettled file.listing
    (record { config = file.config; root = last.root; stamps = last.stamps; lists = lists; gathered = gathered })
    (lines_of d.entries) (lines_of (e.history refl).log)
    × NoneOutside (e.history refl).log × AreAmong d.entries (e.history refl).log
settles order_of file last d lists gathered config e even none full held =
    let h = e.history refl in let m : Records = map_in file.listing in
    let once : (x : ℕ) → times x (stamps_in d.entries) ≡ once_below x last.stamps = λ x.
    ap (times x) (sym (h.stamped e.id d e.here))
    ∙ none-lost file.config last d.view (rule_of true file last d d.view config e refl) full x in
    let ord = ordered order_of h.log d.entries last.stamps h.size_is (h.stand e.id d e.here) none once in
    let simple = plain m h.log ord.2 h.legal in (
      record {
        stamped = record { whole = even; order = ord.0; stamps = ord.1 };
        legal = simple.0;
        placed =
            subst
            (HoldsMap
            (record {
              config = file.config;
              root = last.root;
              stamps = last.stamps;
              lists = lists;
              gathered = gathered;
            })) simple.1 held.1;
      },
      ord.2,
      ord.3,
    )

-- the acts that a hand keeps are its entries, also where the file doesn't record and no stamp was drawn
kept_lines : (traced : Bool) (file : FileState) (last : FileWords) (h : hand.Inside) → IsHand h → (b : Bool) →
    h.recording ≡ b → h.seat.me.0.view.left + length h.acts.items ≡ 2 ^ 63 → (d : SeatView) →
    IsEnd traced file.listing last d → d.view ≡ h.seat.me.0.view
    → h.acts.items ≡ lines_of h.seat.me.0.entries
kept_lines traced file last h is true on full d e same = is.recorded on
kept_lines traced file last h is false off full d e same =
    let none : h.acts.items ≡ [] = is.silent off in
    let there : length d.view.stamps ≡ 0 = (
    let b = e.rule.budget in let w = e.rule.drawn in let n = ap length none in let v = ap (λ (u : View). u.left) same in
    let l = term_le (λ (u : View). u.left) (map shown e.seats) e.id d.view (at_map shown e.seats e.id d e.here) in
    let s =
    term_le (λ (u : View). length u.stamps) (map shown e.seats) e.id d.view (at_map shown e.seats e.id d e.here) in
    omega arith) in
    let empty : length h.seat.me.0.entries ≡ 0 =
    (let a = ap (λ (u : View). length u.stamps) same in
    let b = ap length is.entered in
    let c = length-map h.seat.me.0.entries (λ (x : Entry). x.line.stamp) in
    omega arith) in
    none ∙ sym (ap lines_of (nil_of h.seat.me.0.entries empty))
  where
    nil_of : (es : List Entry) → length es ≡ 0 → es ≡ []
    nil_of [] n = refl
    nil_of (x ∷ es) n = absurd (omega arith)

-- what was gathered, by other names for the same
pub gathered_as : (p q : List Seen) (l m : List (List Pair)) (w v : ℕ) (a b : Bool) → p ≡ q → l ≡ m → w ≡ v → a ≡ b →
    AreGathered p l w a → AreGathered q m v b
gathered_as p q l m w v a b ps ls ws cs o =
    subst (λ x. AreGathered x m v b) ps
    (subst (λ x. AreGathered p x v b) ls (subst (λ x. AreGathered p l x b) ws (subst (λ x. AreGathered p l w x) cs o)))

-- nothing is gathered yet
no_list : (i : ℕ) → list_at [] i ≡ []
no_list i = index_past [] [] i (omega arith)

-- no key stands twice where there is none
pub no_key : IsDistinct bytes_eq (keys_of [])
unfolding IsDistinct
no_key = tt

-- nothing is gathered yet
pub none_gathered : AreGathered [] [] 0 true
none_gathered = record {
  within = omega arith;
  count = refl;
  each = λ i b at. absurd (some-ne-none b (sym at));
  distinct = λ i. subst (λ ps. IsDistinct bytes_eq (keys_of ps)) (sym (no_list i)) no_key;
  beyond = λ on i past. no_list i;
}

-- what was done with a traced file is its history, by the fields of the hand that closes it
pub closes : AddressLaw → OrderLaw → FilledLaw →
    (traced : Bool) (file : FileState) (last : FileWords) (h : hand.Inside) (H : HandState) (d : SeatView)
    (lists : List (List Pair)) (whole : ℕ) (clean gathered : Bool) → hand_state_of h ≡ H → IsHand h →
    d ≡ record (h.seat.me.0) { parts = d.parts }
    → 1 ≤ file.config.initial → file.listing.config ≡ file.config → IsEnd traced file.listing last d →
    AreGathered d.parts lists whole clean → clean ≡ true → whole ≡ buckets_of last.root
    → traced ≡ true → last.root % 2 ≡ 0
    → HasHistory file.listing
    (record { config = file.config; root = last.root; stamps = last.stamps; lists = lists; gathered = gathered })
    h.acts.items H
closes law order_of placed traced file last h H d lists whole clean gathered seen is kept pos config e g tidy all on
    even =
    let own = h.seat.me.0 in
    let ends : IsEnd true file.listing last d = subst (λ (b : Bool). IsEnd b file.listing last d) on e in
    let log : List Entry = (ends.history refl).log in
    let view : d.view ≡ own.view = ap (λ (x : SeatView). x.view) kept in
    let entries : d.entries ≡ own.entries = ap (λ (x : SeatView). x.entries) kept in
    let told : d.logs ≡ H.logs = ap (λ (x : SeatView). x.logs) kept ∙ ap (λ (x : HandState). x.logs) seen in
    let held : IsSnapshot file.listing
    (record {
      config = file.config;
      root = last.root;
      stamps = last.stamps;
      lists = lists;
      gathered = gathered;
    }) d.entries d.logs log =
    leaves law placed file last d lists whole clean gathered pos config ends even g tidy all in (
      log,
      subst
          (λ es.
          IsSnapshot file.listing
          (record {
            config = file.config;
            root = last.root;
            stamps = last.stamps;
            lists = lists;
            gathered = gathered;
          }) es H.logs log) (entries ∙ ap (λ (x : HandState). x.entries) seen)
          (subst
          (λ ls.
          IsSnapshot file.listing
          (record {
            config = file.config;
            root = last.root;
            stamps = last.stamps;
            lists = lists;
            gathered = gathered;
          }) d.entries ls log) told held),
      λ full none.
          let left : own.view.left + length h.acts.items ≡ 2 ^ 63 =
          subst (λ (x : HandState). x.view.left + length x.acts ≡ 2 ^ 63) (sym seen) full in
          let lines : h.acts.items ≡ lines_of own.entries =
          kept_lines traced file last h is h.recording refl left d e view in
          let apart : NoneOutside d.entries =
          subst NoneOutside (ap (λ (x : HandState). x.entries) (sym seen) ∙ sym entries) none in
          let home : d.view.left + length d.view.stamps ≡ 2 ^ 63 = (
          let a = ap length lines in
          let b = length-map own.entries (λ (x : Entry). x.line) in
          let c = length-map own.entries (λ (x : Entry). x.line.stamp) in
          let s = ap length is.entered in
          let v = ap (λ (u : View). u.left) view in let w = ap (λ (u : View). length u.stamps) view in omega arith) in
          let done = settles order_of file last d lists gathered config ends even apart home held in (
            subst
                (λ ls.
                IsSettled file.listing
                (record {
                  config = file.config;
                  root = last.root;
                  stamps = last.stamps;
                  lists = lists;
                  gathered = gathered;
                }) ls (lines_of log)) (ap lines_of entries ∙ sym lines) done.0,
            done.1,
            subst (λ es. AreAmong es log) (entries ∙ ap (λ (x : HandState). x.entries) seen) done.2,
          ),
    )
