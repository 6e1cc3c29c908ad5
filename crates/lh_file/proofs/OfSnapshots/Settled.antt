-- The acts that came before a snapshot, and the first part of a history
use Rattle.std.proofs.Common.{◌≡◌, ℕ, zero, suc, ◌+◌, ◌<◌, ◌≤◌, ⊎_elim, cond, List, [], ◌∷◌, ◌++◌, length, take, get_or}
use Rattle.std.proofs.Common.{refl, sym, ap, ◌∙◌, subst, arith, length-append, lt-ltb, le-ltb}
use Rattle.std.specs.Prelude.{nat_eq, nat_lt}
use Rattle.std.specs.List.{range_with_len, All, filter}
use Rattle.std.proofs.Math.Seq.{take-append_seam}
use Rattle.std.proofs.lemmas.Bool.{cases_lt}
use Rattle.std.proofs.lemmas.List.{length-map, length-take-le, map-append}
use Rattle.std.proofs.lemmas.List.Elements.{All-filter}
use Rattle.std.proofs.lemmas.List.FromFn.{length-range_with_len, get_or-range_with_len}
use Rattle.std.proofs.lemmas.List.Sorted.{IsPermutation-sym, All-permutation, length_permutation, sum_by-IsPermutation}
use mathlib.Core.Option.{some, some-ne-none}
use lib.ListN.{get_elem?}
use Rattle.atomic_table.proofs.Lists.{at_index}
use Rattle.lh_settling.specs.Acts.{stamps_of, IsInOrder, acts_before}
use Rattle.lh_settling.specs.Laws.{HistoryLaw, OrderLaw}
use Rattle.lh_settling.specs.Settled.{map_in, HoldsMap, IsSettled}
use Rattle.lh_settling.specs.declared.act.ActLine.{ActLine}
use Rattle.lh_file.specs.Closing.{NoneOutside}
use Rattle.lh_words.specs.History.Log.{lines_of, Begins}
use Rattle.lh_file.specs.Snapshots.Settled.{BeforeLaw, SnapshotLaw}
use Rattle.lh_words.specs.Sums.{times, once_below}
use Rattle.lh_words.specs.declared.seat_view.Entry.{Entry}
use Rattle.lh_file.proofs.OfHistory.Closing.{below_end, plain, same_rows, read_at, there_at, stamp_read}
use Rattle.lh_file.proofs.OfHistory.NoneMissing.{no_act, times-map, all_drawn}
use Rattle.lh_words.specs.SumLaws.{times-cons, once-yes, once-no, once-more, same-no}

-- how often a stamp stands among the acts before
abbrev Before : ℕ → ActLine → List ActLine → ℕ → ℕ
Before n a acts x = times x (stamps_of (filter (λ act. nat_lt act.stamp n) (a ∷ acts)))

keeps : (n x : ℕ) (a : ActLine) (acts : List ActLine) → a.stamp < n →
    Before n a acts x ≡ times x (a.stamp ∷ []) + times x (stamps_of (acts_before n acts))
keeps n x a acts below =
    ap (λ b. times x (stamps_of (cond b (a ∷ acts_before n acts) (acts_before n acts)))) (lt-ltb a.stamp n below)
    ∙ omega (arith, times-cons x a.stamp (stamps_of (acts_before n acts)), times-cons x a.stamp [])

leaves_out : (n x : ℕ) (a : ActLine) (acts : List ActLine) → n ≤ a.stamp →
    Before n a acts x ≡ times x (stamps_of (acts_before n acts))
leaves_out n x a acts past =
    ap (λ b. times x (stamps_of (cond b (a ∷ acts_before n acts) (acts_before n acts)))) (le-ltb a.stamp n past)

low_stamp : (n x : ℕ) (acts : List ActLine) → x < n →
    times x (stamps_of (acts_before n acts)) ≡ times x (stamps_of acts)
low_stamp n x [] low = refl
low_stamp n x (a ∷ acts) low = ⊎_elim
    (λ (below : a.stamp < n).
    omega (
      arith,
      keeps n x a acts below,
      low_stamp n x acts low,
      times-cons x a.stamp (stamps_of acts),
      times-cons x a.stamp [],
    ))
    (λ (past : n ≤ a.stamp).
    omega (
      arith,
      leaves_out n x a acts past,
      low_stamp n x acts low,
      times-cons x a.stamp (stamps_of acts),
      times-cons x a.stamp [],
      same-no x a.stamp (λ e. omega (arith, e)),
    ))
    (cases_lt a.stamp n)

high_stamp : (n x : ℕ) (acts : List ActLine) → n ≤ x → times x (stamps_of (acts_before n acts)) ≡ 0
high_stamp n x [] high = refl
high_stamp n x (a ∷ acts) high = ⊎_elim
    (λ (below : a.stamp < n).
    omega (arith, keeps n x a acts below, high_stamp n x acts high, same-no x a.stamp (λ e. omega (arith, e))))
    (λ (past : n ≤ a.stamp). omega (arith, leaves_out n x a acts past, high_stamp n x acts high))
    (cases_lt a.stamp n)

range_times : (s n x : ℕ) → times x (range_with_len s n) + once_below x s ≡ once_below x (s + n)
range_times s zero x = let same : s + 0 ≡ s = omega arith in omega (arith, ap (once_below x) same)
range_times s (suc n) x =
    let next : (s + 1) + n ≡ s + suc n = omega arith in
    omega (
      arith,
      times-cons x s (range_with_len (s + 1) n),
      times-cons x s [],
      once-more x s,
      range_times (s + 1) n x,
      ap (once_below x) next,
    )

-- the stamp of an act is its place, where the stamps are the numbers from 0 on
numbered : (history : List ActLine) (q : ℕ) → stamps_of history ≡ range_with_len 0 q →
    (length history ≡ q) × ((k : ℕ) (a : ActLine) → get_elem? history k ≡ some a → a.stamp ≡ k)
numbered history q stamps =
    let size : length history ≡ q =
    sym (length-map history (λ (a : ActLine). a.stamp)) ∙ ap length stamps ∙ length-range_with_len 0 q in (
      size,
      λ k a at.
          let below : k < length history = (let b = below_end k history a at in omega arith) in
          let here : (get_or history k no_act).stamp ≡ a.stamp =
          ap (λ (x : ActLine). x.stamp) (read_at history k a no_act at) in
          omega (
            arith,
            here,
            stamp_read history k 0 no_act below,
            ap (λ (l : List ℕ). get_or l k 0) stamps,
            get_or-range_with_len 0 q k 0 (omega arith),
          ),
    )

at_first : (l : List ActLine) (n k : ℕ) → k < n → get_elem? (take n l) k ≡ get_elem? l k
at_first l zero k below = absurd (omega arith)
at_first [] (suc n) k below = refl
at_first (x ∷ l) (suc n) zero below = refl
at_first (x ∷ l) (suc n) (suc k) below = at_first l n k (omega arith)

module _ (acts whole : List ActLine) (q n : ℕ) (order : IsInOrder acts whole)
    (stamps : stamps_of whole ≡ range_with_len 0 q) where
  once : n ≤ q → (x : ℕ) → times x (stamps_of (acts_before n acts)) ≡ once_below x n
  once few x =
      let all : times x (stamps_of acts) ≡ once_below x q =
      times-map (λ (a : ActLine). a.stamp) x acts
      ∙ sym (sum_by-IsPermutation (λ (a : ActLine). cond (nat_eq x a.stamp) 1 0) acts whole order.same)
      ∙ sym (times-map (λ (a : ActLine). a.stamp) x whole)
      ∙ ap (times x) stamps
      ∙ (let start : 0 + q ≡ q =
      omega arith in omega (arith, range_times 0 q x, once-no x 0 (omega arith), ap (once_below x) start)) in
      ⊎_elim
      (λ (low : x < n). omega (arith, low_stamp n x acts low, all, once-yes x q (omega arith), once-yes x n low))
      (λ (high : n ≤ x). omega (arith, high_stamp n x acts high, once-no x n high))
      (cases_lt x n)

  -- whatever order the acts before have, it is that of the history
  first_ones : (before : List ActLine) → n ≤ q → IsInOrder (acts_before n acts) before →
      stamps_of before ≡ range_with_len 0 n → before ≡ take n whole
  first_ones before few inside is =
      let all = numbered whole q stamps in
      let part = numbered before n is in
      let stands = λ (a : ActLine). get_elem? whole a.stamp ≡ some a in
      let there : All stands whole =
      λ k d below.
      (let a = get_or whole k d in
      let at = there_at whole k d below in
      subst (λ x. get_elem? whole x ≡ some a) (sym (all.1 k a at)) at) in
      let kept : All stands before = All-permutation stands (acts_before n acts) before inside.same
      (All-filter (λ (a : ActLine). nat_lt a.stamp n) stands acts
      (All-permutation stands whole acts (IsPermutation-sym acts whole order.same) there)) in
      same_rows before (take n whole) (omega (arith, part.0, length-take-le n whole (omega (arith, all.0)))) (λ k a at.
      let below : k < length before = (let b = below_end k before a at in omega arith) in
      at_first whole n k (omega (arith, part.0))
      ∙ subst (λ (x : ActLine). get_elem? whole k ≡ some x) (read_at before k a no_act at)
      (subst (λ x. get_elem? whole x ≡ some (get_or before k no_act))
      (part.1 k (get_or before k no_act) (there_at before k no_act below)) (kept k no_act below)))

-- the acts before are no more than all
fewer : (n : ℕ) (acts before whole : List ActLine) → IsInOrder (acts_before n acts) before → IsInOrder acts whole →
    length before ≤ length whole
fewer n acts before whole part all =
    omega (
      arith,
      length_permutation (acts_before n acts) before part.same,
      length_permutation acts whole all.same,
      shorter acts,
    )
  where
    shorter : (l : List ActLine) → length (acts_before n l) ≤ length l
    shorter [] = omega arith
    shorter (a ∷ l) = ⊎_elim
        (λ (below : a.stamp < n).
        omega (
          arith,
          ap (λ b. length (cond b (a ∷ acts_before n l) (acts_before n l))) (lt-ltb a.stamp n below),
          shorter l,
        ))
        (λ (past : n ≤ a.stamp).
        omega (
          arith,
          ap (λ b. length (cond b (a ∷ acts_before n l) (acts_before n l))) (le-ltb a.stamp n past),
          shorter l,
        ))
        (cases_lt a.stamp n)

-- the acts before a snapshot
pub before_law : BeforeLaw
before_law snapshot closed acts before history part all =
    let few : snapshot.stamps ≤ closed.stamps =
    omega (
      arith,
      fewer snapshot.stamps acts before history part.order all.order,
      (numbered before snapshot.stamps part.stamps).0,
      (numbered history closed.stamps all.stamps).0,
    ) in
    first_ones acts history closed.stamps snapshot.stamps all.order all.stamps before few part.order part.stamps

-- what begins a log is in it
begun_at : (log rest : List Entry) (k : ℕ) (e : Entry) → get_elem? log k ≡ some e → get_elem? (log ++ rest) k ≡ some e
begun_at [] rest k e at = absurd (some-ne-none e (sym at))
begun_at (x ∷ log) rest zero e at = at
begun_at (x ∷ log) rest (suc k) e at = begun_at log rest k e at

-- they are settled by it
pub snapshot_law : HistoryLaw → OrderLaw → SnapshotLaw
snapshot_law history_law order_of opening snapshot closed entries logs log hand acts history even
    ((size, legal, stand, begin), held) kept (whole, ((long, lawful, all, begun), placed), settles) full none settled =
    let both = settles full none in
    let n : ℕ = snapshot.stamps in
    let same : history ≡ lines_of whole =
    history_law closed acts history (lines_of whole) settled.stamped both.0.stamped in
    let starts : Begins whole log = begun kept.0 log (at_index hand.logs kept.0 log kept.1 (sym kept.2)) in
    let apart : NoneOutside log =
    λ k e at.
    both.1 k e (subst (λ (l : List Entry). get_elem? l k ≡ some e) starts.1 (begun_at log starts.0 k e at)) in
    let simple = plain (map_in opening) log apart legal in
    let few : n ≤ closed.stamps = omega (arith, size, long, ap length starts.1, length-append log starts.0) in
    let o = order_of (acts_before n acts) in
    let is =
    all_drawn (acts_before n acts) o.0 n o.1
    (once acts history closed.stamps n settled.stamped.order settled.stamped.stamps few) in
    let first : o.0 ≡ take n history =
    first_ones acts history closed.stamps n settled.stamped.order settled.stamped.stamps o.0 few o.1 is in
    let lines : take n history ≡ lines_of log =
    ap (take n) (same ∙ ap lines_of (sym starts.1) ∙ map-append (λ (e : Entry). e.line) log starts.0)
    ∙ ap (λ m. take m (lines_of log ++ lines_of starts.0)) (sym size ∙ sym (length-map log (λ (e : Entry). e.line)))
    ∙ take-append_seam (lines_of log) (lines_of starts.0) in
    subst (IsSettled opening snapshot (acts_before n acts)) (sym lines) (record {
      stamped = record {
        whole = even;
        order = subst (IsInOrder (acts_before n acts)) (first ∙ lines) o.1;
        stamps = ap stamps_of (sym (first ∙ lines)) ∙ is;
      };
      legal = simple.0;
      placed = subst (HoldsMap snapshot) simple.1 held;
    })
