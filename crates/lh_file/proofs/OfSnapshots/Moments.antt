-- What the buckets of a file, all held at once, say of its records
use Rattle.std.proofs.Common.{◌≡◌, ℕ, zero, suc, ◌%◌, ◌<◌, ◌≤◌, ⊎_elim, List, [], ◌∷◌, map, length, refl, sym, ap}
use Rattle.std.proofs.Common.{◌∙◌, subst, arith}
use Rattle.std.specs.Prelude.{Result, Ok, Err}
use Rattle.std.specs.Result.{IfOk}
use Rattle.std.specs.List.{IsDistinct}
use Rattle.std.specs.Str.{bytes_eq}
use Rattle.std.proofs.lemmas.Bool.{cases_lt}
use Rattle.std.proofs.lemmas.List.{length-map}
use mathlib.Core.Option.{some, some-injective, some-ne-none}
use lib.ListN.{get_elem?}
use Rattle.lh_addr.specs.Fnv.{code_of}
use Rattle.lh_addr.specs.Growth.{hash_at, address, level_of, AddressLaw}
use Rattle.lh_addr.specs.RootWord.{buckets_of}
use Rattle.lh_addr.specs.Settings.{Settings}
use Rattle.lh_page.specs.declared.pair.Pair.{Pair}
use Rattle.lh_page.specs.Records.{keys_of, key_at}
use Rattle.lh_bucket.specs.Bucket.{Head, Seen, HasOwnKeys}
use Rattle.lh_bucket.specs.Laws.{KeyLaw}
use Rattle.lh_bucket.specs.Listing.{Lists, EachPlace, IsHome, list_at}
use Rattle.lh_bucket.specs.PlainMap.{Records}
use Rattle.lh_bucket.specs.Records.{map_of}
use Rattle.lh_settling.specs.ClosedFile.{ClosedFile, IsWhole}
use Rattle.lh_settling.specs.Contents.{ArePlaced}
use Rattle.lh_settling.specs.Laws.{FilledLaw}
use Rattle.lh_settling.specs.Settled.{map_in}
use Rattle.lh_words.specs.History.Buckets.{Mirrors, IsPlacedIn}
use Rattle.lh_words.specs.History.Log.{left_after}
use Rattle.lh_words.specs.History.Told.{IsSurveyed}
use Rattle.lh_file.specs.Snapshots.Moments.{IsSnapshot}
use Rattle.lh_file.specs.Snapshots.Held.{head_in, AreBucketsOf}
use Rattle.lh_words.specs.Rule.{Each}
use Rattle.lh_words.specs.declared.seat_view.Entry.{Entry}
use Rattle.lh_file.proofs.OfHistory.Closing.{home, index_past, some_at, no_key}

-- the lists of a row of buckets
abbrev pub lists_of : List Seen → List (List Pair)
lists_of row = map (λ (b : Seen). b.pairs) row

pairs_at : (row : List Seen) (i : ℕ) (b : Seen) → get_elem? row i ≡ some b → list_at (lists_of row) i ≡ b.pairs
pairs_at [] i b e = absurd (some-ne-none b (sym e))
pairs_at (x ∷ row) zero b e = ap (λ (y : Seen). y.pairs) (some-injective x b e)
pairs_at (x ∷ row) (suc i) b e = pairs_at row i b e

none_past : (row : List Seen) (i : ℕ) → length row ≤ i → list_at (lists_of row) i ≡ []
none_past row i past = index_past (lists_of row) [] i (omega (arith, length-map row (λ (x : Seen). x.pairs)))

module _ (law : AddressLaw) (keys : KeyLaw) (filled : FilledLaw) (config : Settings) (row : List Seen)
    (pos : 1 ≤ config.initial) (least : config.initial ≤ length row) (is : AreBucketsOf config row) where
  -- a bucket of the row has its number and level
  in_place : (b : ℕ) (p : Seen) → get_elem? row b ≡ some p → b < length row → IsPlacedIn config.initial (length row) p
  in_place b p at below =
      let head : p.head ≡ head_in config (length row) b = (is b p at).0 in
      let number : p.head.number ≡ b = ap (λ (h : Head). h.number) head in record {
        initial_is = ap (λ (h : Head). h.initial) head;
        below = omega arith;
        level_is = ap (λ (h : Head). h.level) head ∙ ap (λ n. (head_in config (length row) n).level) (sym number);
      }

  -- no key of a held bucket stands twice
  pub row_distinct : (b : ℕ) → IsDistinct bytes_eq (keys_of (list_at (lists_of row) b))
  row_distinct b = ⊎_elim
      (λ (below : b < length row).
      let t = some_at row b below in
      subst (λ (ps : List Pair). IsDistinct bytes_eq (keys_of ps)) (sym (pairs_at row b t.0 t.1))
      (is b t.0 t.1).1.distinct)
      (λ (past : length row ≤ b).
      subst (λ (ps : List Pair). IsDistinct bytes_eq (keys_of ps)) (sym (none_past row b past)) no_key)
      (cases_lt b (length row))

  -- each record stands in the bucket of its address
  pub row_home : EachPlace (IsHome config.initial (length row)) (lists_of row)
  row_home b place inside = ⊎_elim
      (λ (below : b < length row).
      let t = some_at row b below in
      let p : Seen = t.0 in
      let head : p.head ≡ head_in config (length row) b = (is b p t.1).0 in
      let lists : list_at (lists_of row) b ≡ p.pairs = pairs_at row b p t.1 in
      let inside' : place < length p.pairs = omega (arith, ap length lists) in
      let own : HasOwnKeys (head_in config (length row) b) p.pairs (head_in config (length row) b).level =
      subst (λ (h : Head). HasOwnKeys h p.pairs h.level) head (is b p t.1).1.home in
      let there : hash_at config.initial (level_of config.initial (length row) b) (code_of (key_at p.pairs place)) ≡ b =
      own.1 (key_at p.pairs place) (keys p.pairs place inside') in
      subst (λ (ps : List Pair). address config.initial (length row) (code_of (key_at ps place)) ≡ b) (sym lists)
      ((law config.initial (length row) (code_of (key_at p.pairs place)) b pos least).1 (below, there)))
      (λ (past : length row ≤ b). absurd (omega (arith, inside, ap length (none_past row b past))))
      (cases_lt b (length row))

  -- where each bucket holds what a map has of its keys, all hold the map
  pub row_placed : (m : Records) → Each row (Mirrors m) → ArePlaced config.initial (length row) m (lists_of row)
  row_placed m held =
      filled config.initial (length row) m (lists_of row)
      (λ code. ((law config.initial (length row) code (address config.initial (length row) code) pos least).0 refl).0)
      (λ b below. let t = some_at row b below in
      ap map_of (pairs_at row b t.0 t.1)
      ∙ home law config.initial (length row) m t.0 b pos least (in_place b t.0 t.1 below)
      (ap (λ (h : Head). h.number) (is b t.0 t.1).0) (held b t.0 t.1))
      (λ b past. none_past row b past)
      row_distinct

  module _ (closed : ClosedFile) (same : closed.config ≡ config) (size : buckets_of closed.root ≡ length row)
      (lists : closed.lists ≡ lists_of row) where
    -- no split is under way
    pub row_whole : closed.root % 2 ≡ 0 → IsWhole closed
    row_whole even = record {
      even = even;
      each = ap length lists ∙ length-map row (λ (x : Seen). x.pairs) ∙ sym size;
      home = subst (λ (s : Settings). EachPlace (IsHome s.initial (buckets_of closed.root)) closed.lists) (sym same)
          (subst (λ n. EachPlace (IsHome config.initial n) closed.lists) (sym size)
          (subst (λ (l : List (List Pair)). EachPlace (IsHome config.initial (length row)) l) (sym lists)
          row_home));
      distinct =
          λ b.
          subst (λ (l : List (List Pair)). IsDistinct bytes_eq (keys_of (list_at l b))) (sym lists) (row_distinct b);
    }

    -- what was told while the seats of all buckets lay with the hand
    pub row_snapshot : (opening : Lists) (entries : List Entry) (logs : List (List Entry)) (log : List Entry) →
        IsSurveyed opening closed.stamps entries logs row log → IsSnapshot opening closed entries logs log
    row_snapshot opening entries logs log (told, held) =
        let m : Records = left_after (map_in opening) log in (
          told,
          subst (λ (l : List (List Pair)). ArePlaced closed.config.initial (buckets_of closed.root) m l) (sym lists)
              (subst (λ n. ArePlaced closed.config.initial n m (lists_of row)) (sym size)
              (subst (λ (s : Settings). ArePlaced s.initial (length row) m (lists_of row)) (sym same)
              (row_placed m held))),
        )

-- the same under other names
pub surveyed_as : (k l : Lists) (m n : ℕ) (es fs : List Entry) (ss ts : List (List Entry)) (ps qs : List Seen)
    (log : List Entry) → k ≡ l → m ≡ n → es ≡ fs → ss ≡ ts → ps ≡ qs → IsSurveyed k m es ss ps log →
    IsSurveyed l n fs ts qs log
surveyed_as k l m n es fs ss ts ps qs log a o b s c is =
    subst (λ x. IsSurveyed l n fs ts x log) c
    (subst (λ x. IsSurveyed l n fs x ps log) s
    (subst (λ x. IsSurveyed l n x ss ps log) b
    (subst (λ x. IsSurveyed l x es ss ps log) o (subst (λ x. IsSurveyed x m es ss ps log) a is))))

-- of an answer, where there is one
pub ok_map : {X E : Type 0} (r : Result X E) (P Q : X → Type 0) → IfOk r P → ((x : X) → P x → Q x) → IfOk r Q
ok_map (Ok x) P Q is f = f x is
ok_map (Err e) P Q is f = tt

-- two facts of an answer, where there is one, hold of it together
pub ok_both : {X E : Type 0} (r : Result X E) (P Q : X → Type 0) → IfOk r P → IfOk r Q → IfOk r (λ x. P x × Q x)
ok_both (Ok x) P Q p q = (p, q)
ok_both (Err e) P Q p q = tt
