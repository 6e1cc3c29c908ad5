-- Keys of one chain, compared where they stand
use Rattle.std.proofs.Common.{◌↔◌, slice_index}
use Rattle.std.specs.Int.{bit_at}
use Rattle.lh_addr.specs.Fnv.{code_of}
use Rattle.lh_image.specs.declared.version.Version.TheVariants.{One, Two}
use Rattle.lh_image.specs.Checked.{code_mark}
use Rattle.lh_image.proofs.Looking.Indexed.{marked_elsewhere, none_below}
use Rattle.std.proofs.Common.{suc, inl, inr, arith}
use Rattle.std.proofs.lemmas.List.{take_more_set}
use Rattle.std.proofs.Common.{◌≡◌, ℕ, ◌+◌, ◌<◌, ◌≤◌, Bool, true, false, not, cond, ◌||◌, List, [], ◌∷◌, ◌++◌}
use Rattle.std.proofs.Common.{append_assoc, length, take, get_or, set, Option, Some, None, refl, sym, ap, subst, ◌∙◌}
use Rattle.std.specs.List.{flat_map, list_any, range_with_len, sum_by}
use Rattle.std.specs.Option.{is_some}
use Rattle.std.specs.Str.{bytes_eq}
use Rattle.std.proofs.lemmas.Bool.{cases_lt, or_from}
use Rattle.std.proofs.lemmas.List.Folds.{list_any-append}
use Rattle.lh_page.specs.declared.format.Format.{Format}
use Rattle.lh_page.specs.declared.head.PageHead.{PageHead}
use Rattle.lh_page.specs.declared.pair.Pair.{Pair}
use Rattle.lh_page.specs.PageFields.{pair_of, pairs_of, used_of}
use Rattle.lh_page.specs.PageTable.{slot}
use Rattle.lh_page.specs.Records.{keys_of}
use Rattle.lh_image.specs.declared.checked.index.PageIndex.{PageIndex}
use Rattle.lh_image.specs.declared.version.Version.{Version}
use Rattle.lh_image.specs.Chains.{IsPath, stands_in}
use Rattle.lh_image.specs.Checked.{index_at}
use Rattle.lh_image.specs.Faults.{misfits}
use Rattle.lh_image.specs.Indexed.{IsGoodPage}
use Rattle.lh_image.specs.Layout.{page, view_of}
use Rattle.lh_image.specs.LookUp.{IsSlotOf, first_pairs, value_in}
use Rattle.lh_image.specs.Plain.{AreDistinctChains, AreNew, IsIndexOf, IsNextOf, IsNoneOf, keys_on}
use Rattle.lh_image.specs.Version.{format_of, version_of}
use Rattle.lh_image.specs.View.{View, chain_of, next, page_count}
use Rattle.lh_image.proofs.Faults.Misfits.{misfits_cut}
use Rattle.lh_image.proofs.Judging.Finding.{flat_more}
use Rattle.lh_image.proofs.Judging.Misplacing.{before_or_last, chain_keys, flip}
use Rattle.lh_image.proofs.Looking.Scans.{first_pairs-all, first_pairs-more}
use Rattle.lh_image.proofs.Looking.Steps.{head_is}
use Rattle.lh_image.proofs.Looking.Values.{value_in-cons}
use Rattle.lh_image.proofs.OfReading.Steps.{sum_more}
use Rattle.lh_image.proofs.Paths.ShortPaths.{path_short}
use Rattle.lh_image.proofs.Paths.Walks.{path_is}

-- ---- a key that isn't found

none_by : (key : List ℕ) (x : Pair) (keys : List (List ℕ)) (rest : Option (List ℕ)) (b : Bool) →
    bytes_eq x.key key ≡ b → cond b (Some x.value) rest ≡ None → (rest ≡ None → IsNoneOf key keys) →
    IsNoneOf key (x.key ∷ keys)
none_by key x keys rest true same e more = absurd cc
none_by key x keys rest false other e more =
    or_from (bytes_eq key x.key) (list_any (bytes_eq key) keys) (flip key x.key ∙ other) (more e)

-- a key that isn't found in some records isn't among their keys
pub absent_none : (key : List ℕ) (rs : List Pair) → value_in key rs ≡ None → IsNoneOf key (keys_of rs)
absent_none key [] e = refl
absent_none key (x ∷ rs) e =
    none_by key x (keys_of rs) (value_in key rs) (bytes_eq x.key key) refl (sym (value_in-cons key x rs) ∙ e)
    (absent_none key rs)

-- where no slot of a key is found, the key isn't among those of the records
pub no_slot_none : (f : Format) (pg key : List ℕ) (rs : List Pair) (o : Option ℕ) → IsSlotOf f pg key rs o →
    is_some o ≡ false → IsNoneOf key (keys_of rs)
no_slot_none f pg key rs None h e = absent_none key rs h
no_slot_none f pg key rs (Some k) h e = absurd cc

-- where the first slots have other marks than a key's, the key isn't among theirs
pub unmarked_none : (f : Format) (pg key : List ℕ) (entry : PageIndex) (mark bits n : ℕ) → IsGoodPage f pg entry →
    f.slots ≤ 24 → n ≤ used_of pg → mark ≡ code_mark (code_of key) →
    ((i : ℕ) → i < 24 → (bit_at bits i ≡ 1) ↔ (slice_index entry.marks i ≡ mark)) →
    ((i : ℕ) → i < n → bit_at bits i ≡ 0) → IsNoneOf key (keys_of (first_pairs f pg n))
unmarked_none f pg key entry mark bits n good few within is places clear =
    absent_none key (first_pairs f pg n)
    (none_below f pg key n (λ i low.
    marked_elsewhere f pg key entry mark bits good few is places i (omega (arith, low, within)) (clear i low)))

-- no page of either version has more slots than an index has marks
pub slots_few : (version : Version) → (format_of version).slots ≤ 24
slots_few One = omega arith
slots_few Two = omega arith

-- the records of a page that has no record with the mark
pub page_unmarked : (bytes : List ℕ) (version : Version) (index : List PageIndex) (key : List ℕ) (p n : ℕ)
    (entry : PageIndex) → IsIndexOf bytes version index → 1 ≤ p → p < length index → entry ≡ index_at index p →
    n ≡ entry.used →
    ((f : Format) (pg : List ℕ) → IsGoodPage f pg entry → f.slots ≤ 24 → n ≤ used_of pg →
    IsNoneOf key (keys_of (first_pairs f pg n))) → IsNoneOf key (keys_of ((view_of bytes).records p))
unfolding view_of
page_unmarked bytes version index key p n entry is low high ee ne none =
    let f : Format = format_of (version_of bytes) in
    let good : IsGoodPage f (page bytes p) entry =
    subst (IsGoodPage f (page bytes p)) (sym ee) (is.good p low high) in
    let used : n ≡ used_of (page bytes p) = ne ∙ good.kept.used in
    subst (λ rs. IsNoneOf key (keys_of rs)) (first_pairs-all f (page bytes p) n used)
    (none f (page bytes p) good (slots_few (version_of bytes)) (omega (arith, used)))

-- a key that is in neither of two rows of keys isn't in both joined
pub none_joined : (key : List ℕ) (xs ys : List (List ℕ)) → IsNoneOf key xs → IsNoneOf key ys → IsNoneOf key (xs ++ ys)
none_joined key xs ys a b =
    list_any-append (bytes_eq key) xs ys ∙ or_from (list_any (bytes_eq key) xs) (list_any (bytes_eq key) ys) a b

-- the page of an index, as it was cut out
pub good_here : (bytes : List ℕ) (version : Version) (index : List PageIndex) (p : ℕ) (f : Format) (pg : List ℕ)
    (entry : PageIndex) → IsIndexOf bytes version index → 1 ≤ p → p < length index → f ≡ format_of version →
    pg ≡ page bytes p → entry ≡ index_at index p → IsGoodPage f pg entry
good_here bytes version index p f pg entry is low high fe pe ee =
    let g : f ≡ format_of (version_of bytes) = fe ∙ ap format_of is.own in
    subst (IsGoodPage f pg) (sym ee)
    (subst (λ b. IsGoodPage f b (index_at index p)) (sym pe)
    (subst (λ x. IsGoodPage x (page bytes p) (index_at index p)) (sym g) (is.good p low high)))

-- the records of a page, as it was cut out
pub records_here : (bytes : List ℕ) (version : Version) (index : List PageIndex) (p : ℕ) (f : Format) (pg : List ℕ) →
    IsIndexOf bytes version index → f ≡ format_of version → pg ≡ page bytes p →
    pairs_of f pg ≡ (view_of bytes).records p
unfolding view_of
records_here bytes version index p f pg is fe pe =
    ap (λ g. pairs_of g pg) (fe ∙ ap format_of is.own) ∙ ap (pairs_of (format_of (version_of bytes))) pe

-- ---- records that are new

-- before any record
pub new_none : (before : List (List ℕ)) → AreNew before []
unfolding misfits
new_none before = refl

-- with one record more, whose key doesn't stand before it
pub new_more : (before : List (List ℕ)) (rs : List Pair) (r : Pair) → AreNew before rs →
    IsNoneOf r.key (before ++ keys_of rs) → AreNew before (rs ++ r ∷ [])
unfolding misfits
new_more before rs r are none =
    let rest : misfits (λ _. true) (before ++ keys_of rs) (r ∷ []) ≡ false =
    or_from (not true || list_any (bytes_eq r.key) (before ++ keys_of rs)) false none refl in
    misfits_cut (λ _. true) before rs (r ∷ [])
    ∙ or_from (misfits (λ _. true) before rs) (misfits (λ _. true) (before ++ keys_of rs) (r ∷ [])) are rest

-- with the next slot's record of a page
pub slot_new : (before : List (List ℕ)) (f : Format) (pg : List ℕ) (n : ℕ) → AreNew before (first_pairs f pg n) →
    IsNoneOf (pair_of f (slot f pg n)).key (before ++ keys_of (first_pairs f pg n)) →
    AreNew before (first_pairs f pg (n + 1))
slot_new before f pg n are none =
    ap (misfits (λ _. true) before) (first_pairs-more f pg n)
    ∙ new_more before (first_pairs f pg n) (pair_of f (slot f pg n)) are none

-- with the records of the next page of a chain
pub page_new : (rec : ℕ → List Pair) (chain : List ℕ) (i : ℕ) → i < length chain →
    AreNew [] (flat_map rec (take i chain)) → AreNew (keys_of (flat_map rec (take i chain))) (rec (get_or chain i 0)) →
    AreNew [] (flat_map rec (take (i + 1) chain))
page_new rec chain i less are new =
    ap (misfits (λ _. true) []) (flat_more rec chain i 0 less)
    ∙ misfits_cut (λ _. true) [] (flat_map rec (take i chain)) (rec (get_or chain i 0))
    ∙ or_from (misfits (λ _. true) [] (flat_map rec (take i chain)))
    (misfits (λ _. true) (keys_of (flat_map rec (take i chain))) (rec (get_or chain i 0))) are new

-- a key that neither the pages before have nor this one
pub none_on_more : (bytes key chain : List ℕ) (i p : ℕ) → i < length chain → get_or chain i 0 ≡ p →
    IsNoneOf key (keys_on bytes (take i chain)) → IsNoneOf key (keys_of ((view_of bytes).records p)) →
    IsNoneOf key (keys_on bytes (take (i + 1) chain))
none_on_more bytes key chain i p less at before own =
    let rec : ℕ → List Pair = (view_of bytes).records in
    subst (IsNoneOf key) (chain_keys rec chain i p (rec p) less at refl)
    (none_joined key (keys_on bytes (take i chain)) (keys_of (rec p)) before own)

-- a record whose key neither the pages before its page have nor the slots before it
pub slot_none : (bytes : List ℕ) (version : Version) (index : List PageIndex) (before : List ℕ) (p k : ℕ) (f : Format)
    (pg s key : List ℕ) (found : Option ℕ) → IsIndexOf bytes version index → f ≡ format_of version →
    pg ≡ page bytes p → s ≡ slot f pg k → key ≡ (pair_of f s).key → IsNoneOf key (keys_on bytes before) →
    IsSlotOf f pg key (first_pairs f pg k) found → is_some found ≡ false →
    IsNoneOf (pair_of (format_of (version_of bytes)) (slot (format_of (version_of bytes)) (page bytes p) k)).key
    (keys_on bytes before ++ keys_of (first_pairs (format_of (version_of bytes)) (page bytes p) k))
slot_none bytes version index before p k f pg s key found is fe pe se ke none at absent =
    let g : f ≡ format_of (version_of bytes) = fe ∙ ap format_of is.own in
    let own : key ≡ (pair_of f (slot f pg k)).key = ke ∙ ap (λ t. (pair_of f t).key) se in
    let here : IsNoneOf key (keys_on bytes before ++ keys_of (first_pairs f pg k)) =
    none_joined key (keys_on bytes before) (keys_of (first_pairs f pg k)) none
    (no_slot_none f pg key (first_pairs f pg k) found at absent) in
    subst
    (λ b.
    IsNoneOf (pair_of (format_of (version_of bytes)) (slot (format_of (version_of bytes)) b k)).key
    (keys_on bytes before ++ keys_of (first_pairs (format_of (version_of bytes)) b k))) pe
    (subst
    (λ x. IsNoneOf (pair_of x (slot x pg k)).key (keys_on bytes before ++ keys_of (first_pairs x pg k))) g
    (subst (λ q. IsNoneOf q (keys_on bytes before ++ keys_of (first_pairs f pg k))) own here))

-- the records of the used slots are those of the page
pub page_records_new : (bytes : List ℕ) (before : List (List ℕ)) (p n : ℕ) → n ≡ used_of (page bytes p) →
    AreNew before (first_pairs (format_of (version_of bytes)) (page bytes p) n) →
    AreNew before ((view_of bytes).records p)
unfolding view_of
page_records_new bytes before p n all are =
    subst (AreNew before) (first_pairs-all (format_of (version_of bytes)) (page bytes p) n all) are

-- ---- one chain after the other

-- the pages of a chain that are followed are among those of the index, with one page more
pub within_more : (chain : List ℕ) (n x P : ℕ) → n < length chain → x < P →
    ((p : ℕ) → stands_in (take n chain) p ≡ true → p < P) → (p : ℕ) →
    stands_in (take (n + 1) (set chain n x)) p ≡ true → p < P
within_more chain n x P less below all p here =
    elim
    (before_or_last (take n chain) x p
    (ap (λ ys. stands_in ys p) (sym (take_more_set chain n x less)) ∙ here)) [
      | inl old ↦ all p old
      | inr new ↦ omega (arith, new, below)
    ]

-- and what is to follow makes a path with those that were followed
pub path_more : (leads : ℕ → ℕ) (index : List PageIndex) (chain rest : List ℕ) (n x first : ℕ) (entry : PageIndex) →
    n < length chain → IsNextOf index leads → 1 ≤ x → x < length index → entry ≡ index_at index x →
    IsPath leads entry.next rest →
    ((more : List ℕ) → IsPath leads x more → IsPath leads first (take n chain ++ more)) →
    IsPath leads first (take (n + 1) (set chain n x) ++ rest)
path_more leads index chain rest n x first entry less own from below ee path so_far =
    let lead : entry.next ≡ leads x = ap (λ (e : PageIndex). e.next) ee ∙ own x from below in
    let same : take n chain ++ x ∷ rest ≡ take (n + 1) (set chain n x) ++ rest =
    sym
    (ap (λ ys. ys ++ rest) (take_more_set chain n x less) ∙ append_assoc (take n chain) (x ∷ []) rest) in
    subst (IsPath leads first) same
    (so_far (x ∷ rest) (refl, from, subst (λ y. IsPath leads y rest) lead path))

-- the pages of an index lead where the View has them lead
pub next_own : (bytes : List ℕ) (version : Version) (index : List PageIndex) → IsIndexOf bytes version index →
    IsNextOf index (next (view_of bytes))
next_own bytes version index is p from below =
    (is.good p from below).kept.next ∙ ap (λ (h : PageHead). h.next) (head_is bytes p from)

-- with the chain of one bucket more
pub apart_more : (bytes : List ℕ) (n count own P : ℕ) (xs : List ℕ) → P ≡ page_count (view_of bytes) →
    AreDistinctChains bytes n count → IsPath (next (view_of bytes)) (1 + n) xs →
    ((p : ℕ) → stands_in xs p ≡ true → p < P) → AreNew [] (flat_map (view_of bytes).records xs) → own ≡ length xs →
    AreDistinctChains bytes (n + 1) (count + own)
apart_more bytes n count own P xs pages are path within new size =
    let v : View = view_of bytes in
    let is : chain_of v n ≡ xs =
    path_is (next v) xs (1 + n) (page_count v) path
    (path_short (next v) xs (1 + n) (page_count v) path (λ p here. omega (arith, within p here, pages))) in
    record {
      follows = λ i less. elim (cases_lt i n) [
        | inl before ↦ are.follows i before
        | inr there ↦
            let same : i ≡ n = omega arith in
            rw (same, is) path
      ];
      new = λ i less. elim (cases_lt i n) [
        | inl before ↦ are.new i before
        | inr there ↦
            let same : i ≡ n = omega arith in
            rw (same, is) new
      ];
      counted =
          let more : suc n ≡ n + 1 = omega arith in
          let chains : ℕ → ℕ = λ i. length (chain_of v i) in
          let here : n ≡ 0 + n = omega arith in
          let last : own ≡ chains (0 + n) = size ∙ sym (ap length is) ∙ ap chains here in
          ap (λ m. m + own) are.counted ∙ ap (λ m. sum_by chains (range_with_len 0 n) + m) last
          ∙ sym (sum_more chains 0 n) ∙ ap (λ m. sum_by chains (range_with_len 0 m)) more;
    }
