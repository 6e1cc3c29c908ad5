-- What is kept and noted of the pages that came, after one page more
use Rattle.std.proofs.Common.{◌≡◌, ℕ, zero, suc, ◌+◌, ◌-◌, ◌*◌, ◌<◌, ◌≤◌, inl, inr, Bool, true, false, cond, not, ◌||◌}
use Rattle.std.proofs.Common.{◌&&◌, eqb, ltb, List, [], ◌∷◌, ◌++◌, length, take, drop, get_or, Option, Some, None}
use Rattle.std.proofs.Common.{Result, Ok, Err, refl, sym, ap, ◌∙◌, arith, length-append}
use Rattle.std.specs.Prelude.{IfErr, OnOk, option_map}
use Rattle.std.specs.List.{range_with_len, find, sum_by}
use Rattle.std.specs.Option.{is_some}
use Rattle.std.proofs.lemmas.Bool.{cases_lt, ne_eqb}
use Rattle.std.proofs.lemmas.List.{get_or_append_left, get_or_at, take_all, drop_at, get_or-take}
use Rattle.std.proofs.lemmas.List.{get_or-drop, length-drop, take-append-le, drop-append-le}
use Rattle.std.proofs.lemmas.List.Sums.{sum_by-cons}
use Rattle.lh_page.specs.declared.fault.PageFault.TheVariants.{Kind as OwnKind, Used as OwnUsed, Slot as OwnSlot}
use Rattle.lh_page.specs.declared.head.PageHead.{PageHead}
use Rattle.lh_page.specs.declared.pair.Pair.{Pair}
use Rattle.lh_page.specs.PageFields.{bad_slot, fault_of, has_bad_kind, head_of, is_clear, kind_of, pairs_of, used_of}
use Rattle.lh_image.specs.declared.fault.ImageFault.{ImageFault}
use Rattle.lh_image.specs.declared.fault.ImageFault.TheVariants.{Memory}
use Rattle.lh_image.specs.declared.header.Header.{Header}
use Rattle.lh_image.specs.declared.judge.page_checks.PageFaults.{PageFaults}
use Rattle.lh_image.specs.declared.table.PageEntry.{PageEntry}
use Rattle.lh_image.specs.Faults.{at_head, bad_kind, bad_bucket, bad_used}
use Rattle.lh_image.specs.Layout.{header_of, page, view_of}
use Rattle.lh_image.specs.PageChecks.{AreNoted, known_bad_level, known_bad_slot, noted, seen}
use Rattle.lh_image.specs.Pages.{HaveCome, ReadsTo}
use Rattle.lh_image.specs.Table.{no_entry, entry_at, next_in, bucket_in, page_records, has_plain_head, AreWithin}
use Rattle.lh_image.specs.Table.{IsPushed, IsTable, is_of_slot}
use Rattle.lh_image.specs.Version.{format_of, page_bytes, version_of}
use Rattle.lh_image.specs.View.{View, capacity, used}
use Rattle.lh_image.proofs.Bytes.Header.{version_shown}

-- ---- one number more

cond_noted : (b : Bool) (a p : ℕ) (o : Option ℕ) (test : Bool) →
    cond b (Some a) (noted o p test) ≡ noted (cond b (Some a) o) p test
cond_noted true a p o test = refl
cond_noted false a p o test = refl

-- with one number more, that one is noted where it passes and none did before
pub find_more : (f : ℕ → Bool) (a m : ℕ) →
    find f (range_with_len a (suc m)) ≡ noted (find f (range_with_len a m)) (a + m) (f (a + m))
find_more f a zero = let e : a + 0 ≡ a = omega arith in rw e refl
find_more f a (suc m) =
    let e : (a + 1) + m ≡ a + suc m = omega arith in
    let rest : find f (range_with_len (a + 1) (suc m)) ≡
    noted (find f (range_with_len (a + 1) m)) (a + suc m) (f (a + suc m)) =
    rw e at (find_more f (a + 1) m) in
    ap (λ (o : Option ℕ). cond (f a) (Some a) o) rest
    ∙ cond_noted (f a) a (a + suc m) (find f (range_with_len (a + 1) m)) (f (a + suc m))

-- with one number more, the sum grows by what that one gives
pub sum_more : (f : ℕ → ℕ) (a m : ℕ) → sum_by f (range_with_len a (suc m)) ≡ sum_by f (range_with_len a m) + f (a + m)
sum_more f a zero = let e : a + 0 ≡ a = omega arith in rw e (omega (arith, sum_by-cons f a (range_with_len (a + 1) 0)))
sum_more f a (suc m) =
    let e : (a + 1) + m ≡ a + suc m = omega arith in
    let rest : sum_by f (range_with_len (a + 1) (suc m)) ≡ sum_by f (range_with_len (a + 1) m) + f (a + suc m) =
    rw e at (sum_more f (a + 1) m) in
    omega (arith, rest, sum_by-cons f a (range_with_len (a + 1) (suc m)), sum_by-cons f a (range_with_len (a + 1) m))

-- ---- the tests

-- what is noted after one page more is noted of all pages up to that one
pub noted_more : (v : View) (header : Header) (n : ℕ) (head : PageHead) (faults : PageFaults) (bad : Bool) → 1 ≤ n →
    header ≡ v.header → head ≡ v.head n → bad ≡ known_bad_slot v n →
    AreNoted v (n - 1) faults → AreNoted v ((n + 1) - 1) (seen faults header n head bad)
noted_more v header n head faults bad low is shows slot so_far =
    let here : 1 + (n - 1) ≡ n = omega arith in
    let size : (n + 1) - 1 ≡ suc (n - 1) = omega arith in
    let more : (f : ℕ → Bool) (o : Option ℕ) (test : Bool) → o ≡ find f (range_with_len 1 (n - 1)) → test ≡ f n →
    noted o n test ≡ find f (range_with_len 1 (suc (n - 1))) =
    λ f o test e t. rw (e, t) (sym (rw here at (find_more f 1 (n - 1)))) in
    let same : (test : Header → ℕ → PageHead → Bool) → test header n head ≡ at_head test v n =
    λ test. rw (is, shows) refl in
    rw size (record {
      sum =
          ap (λ (k : ℕ). k + head.used) so_far.sum
          ∙ ap (λ (h : PageHead). sum_by (used v) (range_with_len 1 (n - 1)) + h.used) shows
          ∙ sym (rw here at (sum_more (used v) 1 (n - 1)));
      kind = more (at_head bad_kind v) faults.kind (bad_kind header n head) so_far.kind (same bad_kind);
      bucket = more (at_head bad_bucket v) faults.bucket (bad_bucket header n head) so_far.bucket (same bad_bucket);
      level =
          more (at_head known_bad_level v) faults.level (known_bad_level header n head) so_far.level
          (same known_bad_level);
      used = more (at_head bad_used v) faults.used (bad_used header n head) so_far.used (same bad_used);
      slot = more (known_bad_slot v) faults.slot bad so_far.slot slot;
    })

-- ---- the table

kept_slice : (start n : ℕ) (xs ys : List Pair) → start + n ≤ length xs →
    take n (drop start (xs ++ ys)) ≡ take n (drop start xs)
kept_slice start n xs ys within =
    let first : drop start (xs ++ ys) ≡ drop start xs ++ ys = drop-append-le start xs ys (omega arith) in
    rw first (take-append-le n (drop start xs) ys (omega (arith, length-drop start xs)))

added_slice : (xs ys : List Pair) → take (length ys) (drop (length xs) (xs ++ ys)) ≡ ys
added_slice xs ys = rw (drop_at xs ys (length xs) refl) (take_all (length ys) ys (omega arith))

entry_before : (entries : List PageEntry) (e : PageEntry) (p : ℕ) → p < length entries →
    entry_at (entries ++ e ∷ []) p ≡ entry_at entries p
entry_before entries e p within = get_or_append_left entries (e ∷ []) no_entry p within

entry_last : (entries : List PageEntry) (e : PageEntry) (n : ℕ) → length entries ≡ n →
    entry_at (entries ++ e ∷ []) n ≡ e
entry_last entries e n size = get_or_at entries e [] no_entry n size

-- the table after one page more, whose records are those of a View where nothing is wrong with them
table_more : (v : View) (n : ℕ) (entries new_entries : List PageEntry) (pairs added : List Pair) (head : PageHead) →
    1 ≤ n → head ≡ v.head n → AreWithin entries pairs →
    new_entries ≡
    entries ++ record { bucket = head.bucket; next = head.next; start = length pairs; used = length added } ∷ [] →
    (has_plain_head v n ≡ true → v.bad_slot n ≡ None → added ≡ v.records n) → IsTable v n entries pairs →
    IsTable v (n + 1) new_entries (pairs ++ added)
unfolding next_in bucket_in page_records
table_more v n entries new_entries pairs added head low shows within entered sound table =
    let last : PageEntry =
    record { bucket = head.bucket; next = head.next; start = length pairs; used = length added } in
    let here : entry_at new_entries n ≡ last = rw entered (entry_last entries last n table.size) in
    let before : (p : ℕ) → p < n → entry_at new_entries p ≡ entry_at entries p =
    λ p less. rw entered (entry_before entries last p (omega (arith, table.size))) in
    record {
      size = rw entered (omega (arith, table.size, length-append entries (last ∷ [])));
      next = λ p less. elim (cases_lt p n) [
        | inl old ↦ ap (λ e. e.next) (before p old) ∙ table.next p old
        | inr new ↦ let at : p ≡ n = omega arith in rw at (ap (λ e. e.next) here ∙ ap (λ h. h.next) shows)
      ];
      bucket = λ p less. elim (cases_lt p n) [
        | inl old ↦ ap (λ e. e.bucket) (before p old) ∙ table.bucket p old
        | inr new ↦ let at : p ≡ n = omega arith in rw at (ap (λ e. e.bucket) here ∙ ap (λ h. h.bucket) shows)
      ];
      records = λ p from less plain none. elim (cases_lt p n) [
        | inl old ↦ ap (λ e. take e.used (drop e.start (pairs ++ added))) (before p old)
            ∙ kept_slice (entry_at entries p).start (entry_at entries p).used pairs added (within p)
            ∙ table.records p from old plain none
        | inr new ↦
            let at : p ≡ n = omega arith in
            rw at
            (ap (λ e. take e.used (drop e.start (pairs ++ added))) here ∙ added_slice pairs added
            ∙ sound (rw at at plain) (rw at at none))
      ];
    }

-- ---- the page's own faults

-- over plain values: k says whether a page's kind is known, c whether its reserved bytes are zeros, u whether it has
-- too many records, o is its first bad slot
own_slot : (k c u : Bool) (o : Option ℕ) →
    is_of_slot (cond (not k || not c) (Some OwnKind) (cond u (Some OwnUsed) (option_map OwnSlot o))) ≡
    ((k && c && not u) && is_some o)
own_slot false c u o = refl
own_slot true false u o = refl
own_slot true true true o = refl
own_slot true true false None = refl
own_slot true true false (Some i) = refl

own_none : (k c u : Bool) (o : Option ℕ) → (k && c && not u) ≡ true → o ≡ None →
    cond (not k || not c) (Some OwnKind) (cond u (Some OwnUsed) (option_map OwnSlot o)) ≡ None
own_none false c u o plain none = absurd cc
own_none true false u o plain none = absurd cc
own_none true true true o plain none = absurd cc
own_none true true false None plain none = refl
own_none true true false (Some i) plain none = absurd cc

head_at : (bytes : List ℕ) (n : ℕ) → 1 ≤ n → (view_of bytes).head n ≡ head_of (page bytes n)
unfolding view_of
head_at bytes n low = rw (ne_eqb n 0 (λ z. omega arith)) refl

slot_same : (bytes : List ℕ) (n : ℕ) → 1 ≤ n →
    is_of_slot (fault_of (format_of (version_of bytes)) (page bytes n) (capacity (view_of bytes))) ≡
    known_bad_slot (view_of bytes) n
unfolding view_of fault_of has_bad_kind
slot_same bytes n low =
    let g : List ℕ = page bytes n in
    rw (ne_eqb n 0 (λ z. omega arith))
    (own_slot (eqb (kind_of g) 1 || eqb (kind_of g) 2) (is_clear g)
    (ltb (header_of bytes).config.capacity (used_of g)) (bad_slot (format_of (version_of bytes)) g))

own_sound : (bytes : List ℕ) (n : ℕ) → 1 ≤ n → has_plain_head (view_of bytes) n ≡ true →
    (view_of bytes).bad_slot n ≡ None →
    fault_of (format_of (version_of bytes)) (page bytes n) (capacity (view_of bytes)) ≡ None
unfolding view_of fault_of has_bad_kind
own_sound bytes n low plain none =
    let g : List ℕ = page bytes n in
    own_none (eqb (kind_of g) 1 || eqb (kind_of g) 2) (is_clear g) (ltb (header_of bytes).config.capacity (used_of g))
    (bad_slot (format_of (version_of bytes)) g) (rw (ne_eqb n 0 (λ z. omega arith)) at plain) none

-- ---- all of it

-- where the next page was read, kept and noted, one page more came
pub come_more : (bytes : List ℕ) (header : Header) (n : ℕ) (entries new_entries : List PageEntry)
    (pairs new_pairs : List Pair) (faults : PageFaults) (head : PageHead) (bad : Bool) (buffer : List ℕ) →
    1 ≤ n → buffer ≡ page bytes n → head ≡ head_of buffer →
    bad ≡ is_of_slot (fault_of (format_of header.version) buffer header.config.capacity) →
    AreWithin entries pairs →
    IsPushed entries pairs new_entries new_pairs head.bucket head.next header.version buffer
    header.config.capacity → page_bytes (version_of bytes) * (n + 1) ≤ length bytes →
    ((i : ℕ) → get_or buffer i 0 < 256) →
    HaveCome bytes header n entries pairs faults →
    HaveCome bytes header (n + 1) new_entries new_pairs (seen faults header n head bad)
unfolding page view_of
come_more bytes header n entries new_entries pairs new_pairs faults head bad buffer low is shows slot within pushed
    enough each come =
    let room : header.config.capacity ≡ capacity (view_of bytes) = ap (λ (h : Header). h.config.capacity) come.fields in
    let at_page : head ≡ (view_of bytes).head n = shows ∙ ap head_of is ∙ sym (head_at bytes n low) in
    let size : ℕ = page_bytes (version_of bytes) in
    let format_same : format_of header.version ≡ format_of (version_of bytes) =
    ap (λ (h : Header). format_of h.version) come.fields ∙ ap format_of (version_shown bytes) in
    let fault_same : fault_of (format_of header.version) buffer header.config.capacity ≡
    fault_of (format_of (version_of bytes)) (page bytes n) (capacity (view_of bytes)) =
    rw (is, room, format_same) refl in
    record {
      fields = come.fields;
      kept =
          rw pushed.appended
          (table_more (view_of bytes) n entries new_entries pairs pushed.added head low at_page within pushed.entered
          (λ plain none.
          pushed.records (fault_same ∙ own_sound bytes n low plain none)
          ∙ ap (λ f. pairs_of f buffer) format_same ∙ ap (pairs_of (format_of (version_of bytes))) is)
          come.kept);
      noted =
          noted_more (view_of bytes) header n head faults bad low come.fields at_page
          (slot ∙ ap is_of_slot fault_same ∙ slot_same bytes n low) come.noted;
      enough = enough;
      each_byte = λ i less. elim (cases_lt i (size * n)) [
        | inl old ↦ come.each_byte i old
        | inr new ↦
            let place : size * n + (i - size * n) ≡ i = omega arith in
            let at : get_or (take size (drop (size * n) bytes)) (i - size * n) 0 ≡
            get_or bytes (size * n + (i - size * n)) 0 =
            get_or-take size (drop (size * n) bytes) (i - size * n) 0 (omega arith)
            ∙ get_or-drop (size * n) bytes (i - size * n) 0 in
            let here : get_or bytes i 0 ≡ get_or buffer (i - size * n) 0 =
            ap (λ (k : ℕ). get_or bytes k 0) (sym place) ∙ sym at
            ∙ ap (λ (b : List ℕ). get_or b (i - size * n) 0) (sym is) in
            omega (arith, here, each (i - size * n))
      ];
    }

-- one page more was read, or there was no memory for it
pub reads_more : {X : Type 0} (bytes : List ℕ) (header : Header) (n : ℕ) (result : Result X ImageFault)
    (entries : List PageEntry) (pairs : List Pair) (faults : PageFaults) (now : Option (List ℕ)) →
    OnOk result (HaveCome bytes header n entries pairs faults) →
    IfErr result (λ f. f ≡ Memory) → now ≡ Some (drop (page_bytes (version_of bytes) * n) bytes) →
    ReadsTo bytes header n result entries pairs faults now
reads_more bytes header n (Ok x) entries pairs faults now come memory rest = (come, rest)
reads_more bytes header n (Err f) entries pairs faults now come memory rest = rw memory tt
