-- The buckets of a world at rest make a listing
use Rattle.std.proofs.Common.{◌≡◌, ℕ, zero, suc, ◌+◌, ◌<◌, ◌≤◌, Bool, true, false, cond, List, [], ◌∷◌, ◌++◌, take, map}
use Rattle.std.proofs.Common.{length, get_or, Option, Some, is_some, refl, sym, ap, subst, ◌∙◌, arith, ⊎_elim}
use Rattle.std.specs.Ordering.{nat_cmp, eq_by_cmp}
use Rattle.std.specs.Cmp.Lexicographic.{slice_cmp, nat_list_cmp_total, texts_ties}
use Rattle.std.specs.Str.{bytes_eq}
use Rattle.std.specs.List.{IsDistinct}
use Rattle.std.specs.FinMap.{find, contains_key, get-from_entries, retain_keys}
use Rattle.std.specs.Prelude.{◌==◌}
use Rattle.std.proofs.Math.ListN.{get_or-map}
use Rattle.std.proofs.lemmas.List.{length-map, get_or_past, map-append, get_or-map as get_or-map-at}
use Rattle.std.proofs.lemmas.Bool.{cases_lt, false≢true}
use Rattle.std.proofs.lemmas.Map.Keys.{apart_from_distinct}
use Rattle.std.proofs.lemmas.Slice.Eq.{bytes_eq-Decides}
use Rattle.lh_addr.specs.Fnv.{code_of}
use Rattle.lh_addr.specs.Growth.{address, level_of, hash_at}
use Rattle.lh_page.specs.declared.pair.Pair.{Pair}
use Rattle.lh_page.specs.Records.{keys_of, key_at, no_pair}
use Rattle.lh_bucket.specs.declared.listing.ListingFault.{ListingFault}
use Rattle.lh_bucket.specs.declared.listing.ListingFault.TheVariants.{Shape, Misplaced, Twice, Memory}
use Rattle.lh_bucket.specs.Bucket.{Head, Seen, HasOwnKeys, IsKept}
use Rattle.lh_bucket.specs.Records.{map_of, entry_of}
use Rattle.lh_bucket.specs.Listing.{IsListing, IsShape, Lists, list_at, size}
use Rattle.lh_bucket.specs.PlainMap.{Records}
use Rattle.lh_bucket.specs.ListingFault.{IsFaultOf}
use Rattle.lh_core.specs.declared.state.SplitState.TheVariants as split
use Rattle.lh_core.specs.Kept.{IsWorld, head_at}
use Rattle.lh_core.specs.Laws.{LinearHashing}
use Rattle.lh_core.specs.Listed.{IsListed}
use Rattle.lh_core.specs.World.{StandsFor, WorldSeen, bucket_at, no_bucket}
use Rattle.lh_core.proofs.Logs.Leading.{idle_filled}
use Rattle.lh_core.proofs.Logs.Running.{taken}

abbrev ties : List ℕ → List ℕ → Bool
ties x y = eq_by_cmp (slice_cmp nat_cmp) x y

ties_same : (x : List ℕ) → ties x x ≡ true
ties_same x = sym (texts_ties x x) ∙ (bytes_eq-Decides x x).1 refl

either : (t : Bool) (v : List ℕ) (o : Option (List ℕ)) → is_some o ≡ true → is_some (cond t (Some v) o) ≡ true
either true v o h = refl
either false v o h = h

-- a map made of records has the key of each
found_at : (ps : List Pair) (p : ℕ) → p < length ps →
    is_some (find (slice_cmp nat_cmp) (key_at ps p) (map entry_of ps)) ≡ true
found_at [] p h = absurd (omega (arith, h))
found_at (x ∷ ps) zero h =
    ap (λ t. is_some (cond t (Some x.value) (find (slice_cmp nat_cmp) x.key (map entry_of ps)))) (ties_same x.key)
found_at (x ∷ ps) (suc p) h =
    either (ties (key_at ps p) x.key) x.value (find (slice_cmp nat_cmp) (key_at ps p) (map entry_of ps))
    (found_at ps p (omega (arith, h)))

has_key : (ps : List Pair) (p : ℕ) → p < length ps → contains_key (map_of ps) (key_at ps p) ≡ true
unfolding map_of
has_key ps p h = ap is_some (get-from_entries nat_list_cmp_total (map entry_of ps) (key_at ps p)) ∙ found_at ps p h

-- no key stands at two places of a bucket
not_twice : {G : Type 0} (ps : List Pair) (i j : ℕ) → (b : Seen) → b.pairs ≡ ps → IsKept b → i < j → j < length ps →
    key_at ps i ≡ key_at ps j → G
not_twice ps i j b is kept less within same =
    let wide : j < length (keys_of ps) = omega (arith, within, length-map ps (λ (p : Pair). p.key)) in
    let apart : bytes_eq (get_or (keys_of ps) i []) (get_or (keys_of ps) j []) ≡ false =
    apart_from_distinct bytes_eq (keys_of ps) i j []
    (subst (λ (q : List Pair). IsDistinct bytes_eq (keys_of q)) is kept.distinct) less wide in
    let at : (n : ℕ) → get_or (keys_of ps) n [] ≡ key_at ps n = λ n. get_or-map (λ (p : Pair). p.key) ps n no_pair in
    absurd (false≢true
    (sym apart
    ∙ (bytes_eq-Decides (get_or (keys_of ps) i []) (get_or (keys_of ps) j [])).1 (at i ∙ same ∙ sym (at j))))

-- one list more is read
pub lists_more : {V B : Type 0} (f : V → List Pair) (h : B → List Pair) (vs : List V) (bs : List B) (n : ℕ) (v : V)
    (b : B) → n < length bs → b ≡ get_or bs n b → f v ≡ h b → map f vs ≡ map h (take n bs) →
    map f (vs ++ v ∷ []) ≡ map h (take (n + 1) bs)
lists_more f h vs bs n v b lt at is before =
    map-append f vs (v ∷ []) ∙ ap (λ xs. xs ++ f v ∷ []) before ∙ ap (λ x. map h (take n bs) ++ x ∷ []) is
    ∙ sym (ap (map h) (taken bs n b lt at) ∙ map-append h (take n bs) (b ∷ []))

-- what holds of every bucket holds of one more of the first buckets where it holds of that one
pub kept_more : {B : Type 0} (seen : B → Seen) (bs : List B) (n : ℕ) (b : B) → n < length bs → b ≡ get_or bs n b →
    IsKept (seen b) → ((i : ℕ) → i < n → IsKept (bucket_at (map seen bs) i)) → (i : ℕ) → i < n + 1 →
    IsKept (bucket_at (map seen bs) i)
kept_more seen bs n b lt at kept before i below =
    ⊎_elim (λ (e : i < n). before i e)
    (λ (e : n ≤ i).
    let same : n ≡ i = omega (arith, below, e) in
    subst (λ k. IsKept (bucket_at (map seen bs) k)) same
    (subst IsKept (sym (get_or-map-at seen bs n b no_bucket lt ∙ ap seen (sym at))) kept))
    (cases_lt i n)

-- what the listing of a file has in each list
pub listed : (w : WorldSeen) → IsWorld w → w.state.splitter ≡ split.Idle → (m : Records) (l : Lists) → StandsFor w m →
    l ≡ record { config = w.config; lists = map (λ (b : Seen). b.pairs) w.buckets } → size l ≡ w.state.buckets →
    IsListing l → IsListed w.config m w.state.buckets l
listed w h idle m l stands is many keeps =
    let full : w.state.filled ≡ w.state.buckets = idle_filled w.config w.state h.sound.phase idle in
    record {
      config = ap (λ (x : Lists). x.config) is;
      buckets = many;
      placed = λ i lt.
          ap (λ (x : Lists). map_of (list_at x.lists i)) is
          ∙ ap map_of (get_or-map (λ (b : Seen). b.pairs) w.buckets i no_bucket)
          ∙ stands.each i (subst (λ n. i < n) (many ∙ sym full) lt)
          ∙ ap (λ (n : ℕ). retain_keys m (λ key. address w.config.initial n (code_of key) == i)) (full ∙ sym many);
      listing = keeps;
    }

module _ (g : LinearHashing) (w : WorldSeen) (h : IsWorld w) (idle : w.state.splitter ≡ split.Idle)
    (kept : (i : ℕ) → i < length w.buckets → IsKept (bucket_at w.buckets i)) where
  abbrev lists : List (List Pair)
  lists = map (λ (b : Seen). b.pairs) w.buckets

  full : w.state.filled ≡ w.state.buckets
  full = idle_filled w.config w.state h.sound.phase idle

  shape : IsShape w.config w.state.buckets lists
  shape =
      record {
        from_initial = h.sound.from_initial;
        to_max = h.sound.to_max;
        each = length-map w.buckets (λ (b : Seen). b.pairs) ∙ h.row.all ∙ full;
      }

  at : (i : ℕ) → list_at lists i ≡ (bucket_at w.buckets i).pairs
  at i = get_or-map (λ (b : Seen). b.pairs) w.buckets i no_bucket

  within : (i p : ℕ) → p < length (list_at lists i) → i < length w.buckets
  within i p lt =
      ⊎_elim (λ (e : i < length w.buckets). e)
      (λ (e : length w.buckets ≤ i).
      let none : length (list_at lists i) ≡ 0 =
      ap length (at i ∙ ap (λ (b : Seen). b.pairs) (get_or_past w.buckets i no_bucket e)) in
      absurd (omega (arith, none, lt)))
      (cases_lt i (length w.buckets))

  home : (i p : ℕ) → p < length (list_at lists i) →
      address w.config.initial w.state.buckets (code_of (key_at (list_at lists i) p)) ≡ i
  home i p lt =
      let b : Seen = bucket_at w.buckets i in
      let in_row : i < w.state.filled = subst (λ n. i < n) h.row.all (within i p lt) in
      let headed : HasOwnKeys (head_at w.config w.state.filled i) b.pairs (head_at w.config w.state.filled i).level =
      subst (λ (x : Head). HasOwnKeys x b.pairs x.level) (h.row.heads i in_row) (kept i (within i p lt)).home in
      let has : contains_key (map_of b.pairs) (key_at b.pairs p) ≡ true =
      has_key b.pairs p (subst (λ (ps : List Pair). p < length ps) (at i) lt) in
      let leads : hash_at w.config.initial (level_of w.config.initial w.state.filled i) (code_of (key_at b.pairs p)) ≡
      i =
      headed.1 (key_at b.pairs p) has in
      let there : address w.config.initial w.state.filled (code_of (key_at b.pairs p)) ≡ i =
      (g.address w.config.initial w.state.filled (code_of (key_at b.pairs p)) i h.sound.some
      (subst (λ n. w.config.initial ≤ n) (sym full) h.sound.from_initial)).1 (in_row, leads) in
      subst (λ (ps : List Pair). address w.config.initial w.state.buckets (code_of (key_at ps p)) ≡ i) (sym (at i))
      (subst (λ n. address w.config.initial n (code_of (key_at b.pairs p)) ≡ i) full there)

  -- so the only fault is out of memory
  pub no_fault : (f : ListingFault) → (f ≡ Memory → ⊥) → IsFaultOf w.config w.state.buckets lists f → ⊥
  no_fault Shape m f = f shape
  no_fault (Misplaced i p) m f = f.1.fault (home i p f.1.within)
  no_fault (Twice i p) m f =
      not_twice (list_at lists i) f.2.fault.0 p (bucket_at w.buckets i) (sym (at i)) (kept i (within i p f.2.within))
      f.2.fault.1 f.2.within f.2.fault.2
  no_fault Memory m f = m refl
