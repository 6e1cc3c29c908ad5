-- Keys that stand twice in a list, and places in lists of lists.
use Rattle.std.proofs.Common.{◌≡◌, ℕ, zero, suc, ◌+◌, ◌<◌, ◌≤◌, Bool, true, false, cond, ◌⊎◌, inl, inr, ⊎_elim, List}
use Rattle.std.proofs.Common.{[], Option, Some, None, map, length, get_or, refl, sym, ap, subst, ◌∙◌, arith}
use Rattle.std.specs.Bool.{IsTrue}
use Rattle.std.specs.Ordering.{nat_cmp}
use Rattle.std.specs.Cmp.Lexicographic.{slice_cmp, texts_ties}
use Rattle.std.specs.BTreeMap.{is_at}
use Rattle.std.proofs.lemmas.Bool.{cases_lt, false≢true, false_from_ne_true}
use Rattle.std.proofs.lemmas.List.{get_or_default, length-map, length-replicate}
use Rattle.std.proofs.Math.ListN.{get_or-map, replicate}
use Rattle.std.proofs.lemmas.Map.Keys.{IsDistinct-from_apart}
use Rattle.std.specs.List.{IsDistinct, All}
use Rattle.std.specs.Str.{bytes_eq}
use Rattle.lh_addr.specs.Settings.{Settings, IsInRange}
use Rattle.std.proofs.lemmas.Slice.Eq.{bytes_eq-Decides}
use Rattle.lh_page.specs.declared.pair.Pair.{Pair}
use Rattle.lh_page.specs.Records.{keys_of, key_at, no_pair, IsRecord}
use Rattle.std.specs.Option.{IfNone, IfSome}
use Rattle.lh_bucket.specs.declared.listing.ListingFault.{ListingFault}
use Rattle.lh_bucket.specs.declared.listing.ListingFault.TheVariants.{Shape, Misplaced, Twice, Memory}
use Rattle.lh_bucket.specs.ListingFault.{few, IsFaultAmong, IsFaultOf, IsTwiceAmong, IsTwiceIn}
use Rattle.lh_bucket.specs.Listing.{PlaceFact, IsNew, IsAgain, IsHome, IsShape, IsListing, EachPlace, list_at}
use Rattle.lh_bucket.proofs.MapOf.{equals}

-- the key of a record that a loop reads
pub key_read : (ps : List Pair) (n : ℕ) (p : Pair) → n < length ps → p ≡ get_or ps n p → key_at ps n ≡ p.key
key_read ps n p below is = ap (λ (q : Pair). q.key) (get_or_default ps n no_pair p below ∙ sym is)

found_itself : (key : List ℕ) → is_at (slice_cmp nat_cmp key) key ≡ true
found_itself key = sym (texts_ties key key) ∙ (bytes_eq-Decides key key).1 refl

found_equal : (key q : List ℕ) → is_at (slice_cmp nat_cmp key) q ≡ true → key ≡ q
found_equal key q h = equals key q (texts_ties key q ∙ h)

still : (t b : Bool) → b ≡ true → cond t true b ≡ true
still true b h = refl
still false b h = h

either_way : (t b : Bool) → cond t true b ≡ true → (t ≡ true) ⊎ (b ≡ true)
either_way true b h = inl refl
either_way false b h = inr h

last_or_before : (p n : ℕ) → p < n + 1 → (p < n) ⊎ (p ≡ n)
last_or_before p n h = ⊎_elim (λ (below : p < n). inl below) (λ (above : n ≤ p). inr (omega arith)) (cases_lt p n)

-- what a set of keys is, of the first records of a list, none of whose keys stands twice
pub record IsSeen (ps : List Pair) (n : ℕ) (member : List ℕ → Bool) : Type 0 where
  pub has : (p : ℕ) → p < n → IsTrue (member (key_at ps p))
  pub only : (q : List ℕ) → IsTrue (member q) → (p : ℕ) × (p < n) × (key_at ps p ≡ q)
  pub new : (p : ℕ) → p < n → IsNew 0 ps p

-- one record more, whose key was not in the set
pub seen_more : (ps : List Pair) (n : ℕ) (key : List ℕ) (member member' : List ℕ → Bool) → key_at ps n ≡ key →
    member key ≡ false → ((q : List ℕ) → member' q ≡ cond (is_at (slice_cmp nat_cmp key) q) true (member q)) →
    IsSeen ps n member → IsSeen ps (n + 1) member'
seen_more ps n key member member' at none adds seen = record {
  has = λ p below. ⊎_elim
      (λ (before : p < n).
      adds (key_at ps p)
      ∙ still (is_at (slice_cmp nat_cmp key) (key_at ps p)) (member (key_at ps p)) (seen.has p before))
      (λ (last : p ≡ n).
      ap member' (ap (key_at ps) last ∙ at) ∙ adds key ∙ ap (λ t. cond t true (member key)) (found_itself key))
      (last_or_before p n below);
  only = λ q there. ⊎_elim
      (λ (own : is_at (slice_cmp nat_cmp key) q ≡ true). (n, omega arith, at ∙ found_equal key q own))
      (λ (before : member q ≡ true). let e = seen.only q before in (e.0, omega (arith, e.1), e.2))
      (either_way (is_at (slice_cmp nat_cmp key) q) (member q) (sym (adds q) ∙ there));
  new = λ p below. ⊎_elim
      (λ (before : p < n). seen.new p before)
      (λ (last : p ≡ n). λ earlier lower same.
      let within : earlier < n = omega arith in
      absurd (false≢true (sym none ∙ sym (ap member (same ∙ ap (key_at ps) last ∙ at)) ∙ seen.has earlier within)))
      (last_or_before p n below);
}

-- a fact holds at each place of the lists before a bucket
abbrev pub EachBefore : PlaceFact → List (List Pair) → ℕ → Type 0
EachBefore Good lists n = (b p : ℕ) → b < n → p < length (list_at lists b) → Good b (list_at lists b) p

-- the list of a bucket that a loop reads
pub list_read : {V : Type 0} (f : V → List Pair) (vs : List V) (n : ℕ) (v : V) → n < length vs → v ≡ get_or vs n v →
    list_at (map f vs) n ≡ f v
list_read f vs n v below is =
    let within : n < length (map f vs) = omega (arith, length-map vs f) in
    get_or_default (map f vs) n [] (f v) within ∙ get_or-map f vs n v ∙ ap f (sym is)

-- one list more
pub each_more : (Good : PlaceFact) (lists : List (List Pair)) (n : ℕ) (ps : List Pair) → list_at lists n ≡ ps →
    ((p : ℕ) → p < length ps → Good n ps p) → EachBefore Good lists n → EachBefore Good lists (n + 1)
each_more Good lists n ps is good before b p below within = ⊎_elim
    (λ (earlier : b < n). before b p earlier within)
    (λ (last : b ≡ n).
    let at : list_at lists b ≡ ps = ap (list_at lists) last ∙ is in
    let within' : p < length ps = subst (λ (qs : List Pair). p < length qs) at within in
    subst (λ (qs : List Pair). Good b qs p) (sym at) (subst (λ m. Good m ps p) (sym last) (good p within')))
    (last_or_before b n below)

-- what holds of the lists before a bucket, and of its list, holds of one list more
pub all_more : (P : Pair → Type 0) (lists : List (List Pair)) (n : ℕ) (ps : List Pair) → list_at lists n ≡ ps →
    All P ps → ((b : ℕ) → b < n → All P (list_at lists b)) → (b : ℕ) → b < n + 1 → All P (list_at lists b)
all_more P lists n ps is all before b below = ⊎_elim
    (λ (earlier : b < n). before b earlier)
    (λ (last : b ≡ n). subst (All P) (sym (ap (list_at lists) last ∙ is)) all)
    (last_or_before b n below)

-- a list without a key twice
pub distinct_new : (ps : List Pair) → ((p : ℕ) → p < length ps → IsNew 0 ps p) → IsDistinct bytes_eq (keys_of ps)
distinct_new ps new = IsDistinct-from_apart bytes_eq (keys_of ps) (λ i j d lt below.
    let many : length (keys_of ps) ≡ length ps = length-map ps (λ p. p.key) in
    let ib : i < length (keys_of ps) = omega arith in
    let jb : j < length ps = omega arith in
    false_from_ne_true _ (λ same.
    new j jb i lt
    (sym (get_or-map (λ (p : Pair). p.key) ps i no_pair) ∙ get_or_default (keys_of ps) i [] d ib
    ∙ equals _ _ same
    ∙ sym (get_or_default (keys_of ps) j [] d below) ∙ get_or-map (λ (p : Pair). p.key) ps j no_pair)))

-- lists without a fault
pub listing_made : (config : Settings) (buckets : ℕ) (lists : List (List Pair)) → IsInRange config →
    IsShape config buckets lists → EachPlace (IsHome config.initial buckets) lists →
    ((bucket : ℕ) → All IsRecord (list_at lists bucket)) → EachPlace IsNew lists →
    IsListing (record { config = config; lists = lists })
listing_made config buckets lists range shape home records new = record {
  config = range;
  shape =
      record {
        from_initial = omega (arith, shape.from_initial, shape.each);
        to_max = omega (arith, shape.to_max, shape.each);
        each = refl;
      };
  records = records;
  home = subst (λ n. EachPlace (IsHome config.initial n) lists) (sym shape.each) home;
  distinct = λ bucket. distinct_new (list_at lists bucket) (λ p within. new bucket p within);
}

none_at : (n b : ℕ) → get_or {A = List Pair} (replicate n []) b [] ≡ []
none_at zero b = refl
none_at (suc n) zero = refl
none_at (suc n) (suc b) = none_at n b

nowhere : {G : Type 0} (n b p : ℕ) → p < length (list_at (replicate n []) b) → G
nowhere n b p within = absurd (omega (arith, ap length (none_at n b)))

-- lists without records
pub listing_empty : (config : Settings) → IsInRange config →
    IsListing (record { config = config; lists = replicate config.initial [] })
listing_empty config range =
    let many : length (replicate {A = List Pair} config.initial []) ≡ config.initial =
    length-replicate config.initial [] in
    record {
      config = range;
      shape = record { from_initial = omega arith; to_max = omega (arith, range.max.0); each = refl };
      records = λ b p _ within. nowhere config.initial b p within;
      home = λ b p within. nowhere config.initial b p within;
      distinct =
          λ b. distinct_new (list_at (replicate config.initial []) b) (λ p within. nowhere config.initial b p within);
    }

-- no key stands twice in the lists up to a bucket, where none does in the lists before it and none in its own
pub none_twice : (lists : List (List Pair)) (n : ℕ) (ps : List Pair) (found result : Option ListingFault) →
    list_at lists n ≡ ps → IfNone result (found ≡ None) → IfNone result ((p : ℕ) → p < length ps → IsNew 0 ps p) →
    IfNone found (EachBefore IsNew lists n) → IfNone result (EachBefore IsNew lists (n + 1))
none_twice lists n ps found None at none new before =
    each_more IsNew lists n ps at new (subst (λ r. IfNone r (EachBefore IsNew lists n)) none before)
none_twice lists n ps found (Some fault) at none new before = tt

-- the same of a list in which no key stands twice, so that nothing new is found
pub none_twice_more : (lists : List (List Pair)) (n : ℕ) (ps : List Pair) (found : Option ListingFault) →
    list_at lists n ≡ ps → ((p : ℕ) → p < length ps → IsNew 0 ps p) → IfNone found (EachBefore IsNew lists n) →
    IfNone found (EachBefore IsNew lists (n + 1))
none_twice_more lists n ps None at new before = each_more IsNew lists n ps at new before
none_twice_more lists n ps (Some fault) at new before = tt

-- the first key that stands twice in the list of a bucket is the first in all lists, where none stands twice before it
first_there : (lists : List (List Pair)) (n : ℕ) (ps : List Pair) → list_at lists n ≡ ps → EachBefore IsNew lists n →
    (fault : ListingFault) → IsTwiceIn n ps fault → IsTwiceAmong lists fault
first_there lists n ps at before Shape twice = twice
first_there lists n ps at before (Misplaced bucket place) twice = twice
first_there lists n ps at before (Twice bucket place) (own, within, again, new) =
    let here : list_at lists bucket ≡ ps = ap (list_at lists) own ∙ at in
    record {
      within = subst (λ (qs : List Pair). place < length qs) (sym here) within;
      fault = subst (λ (qs : List Pair). IsAgain bucket qs place) (sym here) again;
      here = subst (λ (qs : List Pair). (p : ℕ) → p < place → IsNew bucket qs p) (sym here) new;
      before = subst (λ m. EachBefore IsNew lists m) (sym own) before;
    }
first_there lists n ps at before Memory long = (n, subst (λ (qs : List Pair). few < length qs) (sym at) long)

-- a key that stands twice is kept in mind, or is the first
pub first_twice : (lists : List (List Pair)) (n : ℕ) (ps : List Pair) (found result : Option ListingFault) →
    list_at lists n ≡ ps → IfSome result (λ fault. (found ≡ Some fault) ⊎ ((found ≡ None) × IsTwiceIn n ps fault)) →
    IfNone found (EachBefore IsNew lists n) → IfSome found (IsTwiceAmong lists) → IfSome result (IsTwiceAmong lists)
first_twice lists n ps found None at twice before among = tt
first_twice lists n ps found (Some fault) at twice before among = ⊎_elim
    (λ (known : found ≡ Some fault). subst (λ r. IfSome r (IsTwiceAmong lists)) known among)
    (λ (new : (found ≡ None) × IsTwiceIn n ps fault).
    first_there lists n ps at (subst (λ r. IfNone r (EachBefore IsNew lists n)) new.0 before) fault new.1)
    twice

-- the first fault of lists of which there are as many as buckets is their first fault
pub fault_is_first : (config : Settings) (buckets : ℕ) (lists : List (List Pair)) → IsShape config buckets lists →
    (fault : ListingFault) → IsFaultAmong config.initial buckets lists fault → IsFaultOf config buckets lists fault
fault_is_first config buckets lists shape Shape fault = absurd fault
fault_is_first config buckets lists shape (Misplaced bucket place) fault = (shape, fault)
fault_is_first config buckets lists shape (Twice bucket place) fault = (shape, fault.0, fault.1)
fault_is_first config buckets lists shape Memory fault = (shape, fault.0, fault.1)
