-- What settled shards list stands in their own shards.
use Rattle.std.proofs.Common.{zero, suc, ◌≡◌, ℕ, ◌<◌, ◌≤◌, ◌==◌, Bool, true, false, cond, eqb, List, [], ◌∷◌, length}
use Rattle.std.proofs.Common.{min, take, Option, Some, None, is_some, refl, sym, ap, ◌∙◌, subst, ⊎_elim, arith}
use borrow.Author.Tests.{eq-eqb}
use Rattle.std.specs.FinMap.{get, retain_keys, get-retain_keys, slice_cmp-IsAntisymmetric, nat_cmp-IsAntisymmetric}
use Rattle.std.specs.List.{slice_get}
use Rattle.std.proofs.lemmas.Bool.{cases_lt}
use Rattle.std.proofs.lemmas.Bool.Decides.{eqb_tells}
use Rattle.std.proofs.lemmas.List.Elements.{All-head, All-tail}
use Rattle.std.proofs.lemmas.List.{get_or-take, get_or_past, length-take}
use Rattle.std.proofs.lemmas.Option.{slice_get_within}
use Rattle.lh_addr.specs.Fnv.{code_of}
use Rattle.lh_addr.specs.Growth.{address}
use Rattle.lh_addr.specs.RootWord.{buckets_of}
use Rattle.lh_page.specs.Records.{key_at}
use Rattle.lh_page.specs.declared.pair.Pair.{Pair}
use Rattle.lh_bucket.specs.Listing.{Lists, EachPlace, list_at}
use Rattle.lh_bucket.specs.PlainMap.{Records, after, key_of, outcome}
use Rattle.lh_bucket.specs.Records.{map_of}
use Rattle.lh_settling.specs.Acts.{calls_of}
use Rattle.lh_settling.specs.ClosedFile.{ClosedFile}
use Rattle.lh_settling.specs.Settled.{map_in, left_by, HoldsMap, IsSettled}
use Rattle.lh_settling.specs.declared.act.ActLine.{ActLine}
use Rattle.lh_shards.specs.Hands.{AreAtHome}
use Rattle.lh_shards.specs.Listings.{ListedLaw, listing_of}
use Rattle.lh_shards.specs.Number.{home_of}
use Rattle.lh_shards.specs.Opening.{IsHomeIn}
use Rattle.lh_shards.specs.declared.closed_shard.ClosedShard.{ClosedShard}
use Rattle.lh_shards.proofs.Parts.{Shows, after_here}
use Rattle.lh_shards.proofs.Places.{there}
use Rattle.lh_shards.proofs.Settled.{history_home}
use Rattle.lh_shards.proofs.Wholes.{ties, get_first, in_own, itself}

-- a key that is in a map
abbrev Has : Records → List ℕ → Type 0
Has m key = is_some (get m key) ≡ true

no_none : ◌≡◌ {A = Bool} false true → ⊥
no_none e = cc

-- no key of the map belongs to another shard
abbrev Own : ℕ → ℕ → Records → Type 0
Own n shard m = Shows (λ key. eqb (home_of n key) shard) m m

own_home : (n shard : ℕ) (m : Records) (key : List ℕ) → Own n shard m → Has m key → home_of n key ≡ shard
own_home n shard m key own has =
    ⊎_elim
    (λ e. e.1)
    (λ e. absurd (no_none (ap is_some (sym (own key ∙ ap (λ b. cond b (get m key) None) e.0)) ∙ has)))
    (eqb_tells (home_of n key) shard)

-- acts whose keys belong to the shard leave it such a map
own_left : (n shard : ℕ) (history : List ActLine) (m : Records) → AreAtHome n shard history → Own n shard m →
    Own n shard (outcome m (calls_of history))
own_left n shard [] m home own = own
own_left n shard (act ∷ history) m home own =
    own_left n shard history (after m act.call)
    (All-tail (λ (a : ActLine). home_of n (key_of a.call) ≡ shard) act history home)
    (after_here (λ key. eqb (home_of n key) shard) m m own act.call
    (eq-eqb _ _ (All-head (λ (a : ActLine). home_of n (key_of a.call) ≡ shard) act history home)))

still_some : {X : Type 0} (b : Bool) (x : X) (o : Option X) → is_some o ≡ true → is_some (cond b (Some x) o) ≡ true
still_some true x o h = refl
still_some false x o h = h

-- the key of a record is in the map of the records
has_key : (ps : List Pair) (place : ℕ) → place < length ps → Has (map_of ps) (key_at ps place)
has_key [] place lt = absurd (omega arith)
has_key (p ∷ ps) zero lt =
    ap is_some (get_first p ps p.key ∙ ap (λ b. cond b (Some p.value) (get (map_of ps) p.key)) (itself p.key))
has_key (p ∷ ps) (suc place) lt =
    let key : List ℕ = key_at ps place in
    ap is_some (get_first p ps key)
    ∙ still_some (ties key p.key) p.value (get (map_of ps) key) (has_key ps place (omega arith))

from_cond : {X : Type 0} (b : Bool) (o : Option X) → is_some (cond b o None) ≡ true → is_some o ≡ true
from_cond true o h = h
from_cond false o h = absurd (no_none h)

has_retained : (m : Records) (f : List ℕ → Bool) (key : List ℕ) → Has (retain_keys m f) key → Has m key
has_retained m f key has =
    from_cond (f key) (get m key)
    (ap is_some
    (sym
    (get-retain_keys m f key
    (λ x e. ap f (sym (slice_cmp-IsAntisymmetric nat_cmp-IsAntisymmetric key x e))))) ∙ has)

-- a record that stands in a bucket of a closed file is in the map that the file holds
held : (closed : ClosedFile) (m : Records) (bucket place : ℕ) → HoldsMap closed m → bucket < buckets_of closed.root →
    place < length (list_at closed.lists bucket) → Has m (key_at (list_at closed.lists bucket) place)
held closed m bucket place holds lt within =
    let key : List ℕ = key_at (list_at closed.lists bucket) place in
    has_retained m (λ k. address closed.config.initial (buckets_of closed.root) (code_of k) == bucket) key
    (subst (λ (x : Records). Has x key) (holds.each bucket lt) (has_key (list_at closed.lists bucket) place within))

-- a bucket of a listing is one of the closed file
taken : (size bucket place : ℕ) (lists : List (List Pair)) → place < length (list_at (take size lists) bucket) →
    (bucket < size) × (list_at (take size lists) bucket ≡ list_at lists bucket)
taken size bucket place lists within =
    let long : length (take size lists) ≡ min size (length lists) = length-take size lists in
    ⊎_elim
    (λ (lt : bucket < size). (lt, get_or-take size lists bucket [] lt))
    (λ (past : size ≤ bucket).
    absurd (omega (arith, within, ap length (get_or_past (take size lists) bucket [] (omega (arith, long, past))))))
    (cases_lt bucket size)

closed_home : (n shard : ℕ) (closed : ClosedFile) (m : Records) (bucket place : ℕ) → Own n shard m → HoldsMap closed m →
    place < length (list_at (listing_of closed).lists bucket) →
    home_of n (key_at (list_at (listing_of closed).lists bucket) place) ≡ shard
closed_home n shard closed m bucket place own holds within =
    let is : (bucket < buckets_of closed.root)
    × (list_at (take (buckets_of closed.root) closed.lists) bucket ≡ list_at closed.lists bucket) =
    taken (buckets_of closed.root) bucket place closed.lists within in
    subst (λ (ps : List Pair). home_of n (key_at ps place) ≡ shard) (sym is.1)
    (own_home n shard m (key_at (list_at closed.lists bucket) place) own
    (held closed m bucket place holds is.0 (subst (λ (ps : List Pair). place < length ps) is.1 within)))

-- the records that settled shards list stand in their own shards, where those that they were opened with did
pub listed_law : ListedLaw
listed_law openings listings shards histories n home are settled listed shard listing at =
    let many : length listings ≡ length shards = listed.count in
    let long : length histories ≡ length shards = settled.count in
    let lt : shard < length listings = slice_get_within listings shard listing at in
    let closed : (x : ClosedShard) × (slice_get shards shard ≡ Some x) = there shards shard (omega (arith, lt, many)) in
    let opening : (x : Lists) × (slice_get openings shard ≡ Some x) =
    there openings shard (omega (arith, lt, many, n)) in
    let history : (x : List ActLine) × (slice_get histories shard ≡ Some x) =
    there histories shard (omega (arith, lt, many, long)) in
    let is : IsSettled opening.0 closed.0.closed closed.0.acts history.0 =
    settled.each shard opening.0 closed.0 history.0 opening.1 closed.1 history.1 in
    let from : Own (length shards) shard (map_in opening.0) =
    subst (λ k. Own k shard (map_in opening.0)) n
    (in_own (length openings) shard opening.0 (home shard opening.0 opening.1)) in
    let own : Own (length shards) shard (left_by opening.0 history.0) =
    own_left (length shards) shard history.0 (map_in opening.0)
    (history_home (length shards) shard opening.0 closed.0 history.0 is (are.home shard closed.0 closed.1)) from in
    subst (λ (l : Lists). EachPlace (IsHomeIn (length listings) shard) l.lists)
    (sym (listed.each shard closed.0 listing closed.1 at))
    (λ bucket place within.
    subst (λ k. home_of k (key_at (list_at (listing_of closed.0.closed).lists bucket) place) ≡ shard) (sym many)
    (closed_home (length shards) shard closed.0.closed (left_by opening.0 history.0) bucket place own is.placed within))
