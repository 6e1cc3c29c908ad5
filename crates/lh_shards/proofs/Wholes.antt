-- Listings whose records stand in their own shards are the parts of the map of them all.
use Rattle.std.proofs.Common.{zero, suc, ◌≡◌, ◌≢◌, ℕ, ◌+◌, ◌<◌, ◌==◌, Bool, true, false, cond, eqb, List, [], ◌∷◌, ◌++◌}
use Rattle.std.proofs.Common.{length, Option, Some, None, refl, sym, ap, ◌∙◌, subst, ⊎_elim, arith}
use Rattle.std.specs.FinMap.{get, get-empty, get-insert}
use Rattle.std.specs.List.{slice_get}
use Rattle.std.specs.Ordering.{nat_cmp, eq_by_cmp}
use Rattle.std.specs.Cmp.Lexicographic.{slice_cmp, nat_list_cmp_total, texts_ties}
use borrow.Author.Tests.{eq-eqb}
use Rattle.std.proofs.lemmas.Bool.Decides.{eqb_tells}
use Rattle.std.proofs.lemmas.Option.{none-some, same_Some}
use Rattle.std.proofs.lemmas.Slice.Eq.{bytes_eq-Decides}
use Rattle.lh_page.specs.Records.{key_at}
use Rattle.lh_page.specs.declared.pair.Pair.{Pair}
use Rattle.lh_bucket.specs.Listing.{Lists, EachPlace, all_of}
use Rattle.lh_bucket.specs.Records.{map_of}
use Rattle.lh_settling.specs.Settled.{map_in}
use Rattle.lh_shards.specs.Number.{home_of}
use Rattle.lh_shards.specs.Opening.{AreHome, IsHomeIn, all_records, whole_of}
use Rattle.lh_shards.specs.Settling.{AreParts}

true_false : ◌≡◌ {A = Bool} true false → ⊥
true_false e = cc

-- the first of two, or the second where the first is none
or_else : {X : Type 0} → Option X → Option X → Option X
or_else (Some x) o = Some x
or_else None o = o

-- whether two keys are the same
pub ties : List ℕ → List ℕ → Bool
ties q k = eq_by_cmp (slice_cmp nat_cmp) q k

tied : (q k : List ℕ) → ties q k ≡ true → q ≡ k
unfolding ties
tied q k h = (bytes_eq-Decides q k).0 (texts_ties q k ∙ h)

-- a key is the same as itself
pub itself : (key : List ℕ) → ties key key ≡ true
unfolding ties
itself key = sym (texts_ties key key) ∙ (bytes_eq-Decides key key).1 refl

get_none : (q : List ℕ) → get (map_of []) q ≡ None
unfolding map_of
get_none q = get-empty (slice_cmp nat_cmp) q

-- the map of some records has of a key the first one's value where it is that one's key, else what the others have
pub get_first : (p : Pair) (ps : List Pair) (q : List ℕ) →
    get (map_of (p ∷ ps)) q ≡ cond (ties q p.key) (Some p.value) (get (map_of ps) q)
unfolding map_of ties
get_first p ps q = get-insert nat_list_cmp_total (map_of ps) p.key p.value q

first_or : {X : Type 0} (b : Bool) (x : X) (o p : Option X) →
    cond b (Some x) (or_else o p) ≡ or_else (cond b (Some x) o) p
unfolding or_else
first_or true x o p = refl
first_or false x o p = refl

-- the map of two lists of records
get_both : (ps qs : List Pair) (q : List ℕ) →
    get (map_of (ps ++ qs)) q ≡ or_else (get (map_of ps) q) (get (map_of qs) q)
unfolding or_else
get_both [] qs q = ap (λ (o : Option (List ℕ)). or_else o (get (map_of qs) q)) (sym (get_none q))
get_both (p ∷ ps) qs q =
    get_first p (ps ++ qs) q ∙ ap (cond (ties q p.key) (Some p.value)) (get_both ps qs q)
    ∙ first_or (ties q p.key) p.value (get (map_of ps) q) (get (map_of qs) q)
    ∙ ap (λ (o : Option (List ℕ)). or_else o (get (map_of qs) q)) (sym (get_first p ps q))

-- each record's key belongs to the shard
abbrev AllIn : ℕ → ℕ → List Pair → Type 0
AllIn n shard ps = (place : ℕ) → place < length ps → home_of n (key_at ps place) ≡ shard

all_later : (n shard : ℕ) (p : Pair) (ps : List Pair) → AllIn n shard (p ∷ ps) → AllIn n shard ps
all_later n shard p ps h place lt = h (suc place) (omega arith)

skip : {X : Type 0} (b : Bool) (x : X) (o : Option X) → (b ≡ true → ⊥) → cond b (Some x) o ≡ o
skip true x o h = absurd (h refl)
skip false x o h = refl

-- a key that belongs elsewhere is in no map of such records
none_elsewhere : (n shard : ℕ) (ps : List Pair) (q : List ℕ) → AllIn n shard ps → home_of n q ≢ shard →
    get (map_of ps) q ≡ None
none_elsewhere n shard [] q h ne = get_none q
none_elsewhere n shard (p ∷ ps) q h ne =
    get_first p ps q
    ∙ skip (ties q p.key) p.value (get (map_of ps) q) (λ t. ne (ap (home_of n) (tied q p.key t) ∙ h 0 (omega arith)))
    ∙ none_elsewhere n shard ps q (all_later n shard p ps h) ne

-- of lists of records, each of which has keys of one shard
all_both : (n shard : ℕ) (ps qs : List Pair) → AllIn n shard ps → AllIn n shard qs → AllIn n shard (ps ++ qs)
all_both n shard [] qs h g place lt = g place lt
all_both n shard (p ∷ ps) qs h g zero lt = h 0 (omega arith)
all_both n shard (p ∷ ps) qs h g (suc place) lt =
    all_both n shard ps qs (all_later n shard p ps h) g place (omega arith)

all_in : (n shard : ℕ) (lists : List (List Pair)) → EachPlace (IsHomeIn n shard) lists → AllIn n shard (all_of lists)
all_in n shard [] h place lt = absurd (omega arith)
all_in n shard (ps ∷ lists) h place lt =
    all_both n shard ps (all_of lists) (λ p within. h 0 p within)
    (all_in n shard lists (λ bucket p within. h (suc bucket) p within)) place lt

-- listings from a shard on, each with keys of its own shard
abbrev HomeFrom : ℕ → ℕ → List Lists → Type 0
HomeFrom n first listings =
    (i : ℕ) (listing : Lists) → slice_get listings i ≡ Some listing → EachPlace (IsHomeIn n (first + i)) listing.lists

home_later : (n first : ℕ) (listing : Lists) (listings : List Lists) → HomeFrom n first (listing ∷ listings) →
    HomeFrom n (suc first) listings
home_later n first listing listings h i other at =
    let e : first + suc i ≡ suc first + i = omega arith in
    subst (λ (k : ℕ). EachPlace (IsHomeIn n k) other.lists) e (h (suc i) other at)

none_later : (n first : ℕ) (listings : List Lists) (q : List ℕ) → HomeFrom n first listings → home_of n q < first →
    get (map_of (all_records listings)) q ≡ None
unfolding or_else
none_later n first [] q h lt = get_none q
none_later n first (listing ∷ listings) q h lt =
    get_both (all_of listing.lists) (all_records listings) q
    ∙ ap (λ (o : Option (List ℕ)). or_else o (get (map_of (all_records listings)) q))
    (none_elsewhere n (first + 0) (all_of listing.lists) q (all_in n (first + 0) listing.lists (h 0 listing refl))
    (λ e. omega (arith, lt, e)))
    ∙ none_later n (suc first) listings q (home_later n first listing listings h) (omega arith)

or_none : {X : Type 0} (o : Option X) → or_else o None ≡ o
unfolding or_else
or_none (Some x) = refl
or_none None = refl

-- a key stands in the map of all listings as in that of its own
found_in : (n first : ℕ) (listings : List Lists) (q : List ℕ) (i : ℕ) (listing : Lists) → HomeFrom n first listings →
    slice_get listings i ≡ Some listing → home_of n q ≡ first + i →
    get (map_of (all_records listings)) q ≡ get (map_in listing) q
unfolding or_else
found_in n first [] q i listing h at is = absurd (none-some listing at)
found_in n first (other ∷ listings) q zero listing h at is =
    let same : other ≡ listing = same_Some other listing at in
    get_both (all_of other.lists) (all_records listings) q
    ∙ ap (λ (o : Option (List ℕ)). or_else (get (map_of (all_of other.lists)) q) o)
    (none_later n (suc first) listings q (home_later n first other listings h) (omega (arith, is)))
    ∙ or_none (get (map_of (all_of other.lists)) q)
    ∙ ap (λ (l : Lists). get (map_in l) q) same
found_in n first (other ∷ listings) q (suc i) listing h at is =
    get_both (all_of other.lists) (all_records listings) q
    ∙ ap (λ (o : Option (List ℕ)). or_else o (get (map_of (all_records listings)) q))
    (none_elsewhere n (first + 0) (all_of other.lists) q (all_in n (first + 0) other.lists (h 0 other refl))
    (λ e. omega (arith, is, e)))
    ∙ found_in n (suc first) listings q i listing (home_later n first other listings h) at (omega (arith, is))

part_of : (b : Bool) (p w : Option (List ℕ)) → (b ≡ true → w ≡ p) → (b ≡ false → p ≡ None) → p ≡ cond b w None
part_of true p w here away = sym (here refl)
part_of false p w here away = away refl

-- listings whose records stand in their own shards are the parts of the map of them all
pub home_are_parts : (listings : List Lists) → AreHome listings → AreParts (whole_of listings) listings
home_are_parts listings home i listing at key =
    let n : ℕ = length listings in
    part_of (home_of n key == i) (get (map_in listing) key) (get (whole_of listings) key)
    (λ is.
    found_in n 0 listings key i listing
    (λ k other ko. subst (λ (j : ℕ). EachPlace (IsHomeIn n j) other.lists) (omega arith) (home k other ko)) at
    (⊎_elim (λ e. e.1 ∙ omega arith) (λ e. absurd (true_false (sym is ∙ e.0))) (eqb_tells (home_of n key) i)))
    (λ away.
    none_elsewhere n i (all_of listing.lists) key (all_in n i listing.lists (home i listing at))
    (λ e. absurd (true_false (sym (eq-eqb (home_of n key) i e) ∙ away))))

own_cases : (b : Bool) (o : Option (List ℕ)) → (b ≡ false → o ≡ None) → o ≡ cond b o None
own_cases true o away = refl
own_cases false o away = away refl

-- no key of the map of a listing whose records stand in their own shard belongs elsewhere
pub in_own : (n shard : ℕ) (listing : Lists) → EachPlace (IsHomeIn n shard) listing.lists → (key : List ℕ) →
    get (map_in listing) key ≡ cond (eqb (home_of n key) shard) (get (map_in listing) key) None
in_own n shard listing home key =
    own_cases (eqb (home_of n key) shard) (get (map_in listing) key)
    (λ away.
    none_elsewhere n shard (all_of listing.lists) key (all_in n shard listing.lists home)
    (λ e. absurd (true_false (sym (eq-eqb (home_of n key) shard e) ∙ away))))
