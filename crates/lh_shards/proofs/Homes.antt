-- Records that stand in their own shards, one bucket and one listing after another
use Rattle.std.proofs.Common.{◌≡◌, ℕ, ◌+◌, ◌-◌, ◌^◌, ◌<◌, ◌≤◌, ◌⊎◌, Bool, List, [], length, min, Some, inl, inr, sym}
use Rattle.std.proofs.Common.{ap, ◌∙◌, subst, ⊎_elim, arith}
use Rattle.std.specs.List.{slice_get}
use Rattle.std.proofs.lemmas.Bool.{cases_lt}
use Rattle.std.proofs.lemmas.List.{get_or_past}
use Rattle.std.proofs.lemmas.Option.{same_Some, slice_get_within}
use Rattle.lh_page.specs.declared.pair.Pair.{Pair}
use Rattle.lh_bucket.specs.Listing.{Lists, PlaceFact, EachPlace, count_of, list_at, size}
use Rattle.lh_file.specs.FileState.{FileState, IsOpened}
use Rattle.lh_file.specs.Words.HandState.{HandState}
use Rattle.lh_words.specs.declared.view.View.{View}
use Rattle.lh_shards.specs.Hands.{AreOf, EachShard, ShardFact}
use Rattle.lh_shards.specs.Opening.{IsHomeIn}
use Rattle.lh_shards.proofs.OneShard.{idle_are_of}
use Rattle.lh_shards.proofs.Places.{there}

last_or_before : (p n : ℕ) → p < n + 1 → (p < n) ⊎ (p ≡ n)
last_or_before p n h = ⊎_elim (λ (below : p < n). inl below) (λ (above : n ≤ p). inr (omega arith)) (cases_lt p n)

-- a fact holds at each place of the lists before a bucket
abbrev pub EachBefore : PlaceFact → List (List Pair) → ℕ → Type 0
EachBefore Good lists n = (b p : ℕ) → b < n → p < length (list_at lists b) → Good b (list_at lists b) p

-- when the keys of one bucket more belong to the shard, those of all buckets before the next do
pub each_more : (n shard : ℕ) (lists : List (List Pair)) (i : ℕ) (ps : List Pair) → ps ≡ list_at lists i →
    ((p : ℕ) → p < length ps → IsHomeIn n shard 0 ps p) → EachBefore (IsHomeIn n shard) lists i →
    EachBefore (IsHomeIn n shard) lists (i + 1)
each_more n shard lists i ps is good before b p below within = ⊎_elim
    (λ (earlier : b < i). before b p earlier within)
    (λ (last : b ≡ i).
    let at : ps ≡ list_at lists b = is ∙ ap (list_at lists) (sym last) in
    subst (λ (qs : List Pair). IsHomeIn n shard b qs p) at
    (good p (subst (λ (qs : List Pair). p < length qs) (sym at) within)))
    (last_or_before b i below)

-- what holds before the last bucket holds everywhere, since there is no record behind
pub each_place : (Good : PlaceFact) (lists : List (List Pair)) (i : ℕ) → length lists ≤ i → EachBefore Good lists i →
    EachPlace Good lists
each_place Good lists i many before b p within = ⊎_elim
    (λ (low : b < i). before b p low within)
    (λ (high : i ≤ b). absurd (omega (arith, within, ap length (get_or_past lists b [] (omega arith)))))
    (cases_lt b i)

-- a fact holds of each listing before a place
abbrev pub EachListingBefore : (ℕ → Lists → Type 0) → List Lists → ℕ → Type 0
EachListingBefore Good listings i =
    (k : ℕ) (listing : Lists) → k < i → slice_get listings k ≡ Some listing → Good k listing

-- a fact that holds of one listing more holds of each before the next
pub listing_more : (Good : ℕ → Lists → Type 0) (listings : List Lists) (i : ℕ) (listing : Lists) →
    slice_get listings i ≡ Some listing → Good i listing → EachListingBefore Good listings i →
    EachListingBefore Good listings (i + 1)
listing_more Good listings i listing at good before k other below ko = ⊎_elim
    (λ (earlier : k < i). before k other earlier ko)
    (λ (last : k ≡ i).
    let same : listing ≡ other =
    same_Some listing other (sym at ∙ subst (λ j. slice_get listings j ≡ Some other) last ko) in
    subst (λ j. Good j other) (sym last) (subst (λ x. Good i x) same good))
    (last_or_before k i below)

-- the file and its first hand are opened from the listing of their place
abbrev pub OpenedFrom : List Lists → Bool → ShardFact
OpenedFrom listings recording shard file hand =
    (listing : Lists) → slice_get listings shard ≡ Some listing →
    IsOpened listing.config (size listing) recording (min (count_of listing.lists) (2 ^ 64 - 1)) file hand
    × (file.listing ≡ listing)

-- the first hands of files that are opened from the listings of their places are hands of these files
pub opened_are_of : (listings : List Lists) (recording : Bool) (files : List FileState) (hands : List HandState) →
    length files ≡ length listings → length hands ≡ length listings →
    EachShard (OpenedFrom listings recording) files hands → AreOf files hands
opened_are_of listings recording files hands m n each =
    idle_are_of files hands (n ∙ sym m)
    (λ i f h fi hi.
    let lt : i < length files = slice_get_within files i f fi in
    let from : (x : Lists) × (slice_get listings i ≡ Some x) = there listings i (omega (arith, lt, m)) in
    let o : IsOpened from.0.config (size from.0) recording (min (count_of from.0.lists) (2 ^ 64 - 1)) f h =
    (each i f h fi hi from.0 from.1).0 in
    (o.is_of, ap (λ (v : View). v.has_right) o.view, o.acts))
