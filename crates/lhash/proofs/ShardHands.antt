-- How many acts hands of all shards keep, and how many calls each may make, when one makes a call, and when they are
-- divided, joined and closed
use Rattle.std.proofs.Common.{zero, suc, ◌≡◌, ◌≢◌, ℕ, ◌+◌, ◌^◌, ◌<◌, ◌≤◌, true, false, List, [], ◌∷◌, All, arith}
use Rattle.std.proofs.Common.{length, length-append, set, get_or, Result, Some, Ok, Err, refl, sym, ap, ◌∙◌, subst}
use Rattle.std.specs.Prelude.{IfErr, IfOk, OnOk, replicate, sum_by, slice_get}
use Rattle.std.proofs.lemmas.List.Sums.{get_or-le-sum_by, sum_by-cons, sum_by-set}
use Rattle.std.proofs.lemmas.Option.{get_or_from_slice_get, same_Some, slice_get-get_or, slice_get_within}
use Rattle.lh_addr.specs.Settings.{Settings}
use Rattle.lh_bucket.specs.Answer.{Answered}
use Rattle.lh_bucket.specs.Listing.{Lists, list_at}
use Rattle.lh_bucket.specs.declared.call.Call.{Call}
use Rattle.lh_settling.specs.Settled.{Settled}
use Rattle.lh_file.specs.Calls.Served.{IsNotSpent, Serves}
use Rattle.lh_file.specs.FileState.{FileState}
use Rattle.lh_words.specs.History.Log.{lines_of}
use Rattle.lh_file.specs.History.Own.{ServedLaw}
use Rattle.lh_file.specs.History.Entered.{HasEntered}
use Rattle.lh_file.specs.Words.HandState.{HandState, IsBranch}
use Rattle.lh_file.specs.declared.fault.FileFault.{FileFault}
use Rattle.lh_shards.specs.Closing.{AreClosedBy}
use Rattle.lh_shards.specs.Dividing.{AllHave, EachPair, HasGiven}
use Rattle.lh_shards.specs.Hands.{AreOf, AtShardOf, IsCount}
use Rattle.lh_shards.specs.Joining.{AreJoinedByShard}
use Rattle.lh_shards.specs.Number.{home_of}
use Rattle.lh_shards.specs.OpenFault.{IsOpenFault}
use Rattle.lh_shards.specs.Openings.{AreBegun, AreTraced}
use Rattle.lh_shards.specs.Own.{AreOwn, CalledLaw, HandsDividedLaw, HandsJoinedLaw, SameLaw}
use Rattle.lh_shards.specs.declared.closed_shard.ClosedShard.{ClosedShard}
use Rattle.lh_shards.specs.declared.fault.OpenFault.{OpenFault}
use Rattle.lh_shards.specs.declared.fault.OpenFault.TheVariants as open_fault
use Rattle.lhash.proofs.HandCalls.{opened_calls as opened_one, served_one}
use Rattle.lhash.specs.Driving.{empty_file}
use Rattle.lhash.specs.DrivingShards.{AreShardsOf, IsSettledWhole, acts_in, empty_files}
use Rattle.lhash.specs.Crew.{AreRecording, HaveCalls, acts_of}

abbrev kept : HandState → ℕ
kept hand = length hand.acts

-- something stands at each place within a list
pub there : {X : Type 0} (xs : List X) (i : ℕ) → i < length xs → (x : X) × (slice_get xs i ≡ Some x)
there [] i lt = absurd (omega arith)
there (x ∷ xs) zero lt = (x, refl)
there (x ∷ xs) (suc i) lt = there xs i (omega arith)

-- what holds at each place holds of all
pub all_at : {X : Type 0} (P : X → Type 0) (xs : List X) → ((k : ℕ) (x : X) → slice_get xs k ≡ Some x → P x) → All P xs
all_at P xs each k d lt = each k (get_or xs k d) (slice_get-get_or xs k d lt)

-- what holds of all holds at each place
pub at_place : {X : Type 0} (P : X → Type 0) (xs : List X) (k : ℕ) (x : X) → All P xs → slice_get xs k ≡ Some x → P x
at_place P xs k x all at = subst P (get_or_from_slice_get xs k x x at) (all k x (slice_get_within xs k x at))

-- what stands at each place of a list of one thing
pub at_repeat : {X : Type 0} (x : X) (n k : ℕ) → k < n → slice_get (replicate n x) k ≡ Some x
at_repeat x zero k lt = absurd (omega (arith, lt))
at_repeat x (suc n) zero lt = refl
at_repeat x (suc n) (suc k) lt = at_repeat x n k (omega (arith, lt))

plus : (a b c d : ℕ) → a ≡ c → b ≡ d → a + b ≡ c + d
plus a b c d e f = omega (arith, e, f)

-- sums over lists whose terms agree at each place
pub sums_agree : {X Y : Type 0} (f : X → ℕ) (g : Y → ℕ) (xs : List X) (ys : List Y) → length ys ≡ length xs →
    ((k : ℕ) (x : X) (y : Y) → slice_get xs k ≡ Some x → slice_get ys k ≡ Some y → g y ≡ f x) →
    sum_by g ys ≡ sum_by f xs
sums_agree f g [] [] long each = refl
sums_agree f g [] (y ∷ ys) long each = absurd (omega (arith, long))
sums_agree f g (x ∷ xs) [] long each = absurd (omega (arith, long))
sums_agree f g (x ∷ xs) (y ∷ ys) long each =
    sum_by-cons g y ys
    ∙ plus (g y) (sum_by g ys) (f x) (sum_by f xs) (each 0 x y refl refl)
    (sums_agree f g xs ys (omega (arith, long)) (λ k. each (suc k)))
    ∙ sym (sum_by-cons f x xs)

no_acts : (hands : List HandState) → ((k : ℕ) (hand : HandState) → slice_get hands k ≡ Some hand → hand.acts ≡ []) →
    acts_of hands ≡ 0
no_acts [] each = refl
no_acts (h ∷ hs) each =
    sum_by-cons kept h hs ∙ plus (kept h) (acts_of hs) 0 0 (ap length (each 0 h refl)) (no_acts hs (λ k. each (suc k)))

-- ---- a call

-- where hands have so many calls left together, each of them has
pub all_have : (files : List FileState) (calls made more : ℕ) (hands : List HandState) →
    HaveCalls files calls made hands → more + made ≤ calls → AllHave more hands
all_have files calls made more hands h few k hand at =
    let within = get_or-le-sum_by kept hands k hand (slice_get_within hands k hand at) in
    omega (arith, few, h.acts, h.share k hand at, ap kept (get_or_from_slice_get hands k hand hand at), within)

-- after a call that was answered hands have made one call more
pub call_made : ServedLaw → CalledLaw → SameLaw → (key : List ℕ) (call : Call) (files : List FileState)
    (olds news : List HandState) (result : Result Answered FileFault) → AreOf files news →
    AtShardOf key files olds news (λ file before after. Serves file before call result after) →
    AtShardOf key files olds news (λ file before after.
    IfOk result (λ a. HasEntered false before a.call a.reply after)) →
    OnOk result ((calls made : ℕ) → HaveCalls files calls made olds → HaveCalls files calls (made + 1) news)
call_made served called same key call files olds news (Ok a) of s e = λ calls made h.
    let i = home_of (length files) key in
    let before : e.before ≡ s.before = same_Some e.before s.before (sym e.before_is ∙ s.before_is) in
    let after : e.after ≡ s.after = same i olds s.before e.after s.after s.before_is (sym e.after_is ∙ s.after_is) in
    let entered =
    subst (λ (b : HandState). HasEntered false b a.call a.reply s.after) before
    (subst (λ (x : HandState). HasEntered false e.before a.call a.reply x) after e.does) in
    let law = served s.file call (Ok a) s.before s.after s.does in
    let kept_so = called i calls files s.file olds news s.before s.after s.file_is s.before_is s.after_is in
    let records : s.before.recording ≡ true =
    (h.of.each i s.file s.before s.file_is s.before_is).of.recording
    ∙ at_place (λ (f : FileState). f.recording ≡ true) files i s.file h.records s.file_is in
    let sum = sum_by-set kept olds i s.after s.before (slice_get_within olds i s.before s.before_is) in
    let was = ap kept (get_or_from_slice_get olds i s.before s.before s.before_is) in
    let act = served_one s.before a.call a.reply s.after records s.does.served in
    let more : acts_of (set olds i s.after) ≡ made + 1 = omega (arith, sum, was, act, h.acts) in record {
      of = of;
      own = kept_so.0 (law.0 entered) h.own;
      records = h.records;
      share = kept_so.1 (law.1 records) h.share;
      acts = ap acts_of s.after_is ∙ more;
    }
call_made served called same key call files olds news (Err e) of s entered = tt

-- where hands have a call left, the fault of one is none for want of calls
pub call_refused : (key : List ℕ) (call : Call) (files : List FileState) (olds news : List HandState)
    (result : Result Answered FileFault) (calls made : ℕ) → HaveCalls files calls made olds → made < calls →
    AtShardOf key files olds news (λ file before after. Serves file before call result after) → IfErr result IsNotSpent
call_refused key call files olds news result calls made h few s =
    s.does.not_spent
    (all_have files calls made 1 olds h (omega (arith, few)) (home_of (length files) key) s.before s.before_is)

-- ---- hands divided

-- hands that are divided and the new ones have their calls between them
pub divided : HandsDividedLaw → (files : List FileState) (calls : ℕ) (olds part news : List HandState) →
    AreOf files part → AreOf files news → EachPair (IsBranch calls) olds part → EachPair (HasGiven calls) olds news →
    (others : ℕ) → HaveCalls files (others + calls) 0 olds →
    HaveCalls files calls 0 part × HaveCalls files others 0 news
divided law files calls olds part news of_part of_news given kept_by others h =
    let kept_so = law calls others files olds part news h.of given kept_by h.own in
    let was =
    λ (k : ℕ) (hand : HandState) (at : slice_get part k ≡ Some hand).
    there olds k (subst (λ n. k < n) given.count (slice_get_within part k hand at)) in (
      record {
        of = of_part;
        own = kept_so.1;
        records = h.records;
        share = kept_so.2;
        acts = no_acts part (λ k hand at. (given.each k (was k hand at).0 hand (was k hand at).1 at).acts);
      },
      record {
        of = of_news;
        own = kept_so.0;
        records = h.records;
        share = kept_so.3 h.share;
        acts = sums_agree kept kept olds news kept_by.count
            (λ k old new ko kn. ap kept (kept_by.each k old new ko kn).kept)
            ∙ h.acts;
      },
    )

-- ---- hands joined

sum_joined : (first second news : List HandState) → length news ≡ length first → length second ≡ length first →
    ((k : ℕ) (one other new : HandState) → slice_get first k ≡ Some one → slice_get second k ≡ Some other →
    slice_get news k ≡ Some new → kept new ≡ kept one + kept other) →
    acts_of news ≡ acts_of first + acts_of second
sum_joined [] [] [] long many each = refl
sum_joined [] [] (n ∷ ns) long many each = absurd (omega (arith, long))
sum_joined [] (s ∷ ss) ns long many each = absurd (omega (arith, many))
sum_joined (f ∷ fs) [] ns long many each = absurd (omega (arith, many))
sum_joined (f ∷ fs) (s ∷ ss) [] long many each = absurd (omega (arith, long))
sum_joined (f ∷ fs) (s ∷ ss) (n ∷ ns) long many each =
    omega (
      arith,
      sum_by-cons kept n ns,
      sum_by-cons kept f fs,
      sum_by-cons kept s ss,
      each 0 f s n refl refl refl,
      sum_joined fs ss ns (omega (arith, long)) (omega (arith, many)) (λ k. each (suc k)),
    )

-- hands that are made of two for each shard have the calls of both
pub joined : HandsJoinedLaw → (files : List FileState) (first second news : List HandState) → AreOf files news →
    AreJoinedByShard first second news → (calls made others more : ℕ) → HaveCalls files calls made first →
    HaveCalls files others more second → HaveCalls files (calls + others) (made + more) news
joined law files first second news of j calls made others more a b =
    let both = law calls others files first second news a.of b.of j in record {
      of = of;
      own = both.0 a.own b.own;
      records = a.records;
      share = both.1 a.share b.share;
      acts = sum_joined first second news j.count (b.of.count ∙ sym a.of.count)
          (λ k one other new ko kt kn.
          ap length (j.each k one other new ko kt kn).acts ∙ length-append one.acts other.acts)
          ∙ omega (arith, a.acts, b.acts);
    }

-- ---- shards opened and closed

-- files of these settings, each opened from an empty listing, record
pub record AreEmpty (config : Settings) (files : List FileState) : Type 0 where
  pub listing : (shard : ℕ) (file : FileState) → slice_get files shard ≡ Some file → file.listing ≡ empty_file config
  pub recording : AreRecording files

-- files that are begun from the listings of empty files, and are to record, are opened from these and record
pub begun_empty : (config : Settings) (listings : List Lists) (openings files : List FileState) →
    AreBegun listings true openings → listings ≡ empty_files config (length openings) → files ≡ openings →
    AreEmpty config files
begun_empty config listings openings files begun empty same =
    let here =
    λ (k : ℕ) (file : FileState) (at : slice_get files k ≡ Some file). subst (λ l. slice_get l k ≡ Some file) same at in
    let listing =
    λ (k : ℕ) (file : FileState) (at : slice_get files k ≡ Some file).
    there listings k (subst (λ n. k < n) begun.count (slice_get_within openings k file (here k file at))) in
    let is =
    λ (k : ℕ) (file : FileState) (at : slice_get files k ≡ Some file).
    (begun.each k (listing k file at).0 file (listing k file at).1 (here k file at)).0 in record {
      listing = λ k file at.
          (is k file at).listing_is
          ∙ same_Some (listing k file at).0 (empty_file config)
          (sym (listing k file at).1 ∙ ap (λ l. slice_get l k) empty
          ∙ at_repeat (empty_file config) (length openings) k (slice_get_within openings k file (here k file at)));
      recording = all_at (λ (f : FileState). f.recording ≡ true) files (λ k file at. (is k file at).recording_is);
    }

no_records : (n bucket : ℕ) → list_at (replicate n []) bucket ≡ []
no_records zero bucket = refl
no_records (suc n) zero = refl
no_records (suc n) (suc bucket) = no_records n bucket

-- listings of empty files have one configuration, and no record
empty_at : (config : Settings) (listings : List Lists) (k : ℕ) (listing : Lists) →
    listings ≡ empty_files config (length listings) → slice_get listings k ≡ Some listing → listing ≡ empty_file config
empty_at config listings k listing empty at =
    same_Some listing (empty_file config)
    (sym at ∙ ap (λ l. slice_get l k) empty
    ∙ at_repeat (empty_file config) (length listings) k (slice_get_within listings k listing at))

-- so shards are opened from them, unless memory runs out
pub none_refused : (config : Settings) (listings : List Lists) (fault : OpenFault) → IsCount (length listings) →
    listings ≡ empty_files config (length listings) → IsOpenFault listings fault → fault ≢ open_fault.Memory → ⊥
none_refused config listings open_fault.Count count empty refused ne = refused count
none_refused config listings (open_fault.Config shard) count empty refused ne =
    let first = empty_at config listings 0 refused.1.first empty refused.1.first_at in
    let other = empty_at config listings shard refused.1.listing empty refused.1.at in
    refused.1.other (ap (λ (l : Lists). l.config) (other ∙ sym first))
none_refused config listings (open_fault.Misplaced shard bucket place) count empty refused ne =
    let is = empty_at config listings shard refused.2.listing empty refused.2.at in
    let none = ap (λ (l : Lists). list_at l.lists bucket) is ∙ no_records config.initial bucket in
    omega (arith, refused.2.here.within, ap length none)
none_refused config listings open_fault.Memory count empty refused ne = ne refl

-- the first hands of traced shards that record have 2^63 calls each, and have made none
pub opened_calls : (openings files : List FileState) (hands : List HandState) → AreTraced openings files hands →
    AreRecording files → HaveCalls files (2 ^ 63) 0 hands
opened_calls openings files hands t records =
    let each =
    λ (k : ℕ) (file : FileState) (hand : HandState) (fk : slice_get files k ≡ Some file)
    (hk : slice_get hands k ≡ Some hand).
    opened_one _ _ _ _ file hand (t.each k file hand fk hk)
    (at_place (λ (f : FileState). f.recording ≡ true) files k file records fk) in
    let its =
    λ (k : ℕ) (hand : HandState) (at : slice_get hands k ≡ Some hand).
    there files k (subst (λ n. k < n) t.of.count (slice_get_within hands k hand at)) in record {
      of = t.of;
      own = λ k file hand fk hk. (each k file hand fk hk).own;
      records = records;
      share = λ k hand at. (each k (its k hand at).0 hand (its k hand at).1 at).share;
      acts = no_acts hands (λ k hand at. (t.each k (its k hand at).0 hand (its k hand at).1 at).acts);
    }

-- shards that were opened empty are as many once they are closed, each of a file of the settings
pub closed_of : (config : Settings) (openings files : List FileState) (first all : List HandState)
    (closed : List ClosedShard) → AreTraced openings files first → AreEmpty config files → AreOf files all →
    AreClosedBy true files all closed → AreShardsOf config (length openings) closed
closed_of config openings files first all closed t empty of by = record {
  count = by.count ∙ ap length t.same;
  configs = all_at (λ (shard : ClosedShard). shard.closed.config ≡ config) closed
      (λ k shard at.
      let within : k < length files = subst (λ n. k < n) by.count (slice_get_within closed k shard at) in
      let file = there files k within in
      let hand = there first k (subst (λ n. k < n) (sym t.of.count) within) in
      let last = there all k (subst (λ n. k < n) (sym of.count) within) in
      (by.each k file.0 last.0 shard file.1 last.1 at).closing.config
      ∙ (t.each k file.0 hand.0 file.1 hand.1).config_is
      ∙ ap (λ (l : Lists). l.config) (empty.listing k file.0 file.1));
}

-- where all calls came home each closed shard is settled, if it was met whole
pub closed_settled : (config : Settings) (files : List FileState) (all : List HandState) (made : ℕ)
    (closed : List ClosedShard) → AreEmpty config files → HaveCalls files (2 ^ 63) made all →
    AreClosedBy true files all closed → All (IsSettledWhole config) closed
closed_settled config files all made closed empty h by = all_at (IsSettledWhole config) closed
    (λ k shard at gathered still.
    let within : k < length files = subst (λ n. k < n) by.count (slice_get_within closed k shard at) in
    let file = there files k within in
    let hand = there all k (subst (λ n. k < n) (sym h.of.count) within) in
    let held = (by.each k file.0 hand.0 shard file.1 hand.1 at).history refl gathered still in
    subst (λ (l : Lists). Settled l shard.closed shard.acts) (empty.listing k file.0 file.1)
    (lines_of held.0, (held.2 (h.share k hand.0 hand.1) (h.own k file.0 hand.0 file.1 hand.1).own).0))

-- shards that were opened empty have, once they are closed, an act for each call that was made since
pub acts_closed : (files : List FileState) (hands : List HandState) (closed : List ClosedShard) → AreOf files hands →
    AreClosedBy true files hands closed → acts_in closed ≡ acts_of hands
acts_closed files hands closed of by =
    sums_agree kept (λ (shard : ClosedShard). length shard.acts) hands closed (by.count ∙ sym of.count)
    (λ k hand shard kh kc.
    let file = there files k (subst (λ n. k < n) of.count (slice_get_within hands k hand kh)) in
    ap length (by.each k file.0 hand shard file.1 kh kc).acts)
