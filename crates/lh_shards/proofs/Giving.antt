-- One hand more has given calls to a new one
use Rattle.std.proofs.Common.{suc, ◌≡◌, ◌≢◌, ℕ, ◌+◌, ◌<◌, ◌≤◌, List, [], ◌∷◌, ◌++◌, length, map, set, get_or, Some}
use Rattle.std.proofs.Common.{refl, sym, ap, ◌∙◌, subst, ⊎_elim, arith}
use Rattle.std.specs.List.{slice_get}
use Rattle.std.proofs.lemmas.Option.{same_Some, slice_get_within, slice_get_read}
use Rattle.lh_file.specs.FileState.{FileState, IsOf}
use Rattle.lh_file.specs.Words.HandState.{HandState, IsBranch}
use Rattle.lh_words.specs.declared.view.View.{View}
use Rattle.lh_shards.specs.Dividing.{HasGiven, EachPair}
use Rattle.lh_shards.specs.Hands.{AreOf, AreAtHome, IsOfShard}
use Rattle.lh_file.specs.HashFile.{Shared}
use Rattle.lh_shards.proofs.Places.{there, at_push, set_tells, set_other, read_at, length_mapped}

abbrev pub Given : ℕ → List HandState → List HandState → Type 0
Given calls olds gs =
    (k : ℕ) (old new : HandState) → slice_get olds k ≡ Some old → slice_get gs k ≡ Some new → IsBranch calls old new

abbrev pub Kept : ℕ → ℕ → List HandState → List HandState → Type 0
Kept calls i olds hs =
    (k : ℕ) (old new : HandState) → suc k ≤ i → slice_get olds k ≡ Some old → slice_get hs k ≡ Some new →
    HasGiven calls old new

abbrev pub Rest : ℕ → List HandState → List HandState → Type 0
Rest i olds hs = (k : ℕ) → i ≤ k → slice_get hs k ≡ slice_get olds k

-- with one new hand more, each got its calls of the old hand at its place
pub given_next : (calls : ℕ) (olds gs : List HandState) (i : ℕ) (b g : HandState) → length gs ≡ i →
    slice_get olds i ≡ Some b → IsBranch calls b g → Given calls olds gs → Given calls olds (gs ++ g ∷ [])
given_next calls olds gs i b g n at new was k old h ko kh =
    ⊎_elim
    (λ e. let same : b ≡ old = same_Some b old (sym at ∙ subst (λ j. slice_get olds j ≡ Some old) (e.0 ∙ n) ko) in
    subst (λ x. IsBranch calls x h) same (subst (λ y. IsBranch calls b y) (sym e.1) new))
    (λ e. was k old h ko e)
    (at_push gs g k h kh)

-- when the hand of a place gave calls away, the hands before the next place have
pub kept_next : (calls : ℕ) (olds hs : List HandState) (i : ℕ) (b a : HandState) → slice_get olds i ≡ Some b →
    HasGiven calls b a → Kept calls i olds hs → Kept calls (i + 1) olds (set hs i a)
kept_next calls olds hs i b a at new was k old h lt ko kh =
    ⊎_elim
    (λ e. let same : b ≡ old = same_Some b old (sym at ∙ subst (λ j. slice_get olds j ≡ Some old) e.0 ko) in
    subst (λ x. HasGiven calls x h) same (subst (λ y. HasGiven calls b y) (sym e.1) new))
    (λ e. let ne : k ≢ i = e.0 in was k old h (omega arith) ko e.1)
    (set_tells hs i a k h kh)

-- when the hand of a place has changed, those from the next place on are as they were
pub rest_next : (olds hs : List HandState) (i : ℕ) (a : HandState) → Rest i olds hs → Rest (i + 1) olds (set hs i a)
rest_next olds hs i a was k lt = set_other hs i a k (λ e. omega (arith, e)) ∙ was k (omega arith)

kept_of_file : (calls n i : ℕ) (f : FileState) (old new : HandState) → IsOfShard n i f old → HasGiven calls old new →
    IsOfShard n i f new
kept_of_file calls n i f old new o g =
    subst (λ x. IsOfShard n i f x) (sym g.kept)
    (record {
      of = record { table = o.of.table; initial = o.of.initial; max = o.of.max; recording = o.of.recording };
      right = o.right;
      home = o.home;
    })

branch_of_file : (calls n i : ℕ) (f : FileState) (old new : HandState) → IsOfShard n i f old → IsBranch calls old new →
    IsOfShard n i f new
branch_of_file calls n i f old new o g = record {
  of = record {
    table = g.table ∙ o.of.table;
    initial = ap (λ (v : View). v.initial) g.view ∙ o.of.initial;
    max = ap (λ (v : View). v.max) g.view ∙ o.of.max;
    recording = g.recording ∙ o.of.recording;
  };
  right = ap (λ (v : View). v.has_right) g.view;
  home = subst (λ l. AreAtHome n i l) (sym g.acts) (λ k d lt. absurd (omega arith));
}

-- what is known of the file and of the hand at one place
pub record Ready (states : List FileState) (olds : List HandState) (i : ℕ) (x : Shared) (h : HandState) : Type 0 where
  pub file_at : slice_get states i ≡ Some x.state
  pub hand_at : slice_get olds i ≡ Some h
  pub of : IsOf x.state h

-- what is known of the file and of the hand whose turn it is
pub turn : (files : List Shared) (states : List FileState) (olds items : List HandState) (i : ℕ) (x : Shared)
    (h : HandState) → map (λ (file : Shared). file.state) files ≡ states → AreOf states olds →
    length items ≡ length olds → Rest i olds items → i < length files → x ≡ get_or files i x → h ≡ get_or items i h →
    Ready states olds i x h
turn files states olds items i x h seen are many rest lt xi hi =
    let long : length states ≡ length files =
    ap length (sym seen) ∙ length_mapped (λ (file : Shared). file.state) files in
    let count : length olds ≡ length states = are.count in
    let fa : slice_get states i ≡ Some x.state =
    read_at (λ (file : Shared). file.state) files states i x seen (omega arith) xi in
    let le : i ≤ i = omega arith in
    let ha : slice_get olds i ≡ Some h =
    sym (rest i le) ∙ slice_get_read items (length items) i h refl (omega arith) hi in
    record { file_at = fa; hand_at = ha; of = (are.each i x.state h fa ha).of }

-- hands that got calls of hands of some files are hands of these files
pub given_are_of : (calls : ℕ) (files : List FileState) (olds news : List HandState) → AreOf files olds →
    EachPair (IsBranch calls) olds news → AreOf files news
given_are_of calls files olds news o p = record {
  count = p.count ∙ o.count;
  each = λ i f h fi hi.
      let lt : i < length olds = subst (λ n. i < n) p.count (slice_get_within news i h hi) in
      let was : (x : HandState) × (slice_get olds i ≡ Some x) = there olds i lt in
      branch_of_file calls (length files) i f was.0 h (o.each i f was.0 fi was.1) (p.each i was.0 h was.1 hi);
}

-- hands that gave calls away are hands of their files still
pub kept_are_of : (calls : ℕ) (files : List FileState) (olds news : List HandState) → AreOf files olds →
    EachPair (HasGiven calls) olds news → AreOf files news
kept_are_of calls files olds news o p = record {
  count = p.count ∙ o.count;
  each = λ i f h fi hi.
      let lt : i < length olds = subst (λ n. i < n) p.count (slice_get_within news i h hi) in
      let was : (x : HandState) × (slice_get olds i ≡ Some x) = there olds i lt in
      kept_of_file calls (length files) i f was.0 h (o.each i f was.0 fi was.1) (p.each i was.0 h was.1 hi);
}
