-- Hands that are joined, one shard after another
use Rattle.std.proofs.Common.{◌≡◌, ℕ, ◌<◌, ◌≤◌, List, ◌++◌, length, Some, sym, ap, ◌∙◌, subst, arith}
use Rattle.std.specs.List.{slice_get}
use Rattle.std.proofs.lemmas.List.Elements.{All-append}
use Rattle.std.proofs.lemmas.Option.{slice_get_within}
use Rattle.lh_bucket.specs.PlainMap.{key_of}
use Rattle.lh_file.specs.FileState.{FileState}
use Rattle.lh_file.specs.Words.HandState.{HandState, IsJoined, IsSame}
use Rattle.lh_words.specs.Views.{joined_views}
use Rattle.lh_words.specs.declared.seat_view.Entry.{Entry}
use Rattle.lh_words.specs.declared.view.View.{View}
use Rattle.lh_settling.specs.declared.act.ActLine.{ActLine}
use Rattle.lh_shards.specs.Hands.{AreAtHome, AreOf, IsOfShard}
use Rattle.lh_shards.specs.Joining.{AreJoinedByShard, AreSame}
use Rattle.lh_shards.specs.Number.{home_of}
use Rattle.lh_shards.proofs.Passing.{HandFact, Passed}
use Rattle.lh_shards.proofs.Places.{there}

-- the hand is the same, and has room for the acts of the second hand of its place
abbrev pub HasRoom : List HandState → HandFact
HasRoom second k old new =
    IsSame old new × ((other : HandState) → slice_get second k ≡ Some other → length other.acts ≤ new.room)

same_of : (n i : ℕ) (f : FileState) (old new : HandState) → IsOfShard n i f old → IsSame old new → IsOfShard n i f new
same_of n i f old new o s = record {
  of = record {
    table = s.table ∙ o.of.table;
    initial = ap (λ (v : View). v.initial) s.view ∙ o.of.initial;
    max = ap (λ (v : View). v.max) s.view ∙ o.of.max;
    recording = s.recording ∙ o.of.recording;
  };
  right = ap (λ (v : View). v.has_right) s.view ∙ o.right;
  home = subst (λ l. AreAtHome n i l) (sym s.acts) o.home;
}

-- hands that are the same, with whatever room for acts, are hands of their files still
pub same_are_of : (files : List FileState) (olds news : List HandState) → AreOf files olds → AreSame olds news →
    AreOf files news
same_are_of files olds news o s = record {
  count = s.count ∙ o.count;
  each = λ i f h fi hi.
      let lt : i < length olds = subst (λ n. i < n) s.count (slice_get_within news i h hi) in
      let was : (x : HandState) × (slice_get olds i ≡ Some x) = there olds i lt in
      same_of (length files) i f was.0 h (o.each i f was.0 fi was.1) (s.each i was.0 h was.1 hi);
}

joined_of : (n i : ℕ) (f : FileState) (one other new : HandState) → IsOfShard n i f one → IsOfShard n i f other →
    IsJoined one other new → IsOfShard n i f new
joined_of n i f one other new o p j = record {
  of = record {
    table = j.table ∙ o.of.table;
    initial = ap (λ (v : View). v.initial) j.view ∙ o.of.initial;
    max = ap (λ (v : View). v.max) j.view ∙ o.of.max;
    recording = j.recording ∙ o.of.recording;
  };
  right = ap (λ (v : View). v.has_right) j.view ∙ o.right;
  home =
      subst (λ l. AreAtHome n i l) (sym j.acts)
      (All-append (λ (act : ActLine). home_of n (key_of act.call) ≡ i) one.acts other.acts o.home p.home);
}

-- hands that are made of two for each shard are hands of the files
pub joined_are_of : (files : List FileState) (first second news : List HandState) → AreOf files first →
    AreOf files second → AreJoinedByShard first second news → AreOf files news
joined_are_of files first second news o p j = record {
  count = j.count ∙ o.count;
  each = λ i f h fi hi.
      let long : i < length files = slice_get_within files i f fi in
      let many_first : length first ≡ length files = o.count in
      let many_second : length second ≡ length files = p.count in
      let one : (x : HandState) × (slice_get first i ≡ Some x) = there first i (omega arith) in
      let other : (x : HandState) × (slice_get second i ≡ Some x) = there second i (omega arith) in
      joined_of (length files) i f one.0 other.0 h (o.each i f one.0 fi one.1) (p.each i f other.0 fi other.1)
      (j.each i one.0 other.0 h one.1 other.1 hi);
}

joined_from_same : (one mid other new : HandState) → IsSame one mid → IsJoined mid other new → IsJoined one other new
joined_from_same one mid other new s j = record {
  table = j.table ∙ s.table;
  recording = j.recording ∙ s.recording;
  view = j.view ∙ ap (λ (v : View). joined_views v other.view) s.view;
  entries = j.entries ∙ ap (λ (l : List Entry). l ++ other.entries) s.entries;
  logs = j.logs ∙ ap (λ (l : List (List Entry)). l ++ other.logs) s.logs;
  acts = j.acts ∙ ap (λ (l : List ActLine). l ++ other.acts) s.acts;
}

-- hands that were given room and joined then are the first ones joined
pub joined_from : (first mids second news : List HandState) → AreSame first mids → AreJoinedByShard mids second news →
    AreJoinedByShard first second news
joined_from first mids second news s j = record {
  count = j.count ∙ s.count;
  each = λ k one other new ko kp kn.
      let lt : k < length mids = subst (λ n. k < n) (sym s.count) (slice_get_within first k one ko) in
      let mid : (x : HandState) × (slice_get mids k ≡ Some x) = there mids k lt in
      joined_from_same one mid.0 other new (s.each k one mid.0 ko mid.1) (j.each k mid.0 other new mid.1 kp kn);
}

-- what is known of the room of hands that a loop has passed
pub room_before : (second olds items : List HandState) (i k : ℕ) (one other : HandState) →
    Passed (HasRoom second) i olds items → k < i → slice_get items k ≡ Some one → slice_get second k ≡ Some other →
    length other.acts ≤ one.room
room_before second olds items i k one other passed lt ko kp =
    let in_olds : k < length olds = subst (λ n. k < n) passed.count (slice_get_within items k one ko) in
    let was : (x : HandState) × (slice_get olds k ≡ Some x) = there olds k in_olds in
    (passed.done k was.0 one lt was.1 ko).1 other kp
