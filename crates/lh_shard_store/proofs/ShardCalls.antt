-- What a call on one shard leaves of a session
use Rattle.std.proofs.Common.{zero, suc, ◌≡◌, ℕ, ◌⊎◌, length, Bool, List, [], ◌∷◌, set, Result, Some, Ok, Err, OnErr}
use Rattle.std.proofs.Common.{refl, sym, ap, ◌∙◌, subst, inl, inr, ⊎_elim, arith}
use Rattle.std.specs.List.{slice_get}
use Rattle.std.proofs.lemmas.Option.{same_Some, none-some}
use Rattle.lh_bucket.specs.declared.call.Call.{Call}
use Rattle.lh_bucket.specs.declared.call.Reply.{Reply}
use Rattle.lh_file.specs.Calls.Atomic.{MakesAtOnce, Reaction}
use Rattle.lh_file.specs.Calls.Served.{HasServed, KnowsMore}
use Rattle.lh_file.specs.FileState.{FileState}
use Rattle.lh_file.specs.Words.Calls.{IsBuckets}
use Rattle.lh_file.specs.Words.HandState.{HandState}
use Rattle.lh_shards.specs.Counts.{IsBucketSum}
use Rattle.lh_shards.specs.Dividing.{EachPair}
use Rattle.lh_shards.specs.Hands.{AreOf, AtShard, AtShardOf}
use Rattle.lh_store.specs.Sessions.{IsAtOnce}
use Rattle.lh_shard_store.specs.ShardedSessions.{IsMadeAtHome}
use lib.ListN.{length-set}

-- A hand knows what it knows,
knows_itself : (hand : HandState) → KnowsMore hand hand
knows_itself hand = record {
  known = hand.view.known;
  rises = omega arith;
  view = refl;
  entries = refl;
  logs = refl;
  acts = refl;
  table = refl;
  recording = refl;
}

-- and so do those of all shards.
pub know_themselves : (hands : List HandState) → EachPair KnowsMore hands hands
know_themselves hands = record {
  count = refl;
  each = λ shard old new at_old at_new.
      subst (λ h. KnowsMore old h) (same_Some old new (sym at_old ∙ at_new)) (knows_itself old);
}

-- A session that has made no call is as it was, whatever it answers.
pub idle_itself : {T E : Type 0} (result : Result T E) (hands : List HandState) →
    OnErr result (EachPair KnowsMore hands hands)
idle_itself (Ok t) hands = tt
idle_itself (Err e) hands = know_themselves hands

-- What stands in a list that was written to is what was written, at its place, or stood there before.
at_set : {X : Type 0} (xs : List X) (i : ℕ) (v : X) (j : ℕ) (x : X) → slice_get (set xs i v) j ≡ Some x →
    ((j ≡ i) × (x ≡ v)) ⊎ (slice_get xs j ≡ Some x)
at_set [] i v j x h = inr h
at_set (y ∷ ys) zero v zero x h = inl (refl, sym (same_Some v x h))
at_set (y ∷ ys) zero v (suc j) x h = inr h
at_set (y ∷ ys) (suc i) v zero x h = inr h
at_set (y ∷ ys) (suc i) v (suc j) x h = ⊎_elim (λ e. inl (ap suc e.0, e.1)) (λ e. inr e) (at_set ys i v j x h)

-- Where the hand of one shard knows more, all hands do.
know_more : (hands : List HandState) (i : ℕ) (before after : HandState) → slice_get hands i ≡ Some before →
    KnowsMore before after → EachPair KnowsMore hands (set hands i after)
know_more hands i before after at more = record {
  count = length-set hands i after;
  each = λ shard old new at_old at_new.
      ⊎_elim
      (λ e.
      let at_i : slice_get hands i ≡ Some old = subst (λ k. slice_get hands k ≡ Some old) e.0 at_old in
      let same : before ≡ old = same_Some before old (sym at ∙ at_i) in
      subst (λ h. KnowsMore h new) same (subst (λ h. KnowsMore before h) (sym e.1) more))
      (λ still. subst (λ h. KnowsMore old h) (same_Some old new (sym at_old ∙ still)) (knows_itself old))
      (at_set hands i after shard new at_new);
}

-- After a fault on one shard all hands are as they were, but for what they know.
pub idle_after : {T E : Type 0} (result : Result T E) {shard : ℕ} {files : List FileState} {old new : List HandState}
    {Does : FileState → HandState → HandState → Type 0} (a : AtShard shard files old new Does) →
    KnowsMore a.before a.after → OnErr result (EachPair KnowsMore old new)
idle_after (Ok t) a more = tt
idle_after (Err e) {shard} {files} {old} {new} {Does} a more =
    subst (λ hands. EachPair KnowsMore old hands) (sym a.after_is)
    (know_more old shard a.before a.after a.before_is more)

-- What the hand of a shard was served, it was served at that shard.
pub made_after : {shard : ℕ} {files : List FileState} {old new : List HandState}
    {Does : FileState → HandState → HandState → Type 0} (call : Call) (reply : Reply)
    (a : AtShard shard files old new Does) → HasServed a.before call reply a.after →
    AtShard shard files old new (λ _ before after. HasServed before call reply after)
made_after {shard} {files} {old} {new} {Does} call reply a served = record {
  file = a.file;
  before = a.before;
  after = a.after;
  file_is = a.file_is;
  before_is = a.before_is;
  after_is = a.after_is;
  does = served;
}

-- What a call by a key did at once, a session has done so.
pub at_once_after : {T : Type 0} {traced : Bool} {files : List FileState} {old new : List HandState} (key : List ℕ)
    (does : Reaction T) (t : T) →
    AtShardOf key files old new (λ file before after. MakesAtOnce traced file key before does (Ok t) after) →
    IsAtOnce key
    (λ call reply was.
    IsMadeAtHome (record { files = files; hands = old }) call reply (record { files = files; hands = new })) does t
at_once_after {T} {traced} {files} {old} {new} key does t a = record {
  was = a.does.was;
  call = a.does.call;
  reply = a.does.given;
  by = a.does.by;
  done = a.does.does;
  made =
      subst (λ k. AtShardOf k files old new (λ _ before after. HasServed before a.does.call a.does.given after))
      (sym a.does.by) (made_after a.does.call a.does.given a a.does.made.served);
}

-- Something stands at each place of a list that is as long as one where something stands there.
there : {X Y : Type 0} (xs : List X) (ys : List Y) (i : ℕ) (x : X) → length ys ≡ length xs →
    slice_get xs i ≡ Some x → (y : Y) × (slice_get ys i ≡ Some y)
there [] ys i x long at = absurd (none-some x at)
there (x' ∷ xs) [] i x long at = absurd (omega (arith, long))
there (x' ∷ xs) (y ∷ ys) zero x long at = (y, refl)
there (x' ∷ xs) (y ∷ ys) (suc i) x long at = there xs ys i x (omega (arith, long)) at

-- Hands that have counted the buckets of their files know more.
pub counting_know : (files : List FileState) (old : List HandState) (buckets : ℕ) (new : List HandState) →
    AreOf files old → IsBucketSum files old buckets new → EachPair KnowsMore old new
counting_know files old buckets new of sum = record {
  count = sum.answered.hands_count;
  each = λ shard before after at_before at_after.
      let file = there old files shard before (sym of.count) at_before in
      let term = there files sum.terms shard file.0 sum.answered.terms_count file.1 in
      let b = sum.answered.each shard file.0 before term.0 after file.1 at_before term.1 at_after in record {
        known = term.0;
        rises = b.rises;
        view = ap (λ h. h.view) b.knows;
        entries = ap (λ h. h.entries) b.knows;
        logs = ap (λ h. h.logs) b.knows;
        acts = ap (λ h. h.acts) b.knows;
        table = ap (λ h. h.table) b.knows;
        recording = ap (λ h. h.recording) b.knows;
      };
}
