-- What calls leave of a session
use Rattle.std.proofs.Common.{◌≡◌, ℕ, ◌++◌, ◌∙◌, Bool, true, false, List, [], ◌∷◌, Option, Result, Ok, Err}
use Rattle.std.proofs.Common.{IfOk, OnErr, refl, ap, sym, subst, arith}
use Rattle.std.proofs.lemmas.Bool.{false≢true}
use Rattle.lh_bucket.specs.declared.call.Call.{Call}
use Rattle.lh_bucket.specs.declared.call.Reply.{Reply}
use Rattle.lh_file.specs.Calls.Atomic.{MakesAtOnce, Reaction}
use Rattle.lh_file.specs.Calls.Served.{KnowsMore, HasServed, Makes}
use Rattle.lh_file.specs.Closing.{NoneOutside}
use Rattle.lh_file.specs.FileState.{FileState, IsOf}
use Rattle.lh_file.specs.History.Entered.{HasActedOn, HasEntered}
use Rattle.lh_file.specs.Snapshots.Scans.{HasScanned, HasVisited, Scanning}
use Rattle.lh_file.specs.Words.Calls.{IsBuckets}
use Rattle.lh_file.specs.Words.HandState.{HandState, seeing, IsJoined}
use Rattle.lh_file.specs.Words.Recording.{kept_of}
use Rattle.lh_file.specs.declared.fault.FileFault.{FileFault}
use Rattle.lh_file.specs.declared.snapshots.bucket_copy.BucketCopy.{BucketCopy}
use Rattle.lh_settling.specs.declared.act.ActLine.{ActLine}
use Rattle.lh_store.specs.Sessions.{IsSession}
use Rattle.lh_words.specs.EachLaws.{each_snoc, each_append}
use Rattle.lh_words.specs.History.Log.{entry}
use Rattle.lh_words.specs.Views.{lessened}
use Rattle.lh_words.specs.declared.seat_view.Entry.{Entry}

-- A hand knows what it knows.
pub knows_itself : (hand : HandState) → KnowsMore hand hand
knows_itself hand = record {
  known = hand.view.known;
  rises = omega arith;
  view = refl;
  entries = refl;
  logs = refl;
  acts = refl;
  table = refl;
  recording = refl;
}

-- A session that has made no call is as it was, whatever it answers.
pub idle_itself : {T E : Type 0} (result : Result T E) (hand : HandState) → OnErr result (KnowsMore hand hand)
idle_itself (Ok t) hand = tt
idle_itself (Err e) hand = knows_itself hand

-- no act is kept
kept_none : (recording : Bool) (line : ActLine) → recording ≡ false → kept_of recording line ≡ []
kept_none false line is = refl
kept_none true line is = absurd (false≢true (sym is))

module _ (traced is_named : Bool) (name file : FileState) (old new : HandState)
    (s : IsSession traced is_named name file old) (of : IsOf file new) where
  -- A hand that knows more is still a session's.
  pub idle_keeps : KnowsMore old new → IsSession traced is_named name file new
  idle_keeps k = record {
    of = of;
    right = ap (λ v. v.has_right) k.view ∙ s.right;
    recording = k.recording ∙ s.recording;
    acts = k.acts ∙ s.acts;
    own = λ t. subst NoneOutside (sym k.entries) (s.own t);
    named = s.named;
    listed = s.listed;
  }

  -- So is one that has made a call.
  served_keeps : (call : Call) (reply : Reply) → HasServed old call reply new →
      (traced ≡ true → NoneOutside new.entries) → IsSession traced is_named name file new
  served_keeps call reply h own = record {
    of = of;
    right = ap (λ v. v.has_right) h.view ∙ s.right;
    recording = h.recording ∙ s.recording;
    acts =
        h.acts
        ∙ ap (λ acts. acts ++ kept_of old.recording (record { stamp = h.stamp; call = call; reply = reply })) s.acts
        ∙ kept_none old.recording (record { stamp = h.stamp; call = call; reply = reply }) s.recording;
    own = own;
    named = s.named;
    listed = s.listed;
  }

  made_keeps : (call : Call) (reply : Reply) → HasServed old call reply new →
      (traced ≡ true → HasEntered false old call reply new) → IsSession traced is_named name file new
  made_keeps call reply h entered = served_keeps call reply h (λ t.
      let e = entered t in
      subst NoneOutside (sym e.2.1)
      (each_snoc (λ (a : Entry). a.outside ≡ false) old.entries (entry false e.0 call reply e.2.0) (s.own t) refl))

  met_keeps : (call : Call) (reply : Reply) (was : Option (List ℕ)) → HasServed old call reply new →
      (traced ≡ true → HasActedOn old call reply was new) → IsSession traced is_named name file new
  met_keeps call reply was h acted = served_keeps call reply h (λ t.
      let e = acted t in
      subst NoneOutside (sym e.2)
      (each_snoc (λ (a : Entry). a.outside ≡ false) old.entries (entry false e.0 call reply was) (s.own t) refl))

-- A hand that has counted the buckets knows more,
pub counting_knows : (file : FileState) (buckets : ℕ) (old new : HandState) → IsBuckets file old buckets new →
    KnowsMore old new
counting_knows file buckets old new b = record {
  known = buckets;
  rises = b.rises;
  view = ap (λ h. h.view) b.knows;
  entries = ap (λ h. h.entries) b.knows;
  logs = ap (λ h. h.logs) b.knows;
  acts = ap (λ h. h.acts) b.knows;
  table = ap (λ h. h.table) b.knows;
  recording = ap (λ h. h.recording) b.knows;
}

-- and is still a session's.
pub counting_keeps : (traced is_named : Bool) (name file : FileState) (buckets : ℕ) (old new : HandState) →
    IsSession traced is_named name file old → IsBuckets file old buckets new →
    IsSession traced is_named name file new
counting_keeps traced is_named name file buckets old new s b =
    idle_keeps traced is_named name file old new s
    (record {
      table = ap (λ h. h.table) b.knows ∙ s.of.table;
      initial = ap (λ h. h.view.initial) b.knows ∙ s.of.initial;
      max = ap (λ h. h.view.max) b.knows ∙ s.of.max;
      recording = ap (λ h. h.recording) b.knows ∙ s.of.recording;
    })
    (counting_knows file buckets old new b)

-- A visit leaves a session one,
visited_keeps : (traced is_named : Bool) (name file : FileState) (copy : BucketCopy) (old new : HandState) →
    IsSession traced is_named name file old → HasVisited traced file old copy new →
    IsSession traced is_named name file new
visited_keeps traced is_named name file copy old new s v = record {
  of =
      record {
        table = ap (λ h. h.table) v.told ∙ s.of.table;
        initial = ap (λ h. h.view.initial) v.told ∙ s.of.initial;
        max = ap (λ h. h.view.max) v.told ∙ s.of.max;
        recording = ap (λ h. h.recording) v.told ∙ s.of.recording;
      };
  right = ap (λ h. h.view.has_right) v.told ∙ s.right;
  recording = ap (λ h. h.recording) v.told ∙ s.recording;
  acts = ap (λ h. h.acts) v.told ∙ s.acts;
  own = λ t. subst NoneOutside (sym (ap (λ h. h.entries) v.told)) (s.own t);
  named = s.named;
  listed = s.listed;
}

-- and so does a scan.
pub scanned_keeps : (traced is_named : Bool) (name file : FileState) (copies : List BucketCopy)
    (scan after : Scanning) (old new : HandState) → IsSession traced is_named name file old →
    HasScanned traced file scan old copies after new → IsSession traced is_named name file new
scanned_keeps traced is_named name file [] scan after old new s h =
    subst (IsSession traced is_named name file) (sym h.1) s
scanned_keeps traced is_named name file (copy ∷ copies) scan after old new s h =
    scanned_keeps traced is_named name file copies h.0 after h.1 new
    (visited_keeps traced is_named name file copy old h.1 s h.3) h.4

-- What every call promises keeps a session one.
pub makes_keeps : {T : Type 0} (traced is_named : Bool) (name file : FileState) (old new : HandState) (call : Call)
    (result : Result T FileFault) (reply_in : T → Reply) → IsSession traced is_named name file old →
    Makes file old call result reply_in new →
    (traced ≡ true → IfOk result (λ t. HasEntered false old call (reply_in t) new)) →
    IsSession traced is_named name file new
makes_keeps traced is_named name file old new call (Ok t) reply_in s m entered =
    made_keeps traced is_named name file old new s m.of call (reply_in t) m.served entered
makes_keeps traced is_named name file old new call (Err e) reply_in s m entered =
    idle_keeps traced is_named name file old new s m.of m.err

-- So does what those promise that read and write in one act.
pub at_once_keeps : {T : Type 0} (traced is_named : Bool) (name file : FileState) (key : List ℕ)
    (old new : HandState) (does : Reaction T) (result : Result T FileFault) → IsSession traced is_named name file old →
    MakesAtOnce traced file key old does result new → IsSession traced is_named name file new
at_once_keeps traced is_named name file key old new does (Ok t) s m =
    met_keeps traced is_named name file old new s m.made.of m.call m.given m.was m.made.served m.met
at_once_keeps traced is_named name file key old new does (Err e) s m =
    idle_keeps traced is_named name file old new s m.made.of m.made.err

-- A session that gives calls away is one.
pub lessened_keeps : (traced is_named : Bool) (name file : FileState) (calls : ℕ) (old new : HandState) →
    IsSession traced is_named name file old → new ≡ seeing old (lessened calls old.view) →
    IsSession traced is_named name file new
lessened_keeps traced is_named name file calls old new s is = record {
  of =
      record {
        table = ap (λ h. h.table) is ∙ s.of.table;
        initial = ap (λ h. h.view.initial) is ∙ s.of.initial;
        max = ap (λ h. h.view.max) is ∙ s.of.max;
        recording = ap (λ h. h.recording) is ∙ s.of.recording;
      };
  right = ap (λ h. h.view.has_right) is ∙ s.right;
  recording = ap (λ h. h.recording) is ∙ s.recording;
  acts = ap (λ h. h.acts) is ∙ s.acts;
  own = λ t. subst NoneOutside (sym (ap (λ h. h.entries) is)) (s.own t);
  named = s.named;
  listed = s.listed;
}

-- A session that takes another one's hand in is one.
pub joined_keeps : (traced is_named : Bool) (name file : FileState) (first second new : HandState) →
    IsSession traced is_named name file first → IsSession traced is_named name file second →
    IsJoined first second new → IsOf file new → IsSession traced is_named name file new
joined_keeps traced is_named name file first second new one two j of = record {
  of = of;
  right = ap (λ v. v.has_right) j.view ∙ one.right;
  recording = j.recording ∙ one.recording;
  acts = j.acts ∙ ap (λ acts. acts ++ second.acts) one.acts ∙ two.acts;
  own =
      λ t.
      subst NoneOutside (sym j.entries)
      (each_append (λ (a : Entry). a.outside ≡ false) first.entries second.entries (one.own t) (two.own t));
  named = one.named;
  listed = one.listed;
}
