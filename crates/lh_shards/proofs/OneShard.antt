-- A call on one shard leaves hands of all
use Rattle.std.proofs.Common.{◌≡◌, ℕ, ◌<◌, Bool, true, false, List, [], ◌∷◌, ◌++◌, length, map, set, Result}
use Rattle.std.proofs.Common.{Some, Ok, Err, refl, sym, ap, ◌∙◌, subst, ⊎_elim, arith}
use Rattle.std.specs.List.{slice_get}
use Rattle.std.proofs.lemmas.List.Elements.{All-append, All-push}
use Rattle.std.proofs.lemmas.List.{map_push}
use Rattle.std.proofs.lemmas.Option.{same_Some, slice_get_within}
use Rattle.lh_bucket.specs.Answer.{Answered}
use Rattle.lh_bucket.specs.Listing.{size}
use Rattle.lh_bucket.specs.PlainMap.{key_of}
use Rattle.lh_bucket.specs.declared.call.Call.{Call}
use Rattle.lh_bucket.specs.declared.call.Reply.{Reply}
use Rattle.lh_file.specs.Calls.Served.{Makes, Serves, HasServed}
use Rattle.lh_addr.specs.Settings.{Settings}
use Rattle.lh_file.specs.FileState.{FileState, IsOf, IsOpened}
use Rattle.lh_file.specs.HashFile.{Shared}
use Rattle.lh_file.specs.Words.HandState.{HandState}
use Rattle.lh_file.specs.Words.Recording.{kept_of}
use Rattle.lh_settling.specs.declared.act.ActLine.{ActLine}
use Rattle.lh_file.specs.declared.fault.FileFault.{FileFault}
use Rattle.lh_words.specs.declared.view.View.{View}
use Rattle.lh_shards.specs.Hands.{AreOf, AtShard, AreAtHome, IsOfShard, ShardFact, EachShard}
use Rattle.lh_shards.specs.Number.{home_of}
use Rattle.lh_file.specs.History.Telling.{HasTold}
use Rattle.lh_shards.proofs.Places.{at_set, at_push, length_mapped}
use lib.ListN.{length-set}

kept_home : (n i : ℕ) (recording : Bool) (line : ActLine) → home_of n (key_of line.call) ≡ i →
    AreAtHome n i (kept_of recording line)
kept_home n i true line h =
    All-push (λ (act : ActLine). home_of n (key_of act.call) ≡ i) [] line (λ k d lt. absurd (omega arith)) h
kept_home n i false line h = λ k d lt. absurd (omega arith)

served_home : (n i : ℕ) (old : HandState) (call : Call) (reply : Reply) (new : HandState) →
    HasServed old call reply new → home_of n (key_of call) ≡ i → AreAtHome n i old.acts → AreAtHome n i new.acts
served_home n i old call reply new s key h =
    let line : ActLine = record { stamp = s.stamp; call = call; reply = reply } in
    subst (λ l. AreAtHome n i l) (sym s.acts)
    (All-append (λ (act : ActLine). home_of n (key_of act.call) ≡ i) old.acts (kept_of old.recording line) h
    (kept_home n i old.recording line key))

made_home : {T : Type 0} (n i : ℕ) (file : FileState) (old : HandState) (call : Call) (result : Result T FileFault)
    (reply_in : T → Reply) (new : HandState) → Makes file old call result reply_in new →
    home_of n (key_of call) ≡ i → AreAtHome n i old.acts → AreAtHome n i new.acts
made_home n i file old call (Ok t) reply_in new m key h = served_home n i old call (reply_in t) new m.served key h
made_home n i file old call (Err e) reply_in new m key h = subst (λ l. AreAtHome n i l) (sym m.err.acts) h

-- the right to split is as before
made_right : {T : Type 0} (file : FileState) (old : HandState) (call : Call) (result : Result T FileFault)
    (reply_in : T → Reply) (new : HandState) → Makes file old call result reply_in new →
    new.view.has_right ≡ old.view.has_right
made_right file old call (Ok t) reply_in new m = ap (λ (v : View). v.has_right) m.served.view
made_right file old call (Err e) reply_in new m = ap (λ (v : View). v.has_right) m.err.view

-- a call that gives an answer has made the call that was asked for, with the answer's reply
pub makes : {file : FileState} {old : HandState} {call : Call} {new : HandState} (result : Result Answered FileFault) →
    Serves file old call result new → Makes file old call result (λ a. a.reply) new
makes {file} {old} {call} {new} (Ok a) s = record {
  served = subst (λ c. HasServed old c a.reply new) s.call s.served;
  spent = s.spent;
  not_spent = s.not_spent;
  err = s.err;
  of = s.of;
}
makes (Err e) s = record { served = tt; spent = s.spent; not_spent = s.not_spent; err = s.err; of = s.of }

-- hands of some files stay so when a hand of a shard takes the place of the one there
pub of_after : (files : List FileState) (olds : List HandState) (i : ℕ) (f : FileState) (a : HandState) →
    AreOf files olds → slice_get files i ≡ Some f → IsOfShard (length files) i f a → AreOf files (set olds i a)
of_after files olds i f a h at good = record {
  count = length-set olds i a ∙ h.count;
  each = λ j file hand fj hj. ⊎_elim
      (λ e.
      let fi : slice_get files i ≡ Some file = subst (λ k. slice_get files k ≡ Some file) e.0 fj in
      let same : f ≡ file = same_Some f file (sym at ∙ fi) in
      subst (λ k. IsOfShard (length files) k file hand) (sym e.0)
      (subst (λ x. IsOfShard (length files) i x hand) same
      (subst (λ y. IsOfShard (length files) i f y) (sym e.1) good)))
      (λ old. h.each j file hand fj old)
      (at_set olds i a j hand hj);
}

-- a hand that stays one of its file, keeps its right to split and has acts of the shard stays a hand of the shard
pub of_kept : {file : FileState} {old new : HandState} {files : List FileState} {hands : List HandState} {i : ℕ} →
    AreOf files hands → slice_get files i ≡ Some file → slice_get hands i ≡ Some old → IsOf file new →
    new.view.has_right ≡ old.view.has_right →
    (AreAtHome (length files) i old.acts → AreAtHome (length files) i new.acts) → AreOf files (set hands i new)
of_kept {file} {old} {new} {files} {hands} {i} h at mine of right home =
    let was : IsOfShard (length files) i file old = h.each i file old at mine in
    of_after files hands i file new h at (record { of = of; right = right ∙ was.right; home = home was.home })

-- after a call on its key's shard the hands are those of their files still
pub of_made : {T : Type 0} {call : Call} {result : Result T FileFault} {reply_in : T → Reply} {file : FileState}
    {old new : HandState} {files : List FileState} {hands : List HandState} {i : ℕ} {key : List ℕ} →
    AreOf files hands → i ≡ home_of (length files) key → key_of call ≡ key → slice_get files i ≡ Some file →
    slice_get hands i ≡ Some old → Makes file old call result reply_in new → AreOf files (set hands i new)
of_made {T} {call} {result} {reply_in} {file} {old} {new} {files} {hands} {i} h home by at mine m =
    of_kept h at mine m.of (made_right file old call result reply_in new m)
    (made_home (length files) i file old call result reply_in new m (ap (home_of (length files)) by ∙ sym home))

-- what the file and the hand of a shard have done is done on that shard, and the other hands are as they were
pub at_place : {file : FileState} {old new : HandState} {files : List FileState} {hands : List HandState} {i : ℕ}
    (Does : FileState → HandState → HandState → Type 0) →
    slice_get files i ≡ Some file → slice_get hands i ≡ Some old → Does file old new →
    AtShard i files hands (set hands i new) Does
at_place {file} {old} {new} Does at mine done = record {
  file = file;
  before = old;
  after = new;
  file_is = at;
  before_is = mine;
  after_is = refl;
  does = done;
}

-- the same, of a shard whose number stands for another one's
pub at_same : {file : FileState} {old new : HandState} {files : List FileState} {hands : List HandState} {i j : ℕ}
    (Does : FileState → HandState → HandState → Type 0) → i ≡ j →
    slice_get files i ≡ Some file → slice_get hands i ≡ Some old → Does file old new →
    AtShard j files hands (set hands i new) Does
at_same {file} {old} {new} {files} {hands} {i} Does is at mine done =
    subst (λ k. AtShard k files hands (set hands i new) Does) is (at_place Does at mine done)

-- a shard more
pub grown : (Fact : ShardFact) (ss : List FileState) (hs : List HandState) (s : FileState) (h : HandState) →
    length ss ≡ length hs → EachShard Fact ss hs → Fact (length hs) s h → EachShard Fact (ss ++ s ∷ []) (hs ++ h ∷ [])
grown Fact ss hs s h n each new j file hand fj hj =
    ⊎_elim
    (λ a. ⊎_elim
    (λ b.
    subst (λ k. Fact k file hand) (sym b.0)
    (subst (λ f. Fact (length hs) f hand) (sym a.1) (subst (λ x. Fact (length hs) s x) (sym b.1) new)))
    (λ old.
    let lt : j < length hs = slice_get_within hs j hand old in let e : j ≡ length ss = a.0 in absurd (omega arith))
    (at_push hs h j hand hj))
    (λ was. ⊎_elim
    (λ b.
    let lt : j < length ss = slice_get_within ss j file was in let e : j ≡ length hs = b.0 in absurd (omega arith))
    (λ old. each j file hand was old)
    (at_push hs h j hand hj))
    (at_push ss s j file fj)

-- the same of files of which more is seen than their state
pub grown_files : (Fact : ShardFact) (fs : List Shared) (hs : List HandState) (x : Shared) (h : HandState) →
    length fs ≡ length hs → EachShard Fact (map (λ (file : Shared). file.state) fs) hs → Fact (length hs) x.state h →
    EachShard Fact (map (λ (file : Shared). file.state) (fs ++ x ∷ [])) (hs ++ h ∷ [])
grown_files Fact fs hs x h n each new =
    subst (λ l. EachShard Fact l (hs ++ h ∷ [])) (sym (map_push (λ (file : Shared). file.state) fs x))
    (grown Fact (map (λ (file : Shared). file.state) fs) hs x.state h
    (length_mapped (λ (file : Shared). file.state) fs ∙ n) each new)

-- hands of some files, none of which has the right to split or an act
pub idle_are_of : (files : List FileState) (hands : List HandState) → length hands ≡ length files →
    EachShard (λ shard file hand. IsOf file hand × (hand.view.has_right ≡ false) × (hand.acts ≡ [])) files hands →
    AreOf files hands
idle_are_of files hands n each = record {
  count = n;
  each = λ i f h fi hi.
      let idle : IsOf f h × (h.view.has_right ≡ false) × (h.acts ≡ []) = each i f h fi hi in record {
        of = idle.0;
        right = idle.1;
        home = subst (λ l. AreAtHome (length files) i l) (sym idle.2) (λ k d lt. absurd (omega arith));
      };
}

-- files that were opened so, with their first hands
pub opened_of : (files : List FileState) (hands : List HandState) (config : ℕ → Settings) (buckets : ℕ → ℕ)
    (recording : Bool) (records : ℕ → ℕ) → length hands ≡ length files →
    EachShard (λ shard. IsOpened (config shard) (buckets shard) recording (records shard)) files hands →
    AreOf files hands
opened_of files hands config buckets recording records n each =
    idle_are_of files hands n
    (λ i f h fi hi. let o : IsOpened (config i) (buckets i) recording (records i) f h = each i f h fi hi in
    (o.is_of, ap (λ (v : View). v.has_right) o.view, o.acts))

-- a file that is opened with its listing's buckets, and its first hand
abbrev pub OpenedAs : ShardFact
OpenedAs shard file hand =
    IsOpened file.listing.config (size file.listing) file.recording file.opening file hand

-- the first hands of files that are opened with their listings' buckets are hands of these files
pub traced_are_of : (files : List FileState) (hands : List HandState) → length hands ≡ length files →
    EachShard OpenedAs files hands → AreOf files hands
traced_are_of files hands n each =
    idle_are_of files hands n
    (λ i f h fi hi. let o : OpenedAs i f h = each i f h fi hi in
    (o.is_of, ap (λ (v : View). v.has_right) o.view, o.acts))

-- the hand was told of its shard's history, and stays a hand of the shard
pub of_told : {traced : Bool} {file : FileState} {old new : HandState} {files : List FileState}
    {hands : List HandState} {count : ℕ} (i : ℕ) → AreOf files hands → slice_get files i ≡ Some file →
    slice_get hands i ≡ Some old → HasTold traced file old count new → AreOf files (set hands i new)
of_told {traced} {file} {old} {new} {files} {hands} i h at mine t =
    let was : IsOf file old = (h.each i file old at mine).of in
    of_kept h at mine
    (subst (λ n. IsOf file n) (sym t.after_is) (record {
      table = was.table;
      initial = was.initial;
      max = was.max;
      recording = was.recording;
    }))
    (ap (λ (n : HandState). n.view.has_right) t.after_is)
    (subst (λ (n : HandState). AreAtHome (length files) i n.acts) (sym t.after_is))
