-- Hands that look at their file, and make no call
use Rattle.std.proofs.Common.{◌≡◌, ◌∙◌, ℕ, ◌%◌, List, [], ◌∷◌, ◌++◌, All, inl, inr, refl, sym, ap, subst}
use Rattle.std.specs.Prelude.{Contains}
use Rattle.std.proofs.lemmas.List.Elements.{All-weaker, All-push, Contains-append_left, Contains-append_right}
use Rattle.std.proofs.lemmas.List.Elements.{Contains-push}
use Rattle.lh_settling.specs.ClosedFile.{ClosedFile}
use Rattle.lh_file.specs.Closing.{NoneOutside}
use Rattle.lh_file.specs.FileState.{FileState, IsOf}
use Rattle.lh_file.specs.History.Own.{IsOwn, share_of}
use Rattle.lh_file.specs.Snapshots.Hands.{HasSurveyed}
use Rattle.lh_file.specs.Snapshots.Moments.{IsSnapshot}
use Rattle.lh_file.specs.Words.HandState.{HandState, IsJoined, knowing, told_of}
use Rattle.lh_words.specs.declared.seat_view.Entry.{Entry}
use Rattle.lhash.specs.Crew.{HasLookedOn, HasTakenOne, KnowsOf}

-- a hand that was told of more forgets nothing
knows_more : (old new : HandState) (more : List (List Entry)) → new.logs ≡ old.logs ++ more → KnowsOf old new
knows_more old new more is log in_old =
    subst (λ logs. Contains logs log) (sym is) (Contains-append_left old.logs more log in_old)

-- and nor does one that two were joined into
pub joined_knows : (first second new : HandState) → IsJoined first second new → KnowsOf first new × KnowsOf second new
joined_knows first second new j = (
  knows_more first new second.logs j.logs,
  λ log in_second.
      subst (λ logs. Contains logs log) (sym j.logs) (Contains-append_right first.logs second.logs log in_second),
)

-- one that has looked on, and again
looked : (file : FileState) (first old new same : HandState) → new ≡ same → same.entries ≡ old.entries →
    same.view.has_right ≡ old.view.has_right → same.acts ≡ old.acts →
    share_of same ≡ share_of old → KnowsOf old same → IsOf file new → HasLookedOn file first old →
    HasLookedOn file first new
looked file first old new same is entries right acts share knows of k = record {
  own = record { of = of; own = subst NoneOutside (sym (ap (λ (h : HandState). h.entries) is ∙ entries)) k.own.own };
  right = ap (λ (h : HandState). h.view.has_right) is ∙ right ∙ k.right;
  acts = ap (λ (h : HandState). h.acts) is ∙ acts ∙ k.acts;
  share = ap share_of is ∙ share ∙ k.share;
  knows = λ log in_first. subst (λ (h : HandState). Contains h.logs log) (sym is) (knows log (k.knows log in_first));
}

-- a hand that is its file's own, and has done nothing since, has looked on
pub looked_first : (file : FileState) (hand : HandState) → IsOwn file hand → HasLookedOn file hand hand
looked_first file hand own = record {
  own = own;
  right = refl;
  acts = refl;
  share = refl;
  knows = λ log there. there;
}

-- a hand that has looked on, and then was told of a log, has looked on
pub looked_told : (file : FileState) (first old new : HandState) (count : ℕ) (log : List Entry) →
    new ≡ told_of old count log →
    HasLookedOn file first old → HasLookedOn file first new
looked_told file first old new count log is k =
    let of : IsOf file (told_of old count log) = record {
      table = k.own.of.table;
      initial = k.own.of.initial;
      max = k.own.of.max;
      recording = k.own.of.recording;
    } in
    looked file first old new (told_of old count log) is refl refl refl refl
    (knows_more old (told_of old count log) (log ∷ []) refl) (subst (IsOf file) (sym is) of) k

-- so has one that then looked at the records of the file
pub looked_surveyed : (file : FileState) (first old new : HandState) → HasSurveyed old new → IsOf file new →
    HasLookedOn file first old → HasLookedOn file first new
looked_surveyed file first old new h of k =
    elim h.told [
      | inl is ↦ looked file first old new (knowing old h.known) is refl refl refl refl (λ log there. there) of k
      | inr told ↦ looked file first old new (told_of (knowing old h.known) told.0 told.1) told.3 refl refl refl refl
          (knows_more old (told_of (knowing old h.known) told.0 told.1) (told.1 ∷ []) refl) of k
    ]

-- so has one that then looked on again
pub looked_again : (file : FileState) (first old new : HandState) → HasLookedOn file old new →
    HasLookedOn file first old → HasLookedOn file first new
looked_again file first old new h k =
    record {
      own = h.own;
      right = h.right ∙ k.right;
      acts = h.acts ∙ k.acts;
      share = h.share ∙ k.share;
      knows = λ log there. h.knows log (k.knows log there);
    }

-- a snapshot was taken just now
pub taken_now : (file : FileState) (old new : HandState) (snapshot : ClosedFile) (known : ℕ) (log : List Entry) →
    snapshot.config ≡ file.config → snapshot.root % 2 ≡ 0 →
    new ≡ told_of (knowing old known) snapshot.stamps log → IsSnapshot file.listing snapshot old.entries old.logs log →
    HasTakenOne file new snapshot
taken_now file old new snapshot known log config whole is held = record {
  config = config;
  whole = whole;
  entries = old.entries;
  logs = old.logs;
  log = log;
  is = held;
  told = subst (λ (h : HandState). Contains h.logs log) (sym is) (Contains-push old.logs log);
}

-- what was taken before still was
taken_still : (file : FileState) (old new : HandState) → KnowsOf old new → (snapshot : ClosedFile) →
    HasTakenOne file old snapshot → HasTakenOne file new snapshot
taken_still file old new knows snapshot t =
    record {
      config = t.config;
      whole = t.whole;
      entries = t.entries;
      logs = t.logs;
      log = t.log;
      is = t.is;
      told = knows t.log t.told;
    }

-- a hand that was told of all that another one was has taken that one's snapshots
pub taken_kept : (file : FileState) (old new : HandState) (taken : List ClosedFile) → KnowsOf old new →
    All (HasTakenOne file old) taken → All (HasTakenOne file new) taken
taken_kept file old new taken knows each =
    All-weaker (HasTakenOne file old) (HasTakenOne file new) (taken_still file old new knows) taken each

-- the same, with one snapshot more that it took itself
pub taken_more : (file : FileState) (old new : HandState) (taken : List ClosedFile) (snapshot : ClosedFile) →
    KnowsOf old new → All (HasTakenOne file old) taken → HasTakenOne file new snapshot →
    All (HasTakenOne file new) (taken ++ snapshot ∷ [])
taken_more file old new taken snapshot knows each here =
    All-push (HasTakenOne file new) taken snapshot (taken_kept file old new taken knows each) here
