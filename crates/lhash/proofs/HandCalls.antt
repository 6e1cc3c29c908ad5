-- How many calls a hand has, and has made, when its file is opened, when it makes one, and when it is joined
use Rattle.std.proofs.Common.{◌≡◌, ◌∙◌, ℕ, ◌+◌, ◌^◌, ◌++◌, Bool, true, false, Result, Ok, Err, length, length-append}
use Rattle.std.proofs.Common.{sym, ap, subst, arith}
use Rattle.std.proofs.lemmas.List.{length_push}
use Rattle.std.specs.Prelude.{IfOk, OnOk}
use Rattle.lh_addr.specs.Settings.{Settings}
use Rattle.lh_bucket.specs.Answer.{Answered}
use Rattle.lh_bucket.specs.declared.call.Call.{Call}
use Rattle.lh_bucket.specs.declared.call.Reply.{Reply}
use Rattle.lh_settling.specs.declared.act.ActLine.{ActLine}
use Rattle.lh_file.specs.Calls.Served.{HasServed, Serves}
use Rattle.lh_file.specs.Closing.{NoneOutside}
use Rattle.lh_file.specs.FileState.{FileState, IsOpened}
use Rattle.lh_file.specs.History.Entered.{HasEntered}
use Rattle.lh_file.specs.History.Own.{JoinedLaw, ServedLaw}
use Rattle.lh_file.specs.Words.HandState.{HandState, IsJoined}
use Rattle.lh_file.specs.Words.Recording.{kept_of}
use Rattle.lh_file.specs.declared.fault.FileFault.{FileFault}
use Rattle.lh_words.specs.declared.view.View.{View}
use Rattle.lhash.specs.Crew.{HasCalls, HasLookedOn}

-- a part in a table that has so many calls, and has made so many, has as many
pub as_many : {Hands : Type 0} (Have : ℕ → ℕ → Hands → Type 0) (hands : Hands) {calls made all most : ℕ} →
    calls ≡ all → made ≡ most → Have calls made hands → Have all most hands
as_many Have hands {calls} {made} {all} {most} is made_is have =
    subst (λ n. Have n most hands) is (subst (λ n. Have calls n hands) made_is have)

-- the first hand of a file that records has 2^63 calls, and has made none
pub opened_calls : (config : Settings) (buckets : ℕ) (recording : Bool) (opening : ℕ) (file : FileState)
    (hand : HandState) → IsOpened config buckets recording opening file hand → recording ≡ true →
    HasCalls file (2 ^ 63) 0 hand
opened_calls config buckets recording opening file hand o records = record {
  own = record { of = o.is_of; own = subst NoneOutside (sym o.entries) (λ p e at. absurd cc) };
  right = ap (λ (v : View). v.has_right) o.view;
  records = o.recording_is ∙ records;
  share = omega (arith, ap (λ (v : View). v.left) o.view, ap length o.acts);
  acts = ap length o.acts;
}

-- a hand that records keeps one act more after a call
pub served_one : (old : HandState) (call : Call) (reply : Reply) (new : HandState) → old.recording ≡ true →
    HasServed old call reply new → length new.acts ≡ length old.acts + 1
served_one old call reply new recording s =
    let line : ActLine = record { stamp = s.stamp; call = call; reply = reply } in
    ap length s.acts ∙ ap (λ records. length (old.acts ++ kept_of records line)) recording ∙ length_push old.acts line

-- after a call that was answered a hand has made one call more
pub call_made : ServedLaw → (file : FileState) (call : Call) (result : Result Answered FileFault)
    (old new : HandState) → Serves file old call result new →
    IfOk result (λ a. HasEntered false old a.call a.reply new) →
    OnOk result ((calls made : ℕ) → HasCalls file calls made old → HasCalls file calls (made + 1) new)
call_made law file call (Ok a) old new s entered = λ calls made h.
    let records = h.own.of.recording ∙ h.records in
    let kept = law file call (Ok a) old new s in record {
      own = kept.0 entered h.own;
      right = ap (λ (v : View). v.has_right) s.served.view ∙ h.right;
      records = h.records;
      share = kept.1 records ∙ h.share;
      acts = served_one old a.call a.reply new records s.served ∙ ap (λ n. n + 1) h.acts;
    }
call_made law file call (Err fault) old new s entered = tt

-- a hand made of two has the calls of both
pub joined : JoinedLaw → (file : FileState) (first second new : HandState) → IsJoined first second new →
    (calls made others more : ℕ) → HasCalls file calls made first → HasCalls file others more second →
    HasCalls file (calls + others) (made + more) new
joined law file first second new j calls made others more a b =
    let both = law file first second new j in record {
      own = both.0 a.own b.own;
      right = ap (λ (v : View). v.has_right) j.view ∙ a.right;
      records = a.records;
      share = omega (arith, both.1, a.share, b.share);
      acts = omega (arith, ap length j.acts, length-append first.acts second.acts, a.acts, b.acts);
    }

-- a hand that looked on has made no call
pub looked_still : (file : FileState) (old new : HandState) → HasLookedOn file old new → (calls : ℕ) →
    HasCalls file calls 0 old → HasCalls file calls 0 new
looked_still file old new l calls h = record {
  own = l.own;
  right = l.right ∙ h.right;
  records = h.records;
  share = l.share ∙ h.share;
  acts = ap length l.acts ∙ h.acts;
}
