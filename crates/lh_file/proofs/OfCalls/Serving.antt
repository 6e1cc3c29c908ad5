-- What the parts of a call do to its hand, one after another
use Rattle.std.proofs.Common.{◌≡◌, ℕ, ◌+◌, ◌-◌, ◌<◌, ◌≤◌, Some, None, [], ◌∷◌, ◌++◌, All, refl, sym}
use Rattle.std.proofs.Common.{ap, ◌∙◌, subst, arith}
use Rattle.std.specs.FinMap.{get}
use Rattle.std.specs.Prelude.{Result, Ok, Err, IfOk, IfErr, OnErr}
use Rattle.std.proofs.lemmas.Bool.{false≢true}
use Rattle.lh_bucket.specs.PlainMap.{Records, found, reply, IsSearch}
use Rattle.lh_bucket.specs.declared.call.Call.{Call}
use Rattle.lh_bucket.specs.declared.call.Call.TheVariants.{Search, Insert, Delete, Replace}
use Rattle.lh_bucket.specs.declared.call.Reply.{Reply}
use Rattle.lh_file.specs.FileState.{FileState, IsOf}
use Rattle.lh_file.specs.Words.HandState.{HandState, IsSame}
use Rattle.lh_file.specs.Words.Recording.{Acted, kept_of}
use Rattle.lh_words.specs.Counting.{inserts_of, deletes_of}
use Rattle.lh_file.specs.Calls.Served.{KnowsMore, HasServed, IsNotSpent, Makes}
use Rattle.lh_words.specs.Views.{stamped_with}
use Rattle.lh_file.specs.declared.fault.FileFault.{FileFault}
use Rattle.lh_words.specs.declared.view.View.{View}

-- a hand that nothing happened to
pub knows_same : (h : HandState) → KnowsMore h h
knows_same h =
    record {
      known = h.view.known;
      rises = omega arith;
      view = refl;
      entries = refl;
      logs = refl;
      acts = refl;
      table = refl;
      recording = refl;
    }

-- a hand that is as it was knows no less
pub knows_equal : (a b : HandState) → b ≡ a → KnowsMore a b
knows_equal a b e = subst (KnowsMore a) (sym e) (knows_same a)

-- nor does one that has more room, and else is as it was
pub knows_room : (a b : HandState) → IsSame a b → KnowsMore a b
knows_room a b same =
    record {
      known = a.view.known;
      rises = omega arith;
      view = same.view;
      entries = same.entries;
      logs = same.logs;
      acts = same.acts;
      table = same.table;
      recording = same.recording;
    }

-- a hand that made an act is one of the same file
pub acted_of : (file : FileState) (a c : HandState) (call : Call) (reply : Reply) → IsOf file a → Acted a call reply c →
    IsOf file c
acted_of file a c call reply of (stamp, act) = record {
  table = act.table ∙ of.table;
  initial = ap (λ (v : View). v.initial) act.view ∙ of.initial;
  max = ap (λ (v : View). v.max) act.view ∙ of.max;
  recording = act.recording ∙ of.recording;
}

-- a look before a call that was served
pub knows_then_served : (a b c : HandState) (call : Call) (reply : Reply) → KnowsMore a b → HasServed b call reply c →
    HasServed a call reply c
knows_then_served a b c call reply looked served = record {
  stamp = served.stamp;
  known = served.known;
  newest = subst (All (λ x. x < served.stamp)) (ap (λ (v : View). v.stamps) looked.view) served.newest;
  enough = let l = ap (λ (v : View). v.left) looked.view in omega (arith, served.enough, l);
  rises = let k = ap (λ (v : View). v.known) looked.view in omega (arith, looked.rises, served.rises, k);
  view =
      served.view
      ∙ ap
      (λ (v : View).
      record v {
        known = served.known;
        stamps = v.stamps ++ served.stamp ∷ [];
        left = v.left - 1;
        inserted = v.inserted + inserts_of reply;
        deleted = v.deleted + deletes_of reply;
      }) looked.view;
  logs = served.logs ∙ looked.logs;
  acts =
      served.acts
      ∙ ap (λ xs. xs ++ kept_of b.recording (record { stamp = served.stamp; call = call; reply = reply })) looked.acts
      ∙ ap (λ r. a.acts ++ kept_of r (record { stamp = served.stamp; call = call; reply = reply })) looked.recording;
  table = served.table ∙ looked.table;
  recording = served.recording ∙ looked.recording;
}

-- a hand that may make a call after a look may have made it before
may_call : (a b : HandState) → KnowsMore a b → 1 ≤ b.view.left → 1 ≤ a.view.left
may_call a b looked left = let l = ap (λ (v : View). v.left) looked.view in omega (arith, left, l)

module _ {T : Type 0} where
  -- a look, and then a result or a fault that left the hand as it was, are what a call without an answer promises
  pub knows_then_makes : (file : FileState) (a b c : HandState) (call : Call) (r : Result T FileFault)
      (reply_in : T → Reply) → KnowsMore a b → 1 ≤ b.view.left →
      IfOk r (λ t. HasServed b call (reply_in t) c) → IsOf file c → OnErr r (c ≡ b) → IfErr r IsNotSpent →
      Makes file a call r reply_in c
  knows_then_makes file a b c call (Ok t) reply_in looked left served of same fault = record {
    served = knows_then_served a b c call (reply_in t) looked served;
    spent = (
      (λ is. absurd (subst (λ (r : Result T FileFault). OnErr r ⊥) is tt)),
      (λ none. let may = may_call a b looked left in absurd (omega (arith, may, none))),
    );
    not_spent = λ may. tt;
    err = tt;
    of = of;
  }
  knows_then_makes file a b c call (Err f) reply_in looked left served of same fault = record {
    served = tt;
    spent = (
      (λ is. absurd (subst (λ (r : Result T FileFault). IfErr r IsNotSpent) is fault)),
      (λ none. let may = may_call a b looked left in absurd (omega (arith, may, none))),
    );
    not_spent = λ may. fault;
    err = subst (KnowsMore a) (sym same) looked;
    of = of;
  }

-- a search counts in neither count
pub uncounted : (m : Records) (call : Call) → IsSearch call →
    (inserts_of (reply m call) ≡ 0) × (deletes_of (reply m call) ≡ 0)
uncounted m (Search key) is =
    elim (get m key) as (λ o. (inserts_of (found o) ≡ 0) × (deletes_of (found o) ≡ 0))
    [ Some value ↦ (refl, refl) | None ↦ (refl, refl) ]
uncounted m (Insert key value) is = absurd (false≢true is)
uncounted m (Delete key) is = absurd (false≢true is)
uncounted m (Replace key value) is = absurd (false≢true is)

-- the view of a hand that made an act which counts in neither
pub stamped_same : (v : View) (stamp i d : ℕ) → i ≡ 0 → d ≡ 0 →
    stamped_with v stamp ≡
    record v
    { stamps = v.stamps ++ stamp ∷ []; left = v.left - 1; inserted = v.inserted + i; deleted = v.deleted + d }
stamped_same v stamp i d first second =
    let p : v.inserted ≡ v.inserted + i = omega arith in let q : v.deleted ≡ v.deleted + d = omega arith in
    ap (λ (x : ℕ). record v { stamps = v.stamps ++ stamp ∷ []; left = v.left - 1; inserted = x }) p
    ∙ ap
    (λ (y : ℕ).
    record v { stamps = v.stamps ++ stamp ∷ []; left = v.left - 1; inserted = v.inserted + i; deleted = y }) q
