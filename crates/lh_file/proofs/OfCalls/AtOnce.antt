-- What a call does to its hand that reads and writes in one act
use Rattle.std.proofs.Common.{◌≡◌, ◌≢◌, ℕ, ◌≤◌, Bool, true, false, not, cond, List, [], ◌∷◌, ◌++◌, Option, Some, None}
use Rattle.std.proofs.Common.{refl, sym, ap, ◌∙◌, subst, arith}
use Rattle.std.specs.Prelude.{Result, Ok, Err, ◌↔◌}
use Rattle.std.specs.Result.{IsErrAnd}
use Rattle.std.specs.Str.{bytes_eq}
use Rattle.std.proofs.lemmas.Bool.{false≢true}
use Rattle.std.proofs.lemmas.Slice.Eq.{bytes_eq-Decides}
use Rattle.lh_bucket.specs.PlainMap.{found, key_of}
use Rattle.lh_bucket.specs.declared.call.Call.{Call}
use Rattle.lh_bucket.specs.declared.call.Call.TheVariants.{Search}
use Rattle.lh_bucket.specs.declared.call.Reply.{Reply}
use Rattle.lh_bucket.specs.declared.call.Reply.TheVariants.{Found, Absent, Inserted, Exists, Deleted, Replaced}
use Rattle.lh_words.specs.History.Log.{entry}
use Rattle.lh_words.specs.Views.{rooted}
use Rattle.lh_words.specs.declared.view.View.{View}
use Rattle.lh_file.specs.Calls.Aiming.{IsReady}
use Rattle.lh_file.specs.Calls.Atomic.{Reaction, MakesAtOnce}
use Rattle.lh_file.specs.Calls.Lent.{remove_reply, LendsTo}
use Rattle.lh_file.specs.Calls.Served.{KnowsMore, HasServed, IsNotSpent}
use Rattle.lh_file.specs.FileState.{FileState, IsOf}
use Rattle.lh_file.specs.History.Entered.{HasActedOn}
use Rattle.lh_file.specs.History.Met.{EnteredLaw}
use Rattle.lh_file.specs.Words.HandState.{HandState}
use Rattle.lh_file.specs.declared.fault.FileFault.{FileFault}
use Rattle.lh_file.specs.declared.fault.FileFault.TheVariants.{Spent}
use Rattle.lh_file.proofs.OfCalls.Serving.{knows_then_makes}

-- an act that met something was entered
pub entered_of : EnteredLaw
entered_of a c call reply was (stamp, above, entries, stamps) = (stamp, above, (was, entries), stamps)

-- a look before an act
pub knows_then_met : (a b c : HandState) (call : Call) (reply : Reply) (was : Option (List ℕ)) → KnowsMore a b →
    HasActedOn b call reply was c → HasActedOn a call reply was c
knows_then_met a b c call reply was looked (stamp, above, entries, stamps) = (
  stamp,
  let f = ap (λ (v : View). v.floor) looked.view in omega arith,
  entries ∙ ap (λ es. es ++ entry false stamp call reply was ∷ []) looked.entries,
  stamps ∙ ap (λ (v : View). v.stamps ++ stamp ∷ []) looked.view,
)

-- and after it
met_then_knows : (a c d : HandState) (call : Call) (reply : Reply) (was : Option (List ℕ)) → HasActedOn a call reply
    was c →
    KnowsMore c d → HasActedOn a call reply was d
met_then_knows a c d call reply was (stamp, above, entries, stamps) looked = (
  stamp,
  above,
  looked.entries ∙ entries,
  ap (λ (v : View). v.stamps) looked.view ∙ stamps,
)

served_then_knows : (a c d : HandState) (call : Call) (reply : Reply) → HasServed a call reply c → KnowsMore c d →
    HasServed a call reply d
served_then_knows a c d call reply served looked = record {
  stamp = served.stamp;
  known = looked.known;
  newest = served.newest;
  enough = served.enough;
  rises = let k = ap (λ (v : View). v.known) served.view in omega (arith, served.rises, looked.rises, k);
  view = looked.view ∙ ap (λ (v : View). rooted v looked.known v.has_right) served.view;
  logs = looked.logs ∙ served.logs;
  acts = looked.acts ∙ served.acts;
  table = looked.table ∙ served.table;
  recording = looked.recording ∙ served.recording;
}

-- what a bucket has under a key where a record was found, or none
pub was_some : (o : Option (List ℕ)) (value : List ℕ) → Found value ≡ found o → o ≡ Some value
was_some (Some v) value is = let e : value ≡ v = cc in ap Some (sym e)
was_some None value is = absurd (no_value is)
  where
    no_value : Found value ≡ Absent → ⊥
    no_value e = cc

pub was_none : (o : Option (List ℕ)) → Absent ≡ found o → o ≡ None
was_none (Some v) is = absurd (no_value is)
  where
    no_value : Absent ≡ Found v → ⊥
    no_value e = cc
was_none None is = refl

-- values that are told alike are the same
pub same_found : (a b : Option (List ℕ)) → found a ≡ found b → a ≡ b
same_found (Some v) b is = sym (was_some b v is)
same_found None b is = sym (was_none b is)

-- a closure was lent what a search finds, where it finds something
pub lent_some : {T : Type 0} (returns : List ℕ → T → Type 0) (given : Reply) (told : T) (o : Option (List ℕ)) →
    LendsTo returns given (Some told) → given ≡ found o → (v : List ℕ) × (o ≡ Some v) × returns v told
lent_some returns (Found v) told o lent is = (v, was_some o v is, lent)
lent_some returns Absent told o lent is = absurd lent
lent_some returns Inserted told o lent is = absurd lent
lent_some returns Exists told o lent is = absurd lent
lent_some returns Deleted told o lent is = absurd lent
lent_some returns Replaced told o lent is = absurd lent

pub lent_none : {T : Type 0} (returns : List ℕ → T → Type 0) (given : Reply) (o : Option (List ℕ)) →
    LendsTo returns given None → given ≡ found o → o ≡ None
lent_none returns (Found v) o lent is = absurd lent
lent_none returns Absent o lent is = was_none o is
lent_none returns Inserted o lent is = was_none o (sym lent ∙ is)
lent_none returns Exists o lent is = was_none o (sym lent ∙ is)
lent_none returns Deleted o lent is = was_none o (sym lent ∙ is)
lent_none returns Replaced o lent is = was_none o (sym lent ∙ is)

-- what the test of two texts says of them
holds : (t : Bool) → false ≡ not t → t ≡ true
holds true e = refl
holds false e = absurd (false≢true e)

pub equal_bytes : (a b : List ℕ) → false ≡ not (bytes_eq a b) → a ≡ b
equal_bytes a b e = (bytes_eq-Decides a b).0 (holds (bytes_eq a b) e)

pub unequal_bytes : (a b : List ℕ) → true ≡ not (bytes_eq a b) → a ≢ b
unequal_bytes a b e same =
    absurd (false≢true (sym (e ∙ ap not ((bytes_eq-Decides a b).1 same))))

-- the reply to a delete
pub removed : (b : Bool) → cond b Deleted Absent ≡ remove_reply b
removed true = refl
removed false = refl

same_fault : {X : Type 0} (f g : FileFault) → ◌≡◌ {A = Result X FileFault} (Err f) (Err g) → f ≡ g
same_fault f g e = cc

as_err : {T : Type 0} (r : Result T FileFault) (f : FileFault) → IsErrAnd r (λ e. e ≡ f) → r ≡ Err f
as_err (Ok t) f is = absurd is
as_err (Err e) f is = ap Err is

module _ {T : Type 0} (traced : Bool) (file : FileState) (key : List ℕ) (Does : Reaction T) where
  -- a call that didn't come to its bucket
  pub not_held : {X : Type 0} (a b : HandState) (r : Result T FileFault) (f : FileFault) → IsErrAnd r (λ e. e ≡ f)
      → (◌≡◌ {A = Result X FileFault} (Err f) (Err (Spent 0))) ↔ (a.view.left ≡ 0)
      → (1 ≤ a.view.left → IsNotSpent f) → KnowsMore a b → IsOf file b → MakesAtOnce traced file key a Does r b
  not_held a b r f is spent not_spent looked of =
      subst (λ x. MakesAtOnce traced file key a Does x b) (sym (as_err r f is)) (record {
        was = None;
        call = Search key;
        given = Absent;
        by = refl;
        does = tt;
        made = record {
          served = tt;
          spent = (
            λ is. spent.0 (ap Err (same_fault f (Spent 0) is)),
            λ none. ap Err (same_fault f (Spent 0) (spent.1
                none)),
          );
          not_spent = not_spent;
          err = looked;
          of = of;
        };
        met = λ on. tt;
      })

  -- one whose act was refused there
  pub not_made : (a b c : HandState) (r : Result T FileFault) (f : FileFault) → IsErrAnd r (λ e. e ≡ f) → KnowsMore a
      b → IsReady file b → c ≡ b → IsNotSpent f → IsOf file c
      → MakesAtOnce traced file key a Does r c
  not_made a b c r f is looked ready same fault of =
      subst (λ x. MakesAtOnce traced file key a Does x c) (sym (as_err r f is)) (record {
        was = None;
        call = Search key;
        given = Absent;
        by = refl;
        does = tt;
        made = knows_then_makes file a b c (Search key) (Err f) (λ t. Absent) looked ready.left tt of same fault;
        met = λ on. tt;
      })

  -- one that made its act
  pub made_one : (a b c : HandState) (t : T) (is was : Option (List ℕ)) (call : Call) (given : Reply) → KnowsMore a b →
      IsReady file b → HasServed b call given c → (traced ≡ true → HasActedOn b call given is c) → is ≡ was → IsOf
      file c
      → key_of call ≡ key → Does key was t call given → MakesAtOnce traced file key a Does (Ok t) c
  made_one a b c t is was call given looked ready served met same of by does = record {
    was = was;
    call = call;
    given = given;
    by = by;
    does = does;
    made = knows_then_makes file a b c call (Ok t) (λ t. given) looked ready.left served of tt tt;
    met = λ on. subst (λ o. HasActedOn a call given o c) same (knows_then_met a b c call given is looked (met on));
  }

  -- and then saw more buckets
  pub then_knows : (a c d : HandState) (t : T) → MakesAtOnce traced file key a Does (Ok t) c → KnowsMore c d → IsOf
      file d →
      MakesAtOnce traced file key a Does (Ok t) d
  then_knows a c d t o looked of = record {
    was = o.was;
    call = o.call;
    given = o.given;
    by = o.by;
    does = o.does;
    made = record {
      served = served_then_knows a c d o.call o.given o.made.served looked;
      spent = o.made.spent;
      not_spent = o.made.not_spent;
      err = tt;
      of = of;
    };
    met = λ on. met_then_knows a c d o.call o.given o.was (o.met on) looked;
  }
