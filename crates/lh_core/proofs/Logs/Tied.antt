-- What a log tells of the workers of the state that it leads to
use Rattle.std.proofs.Common.{◌≡◌, ℕ, ◌+◌, ◌||◌, Bool, false, cond, [], ◌∷◌, Option, Some, None, Ok, Err, nat_eq, refl}
use Rattle.std.proofs.Common.{sym, ap, subst, ◌∙◌, arith}
use Rattle.std.specs.Prelude.{count_by}
use Rattle.std.specs.List.{list_any}
use Rattle.std.proofs.lemmas.List.Sums.{sum_by-cons}
use Rattle.lh_addr.specs.Settings.{Settings}
use Rattle.lh_addr.specs.Growth.{level_of}
use Rattle.lh_bucket.specs.declared.call.Call.{Call}
use Rattle.lh_core.specs.declared.effect.Effect.{Effect}
use Rattle.lh_core.specs.declared.effect.Effect.TheVariants as effect
use Rattle.lh_core.specs.declared.effect.Refusal.{Refusal}
use Rattle.lh_core.specs.declared.event.Event.{Event}
use Rattle.lh_core.specs.declared.event.Event.TheVariants as event
use Rattle.lh_core.specs.declared.state.WorkerState.{WorkerState}
use Rattle.lh_core.specs.declared.state.WorkerState.TheVariants.{Idle, Called, Aimed, Holding, Acted}
use Rattle.lh_core.specs.State.{State}
use Rattle.lh_core.specs.Rules.{called, read, lock, rehash, act, release, home}
use Rattle.lh_core.specs.Log.{Entry, Log, open_after, open_call}
use Rattle.lh_core.specs.Spans.{is_turn, is_turn_by, is_accepted_rehash, is_rehash_by, HasRisen}
use Rattle.lh_core.specs.History.{outline}
use Rattle.lh_core.specs.StepLaws.{err_ok, became, told, passed}
use Rattle.lh_core.proofs.Logs.Steps.{IsOther, other_eq, other_cond, same_cond, outlined}

-- what the log tells of a worker
abbrev pub IsTied : Log → ℕ → WorkerState → Type 0
IsTied log w (Called c) = open_call w log ≡ Some c
IsTied log w (Aimed c k m) = (open_call w log ≡ Some c) × HasRisen w log k
IsTied log w (Holding c k m) = (open_call w log ≡ Some c) × HasRisen w log k
IsTied log w _ = Unit {0}

-- a step more since the read
pub risen_more : (w : ℕ) (d : Event × Entry) (log : Log) (k n : ℕ) → is_turn w d ≡ false →
    n ≡ k + cond (is_accepted_rehash w d) 1 0 → HasRisen w log k → HasRisen w (d ∷ log) n
risen_more w d log k n turn more h = record {
  later = d ∷ h.later;
  earlier = h.earlier;
  low = h.low;
  bucket = h.bucket;
  is = ap (λ l. d ∷ l) h.is;
  since = ap (λ b. b || list_any (is_turn w) h.later) turn ∙ h.since;
  rises =
      let count : count_by (is_accepted_rehash w) (d ∷ h.later) ≡
      cond (is_accepted_rehash w d) 1 0 + count_by (is_accepted_rehash w) h.later =
      sum_by-cons (λ x. cond (is_accepted_rehash w x) 1 0) d h.later in
      omega (arith, count, more, h.rises);
}

open_other : (w : ℕ) (e : Event) (o : Option Call) → IsOther w e → open_after w e o ≡ o
open_other w (event.Call v c) o d = other_cond v w (Some c) o d
open_other w (event.Read v) o d = refl
open_other w (event.Lock v) o d = refl
open_other w (event.Rehash v) o d = refl
open_other w (event.Act v) o d = other_cond v w None o d
open_other w (event.Release v) o d = other_cond v w None o d
open_other w event.SplitBegin o d = refl
open_other w event.SplitLock o d = refl
open_other w event.SplitMove o d = refl
open_other w event.SplitRelease o d = refl
open_other w event.SplitPoint o d = refl
open_other w event.SplitDrop o d = refl

turn_other : (w : ℕ) (e : Event) → IsOther w e → is_turn_by w e ≡ false
turn_other w (event.Call v c) d = other_eq v w d
turn_other w (event.Read v) d = other_eq v w d
turn_other w (event.Lock v) d = refl
turn_other w (event.Rehash v) d = refl
turn_other w (event.Act v) d = other_eq v w d
turn_other w (event.Release v) d = other_eq v w d
turn_other w event.SplitBegin d = refl
turn_other w event.SplitLock d = refl
turn_other w event.SplitMove d = refl
turn_other w event.SplitRelease d = refl
turn_other w event.SplitPoint d = refl
turn_other w event.SplitDrop d = refl

rehash_other : (w : ℕ) (e : Event) → IsOther w e → is_rehash_by w e ≡ false
rehash_other w (event.Call v c) d = refl
rehash_other w (event.Read v) d = refl
rehash_other w (event.Lock v) d = refl
rehash_other w (event.Rehash v) d = other_eq v w d
rehash_other w (event.Act v) d = refl
rehash_other w (event.Release v) d = refl
rehash_other w event.SplitBegin d = refl
rehash_other w event.SplitLock d = refl
rehash_other w event.SplitMove d = refl
rehash_other w event.SplitRelease d = refl
rehash_other w event.SplitPoint d = refl
rehash_other w event.SplitDrop d = refl

no_more : (k : ℕ) (b : Bool) → b ≡ false → k ≡ k + cond b 1 0
no_more k b e = subst (λ t. k ≡ k + cond t 1 0) (sym e) (let z : k ≡ k + 0 = omega arith in z)

risen_other : (w : ℕ) (e : Event) (f : Effect) (log : Log) (k : ℕ) → IsOther w e → HasRisen w log k →
    HasRisen w ((e, Ok f) ∷ log) k
risen_other w e f log k d h =
    risen_more w (e, Ok f) log k k (turn_other w e d) (no_more k (is_rehash_by w e) (rehash_other w e d)) h

risen_refused : (w : ℕ) (e : Event) (r : Refusal) (log : Log) (k : ℕ) → HasRisen w log k →
    HasRisen w ((e, Err r) ∷ log) k
risen_refused w e r log k h = risen_more w (e, Err r) log k k refl (no_more k false refl) h

-- what a log tells of a worker it still tells after an accepted event that isn't of that worker
pub tied_other : (log : Log) (e : Event) (f : Effect) (w : ℕ) (x : WorkerState) → IsOther w e → IsTied log w x →
    IsTied ((e, Ok f) ∷ log) w x
tied_other log e f w Idle d h = tt
tied_other log e f w (Called c) d h = open_other w e (open_call w log) d ∙ h
tied_other log e f w (Aimed c k m) d h = (open_other w e (open_call w log) d ∙ h.0, risen_other w e f log k d h.1)
tied_other log e f w (Holding c k m) d h = (open_other w e (open_call w log) d ∙ h.0, risen_other w e f log k d h.1)
tied_other log e f w (Acted c m) d h = tt

-- the same after any refused event
pub tied_refused : (log : Log) (e : Event) (r : Refusal) (w : ℕ) (x : WorkerState) → IsTied log w x →
    IsTied ((e, Err r) ∷ log) w x
tied_refused log e r w Idle h = tt
tied_refused log e r w (Called c) h = h
tied_refused log e r w (Aimed c k m) h = (h.0, risen_refused w e r log k h.1)
tied_refused log e r w (Holding c k m) h = (h.0, risen_refused w e r log k h.1)
tied_refused log e r w (Acted c m) h = tt

-- what each step of a worker leaves to be told
module _ (log : Log) (w : ℕ) (f : Effect) where
  -- the log still tells of the worker after an accepted call of it
  pub tied_called : (c : Call) (x y : WorkerState) → IsTied log w x → called c x ≡ Ok (outline f, y) →
      IsTied ((event.Call w c, Ok f) ∷ log) w y
  tied_called c Idle y h e =
      subst (IsTied ((event.Call w c, Ok f) ∷ log) w) (became e) (same_cond w (Some c) (open_call w log))
  tied_called c (Called d) y h e = err_ok e
  tied_called c (Aimed d k m) y h e = err_ok e
  tied_called c (Holding d k m) y h e = err_ok e
  tied_called c (Acted d m) y h e = err_ok e

  begun : (k m : ℕ) → f ≡ effect.Aim k m → HasRisen w ((event.Read w, Ok f) ∷ log) k
  begun k m is = record {
    later = [];
    earlier = log;
    low = k;
    bucket = m;
    is = ap (λ g. (event.Read w, Ok g) ∷ log) is;
    since = refl;
    rises = omega arith;
  }

  -- the same after an accepted read
  pub tied_read : (s : Settings) (a : State) (x y : WorkerState) → IsTied log w x → read s a x ≡ Ok (outline f, y) →
      IsTied ((event.Read w, Ok f) ∷ log) w y
  tied_read s a Idle y h e = err_ok e
  tied_read s a (Called c) y h e =
      let k : ℕ = level_of s.initial a.buckets (home s a c) in
      subst (IsTied ((event.Read w, Ok f) ∷ log) w) (became e)
      (h, begun k (home s a c) (outlined f (effect.Aim k (home s a c)) (told e)))
  tied_read s a (Aimed c k m) y h e = err_ok e
  tied_read s a (Holding c k m) y h e = err_ok e
  tied_read s a (Acted c m) y h e = err_ok e

  -- the same after an accepted lock
  pub tied_lock : (s : Settings) (a : State) (x y : WorkerState) → IsTied log w x → lock s a x ≡ Ok (outline f, y) →
      IsTied ((event.Lock w, Ok f) ∷ log) w y
  tied_lock s a Idle y h e = err_ok e
  tied_lock s a (Called c) y h e = err_ok e
  tied_lock s a (Aimed c k m) y h e =
      subst (IsTied ((event.Lock w, Ok f) ∷ log) w) (became (passed _ _ _ _ e).1)
      (h.0, risen_more w (event.Lock w, Ok f) log k k refl (no_more k false refl) h.1)
  tied_lock s a (Holding c k m) y h e = err_ok e
  tied_lock s a (Acted c m) y h e = err_ok e

  one_more : (k : ℕ) → k + 1 ≡ k + cond (nat_eq w w) 1 0
  one_more k = ap (λ n. k + n) (sym (same_cond w 1 0))

  -- the same after an accepted rehash
  pub tied_rehash : (s : Settings) (a : State) (x y : WorkerState) → IsTied log w x → rehash s a x ≡ Ok (outline f, y) →
      IsTied ((event.Rehash w, Ok f) ∷ log) w y
  tied_rehash s a Idle y h e = err_ok e
  tied_rehash s a (Called c) y h e = err_ok e
  tied_rehash s a (Aimed c k m) y h e = err_ok e
  tied_rehash s a (Holding c k m) y h e =
      subst (IsTied ((event.Rehash w, Ok f) ∷ log) w) (became (passed _ _ _ _ e).1)
      (h.0, risen_more w (event.Rehash w, Ok f) log k (k + 1) refl (one_more k) h.1)
  tied_rehash s a (Acted c m) y h e = err_ok e

  -- the same after an accepted act
  pub tied_act : (s : Settings) (a : State) (x y : WorkerState) → IsTied log w x → act s a x ≡ Ok (outline f, y) →
      IsTied ((event.Act w, Ok f) ∷ log) w y
  tied_act s a Idle y h e = err_ok e
  tied_act s a (Called c) y h e = err_ok e
  tied_act s a (Aimed c k m) y h e = err_ok e
  tied_act s a (Holding c k m) y h e = subst (IsTied ((event.Act w, Ok f) ∷ log) w) (became (passed _ _ _ _ e).1) tt
  tied_act s a (Acted c m) y h e = err_ok e

  -- the same after an accepted release
  pub tied_release : (x y : WorkerState) → IsTied log w x → release x ≡ Ok (outline f, y) →
      IsTied ((event.Release w, Ok f) ∷ log) w y
  tied_release Idle y h e = err_ok e
  tied_release (Called c) y h e = err_ok e
  tied_release (Aimed c k m) y h e = err_ok e
  tied_release (Holding c k m) y h e = subst (IsTied ((event.Release w, Ok f) ∷ log) w) (became e) tt
  tied_release (Acted c m) y h e = subst (IsTied ((event.Release w, Ok f) ∷ log) w) (became e) tt
