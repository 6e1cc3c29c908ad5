-- What every list of steps keeps
use Rattle.std.proofs.Common.{◌≡◌, ℕ, ◌≤◌, ◌≢◌, Bool, true, false, cond, [], ◌∷◌, Option, Some, None, Ok, Err, set}
use Rattle.std.proofs.Common.{nat_lt, refl, sym, ap, subst, ◌∙◌, arith, ⊎_elim}
use Rattle.std.specs.Prelude.{slice_get}
use Rattle.std.proofs.lemmas.List.Elements.{All-replicate}
use Rattle.std.proofs.lemmas.Option.{slice_get_within}
use Rattle.std.proofs.lemmas.Bool.{cases_eq}
use Rattle.std.proofs.lemmas.Bool.Decides.{nat_tests}
use Rattle.lh_addr.specs.Fnv.{code_of}
use Rattle.lh_addr.specs.Settings.{Settings}
use Rattle.lh_addr.specs.Growth.{IsAim}
use Rattle.lh_bucket.specs.declared.call.Call.{Call}
use Rattle.lh_bucket.specs.Call.{key_of}
use Rattle.lh_core.specs.declared.effect.Effect.{Effect}
use Rattle.lh_core.specs.declared.effect.Refusal.{Refusal}
use Rattle.lh_core.specs.declared.effect.Refusal.TheVariants.{MustRehash}
use Rattle.lh_core.specs.declared.event.Event.{Event}
use Rattle.lh_core.specs.declared.event.Event.TheVariants as event
use Rattle.lh_core.specs.declared.state.WorkerState.{WorkerState}
use Rattle.lh_core.specs.declared.state.WorkerState.TheVariants.{Idle, Called, Aimed, Holding, Acted}
use Rattle.lh_core.specs.State.{State, first, local_level}
use Rattle.lh_core.specs.Aims.{Leads}
use Rattle.lh_core.specs.Rules.{WorkerStep, allowed, called, read, lock, rehash, act, release, put, put_at, at_worker}
use Rattle.lh_core.specs.Log.{Entry, Log, open_call, acts, and_call}
use Rattle.lh_core.specs.History.{outline, call_held, served_by, IsHistory}
use Rattle.lh_core.specs.Spans.{ActLiesInSpan, ActsLieInSpans, HasRisenToAct}
use Rattle.lh_core.specs.Rises.{ActHasRisen, ActsHaveRisen}
use Rattle.lh_core.specs.Sound.{IsSound}
use Rattle.lh_core.specs.Laws.{LinearHashing, AimsLaw, SpansLaw, RisesLaw}
use Rattle.lh_core.specs.StepLaws.{err_ok, step_at}
use Rattle.lh_core.proofs.Logs.Steps.{IsOther, all_at, written, unwritten}
use Rattle.lh_core.proofs.Logs.Tied.{IsTied, tied_other, tied_refused, tied_called, tied_read, tied_lock, tied_rehash}
use Rattle.lh_core.proofs.Logs.Tied.{tied_act, tied_release}
use Rattle.lh_core.proofs.Logs.Spans.{open_call_law}
use Rattle.lh_core.proofs.Logs.Aiming.{first_sound, aimed_called, aimed_read, aimed_lock, aimed_rehash, aimed_act}
use Rattle.lh_core.proofs.Logs.Aiming.{aimed_release, sound_with_worker, sound_begin, sound_lock_both, sound_move}
use Rattle.lh_core.proofs.Logs.Aiming.{sound_free, sound_point, sound_drop}

-- a sound state, and what the log tells of its workers
pub record Told (s : Settings) (log : Log) (a : State) : Type 0 where
  pub sound : IsSound s a
  pub tied : (w : ℕ) (x : WorkerState) → slice_get a.workers w ≡ Some x → IsTied log w x

module _ (g : LinearHashing) (s : Settings) (log : Log) (a : State) (t : Told s log a) where
  told_worker : (e : Event) (f : Effect) (v : ℕ) (step : WorkerState → WorkerStep) (b : State) →
      at_worker a v step ≡ Ok (outline f, b) →
      ((x y : WorkerState) → Leads s.initial a.filled x → step x ≡ Ok (outline f, y) → Leads s.initial a.filled y) →
      ((x y : WorkerState) → IsTied log v x → step x ≡ Ok (outline f, y) → IsTied ((e, Ok f) ∷ log) v y) →
      ((w : ℕ) → v ≢ w → IsOther w e) → Told s ((e, Ok f) ∷ log) b
  told_worker e f v step b ok aims ties others =
      let (x, y, at, steps, is) = step_at a v step (slice_get a.workers v) (outline f) b ok in
      subst (Told s ((e, Ok f) ∷ log)) (sym is)
      (record {
        sound = sound_with_worker g s a t.sound v x y at (aims x y (t.sound.aims v x at) steps);
        tied = λ w z is.
            ⊎_elim
            (λ (q : w ≡ v).
            subst (λ n. IsTied ((e, Ok f) ∷ log) n z) (sym q)
            (subst (IsTied ((e, Ok f) ∷ log) v)
            (written a.workers v y z (slice_get_within a.workers v x at)
            (subst (λ n. slice_get (set a.workers v y) n ≡ Some z) q is)) (ties x y (t.tied v x at) steps)))
            (λ (d : w ≡ v → ⊥).
            tied_other log e f w z (others w (λ r. d (sym r))) (t.tied w z (unwritten a.workers v w y z d is)))
            (cases_eq w v);
      })

  told_split : (e : Event) (f : Effect) (b : State) → IsSound s b × (b.workers ≡ a.workers) → ((w : ℕ) → IsOther w e) →
      Told s ((e, Ok f) ∷ log) b
  told_split e f b h others =
      record {
        sound = h.0;
        tied = λ w x is. tied_other log e f w x (others w) (t.tied w x (subst (λ ps. slice_get ps w ≡ Some x) h.1 is));
      }

  -- after an accepted event the state is still sound, and the log with that step tells of its workers
  pub told_ok : (e : Event) (f : Effect) (b : State) → allowed s a e ≡ Ok (outline f, b) → Told s ((e, Ok f) ∷ log) b
  told_ok (event.Call w c) f b ok =
      told_worker (event.Call w c) f w (called c) b ok (aimed_called g s a t.sound c (outline f))
      (tied_called log w f c) (λ v d. d)
  told_ok (event.Read w) f b ok =
      told_worker (event.Read w) f w (read s a) b ok (aimed_read g s a t.sound (outline f)) (tied_read log w f s a)
      (λ v d. d)
  told_ok (event.Lock w) f b ok =
      told_worker (event.Lock w) f w (lock s a) b ok (aimed_lock g s a t.sound (outline f)) (tied_lock log w f s a)
      (λ v d. d)
  told_ok (event.Rehash w) f b ok =
      told_worker (event.Rehash w) f w (rehash s a) b ok (aimed_rehash g s a t.sound (outline f))
      (tied_rehash log w f s a) (λ v d. d)
  told_ok (event.Act w) f b ok =
      told_worker (event.Act w) f w (act s a) b ok (aimed_act g s a t.sound (outline f)) (tied_act log w f s a)
      (λ v d. d)
  told_ok (event.Release w) f b ok =
      told_worker (event.Release w) f w release b ok (aimed_release g s a t.sound (outline f)) (tied_release log w f)
      (λ v d. d)
  told_ok event.SplitBegin f b ok =
      told_split event.SplitBegin f b (sound_begin g s a t.sound (outline f) b a.splitter refl ok) (λ w. tt)
  told_ok event.SplitLock f b ok =
      told_split event.SplitLock f b (sound_lock_both g s a t.sound (outline f) b a.splitter refl ok) (λ w. tt)
  told_ok event.SplitMove f b ok =
      told_split event.SplitMove f b (sound_move g s a t.sound (outline f) b a.splitter refl ok) (λ w. tt)
  told_ok event.SplitRelease f b ok =
      told_split event.SplitRelease f b (sound_free g s a t.sound (outline f) b a.splitter refl ok) (λ w. tt)
  told_ok event.SplitPoint f b ok =
      told_split event.SplitPoint f b (sound_point g s a t.sound (outline f) b a.splitter refl ok) (λ w. tt)
  told_ok event.SplitDrop f b ok =
      told_split event.SplitDrop f b (sound_drop g s a t.sound (outline f) b a.splitter refl ok) (λ w. tt)

  -- the same after a refused event, which leaves the state as it was
  pub told_err : (e : Event) (r : Refusal) (b : State) → b ≡ a → Told s ((e, Err r) ∷ log) b
  told_err e r b is =
      subst (Told s ((e, Err r) ∷ log)) (sym is)
      (record { sound = t.sound; tied = λ w x at. tied_refused log e r w x (t.tied w x at) })

  -- an act's call is the call that is open
  held_open : (w : ℕ) (o : Option Effect) (x y : WorkerState) → IsTied log w x → act s a x ≡ Ok (o, y) →
      (c : Call) × (open_call w log ≡ Some c) × (call_held (Some x) ≡ Some c)
  held_open w o Idle y i e = err_ok e
  held_open w o (Called c) y i e = err_ok e
  held_open w o (Aimed c k m) y i e = err_ok e
  held_open w o (Holding c k m) y i e = (c, i.0, refl)
  held_open w o (Acted c m) y i e = err_ok e

  act_open : (w : ℕ) (f : Effect) (b : State) → allowed s a (event.Act w) ≡ Ok (outline f, b) →
      (c : Call) × (open_call w log ≡ Some c) × (served_by a (event.Act w) ≡ Some c)
  act_open w f b ok =
      let (x, y, at, steps, is) = step_at a w (act s a) (slice_get a.workers w) (outline f) b ok in
      let (c, opened, held) = held_open w (outline f) x y (t.tied w x at) steps in
      (c, opened, ap call_held at ∙ held)

  in_span : (e : Event) (f : Effect) (b : State) → allowed s a e ≡ Ok (outline f, b) → ActLiesInSpan e (Ok f) log
  in_span (event.Call w c) f b ok = tt
  in_span (event.Read w) f b ok = tt
  in_span (event.Lock w) f b ok = tt
  in_span (event.Rehash w) f b ok = tt
  in_span (event.Act w) f b ok = let h = act_open w f b ok in (h.0, h.1, open_call_law w log h.0 h.1)
  in_span (event.Release w) f b ok = tt
  in_span event.SplitBegin f b ok = tt
  in_span event.SplitLock f b ok = tt
  in_span event.SplitMove f b ok = tt
  in_span event.SplitRelease f b ok = tt
  in_span event.SplitPoint f b ok = tt
  in_span event.SplitDrop f b ok = tt

  -- an accepted event adds the call that it serves, if it serves one, to the calls of the acts
  pub acts_more : (e : Event) (f : Effect) (b : State) → allowed s a e ≡ Ok (outline f, b) →
      acts ((e, Ok f) ∷ log) ≡ and_call (acts log) (served_by a e)
  acts_more (event.Call w c) f b ok = refl
  acts_more (event.Read w) f b ok = refl
  acts_more (event.Lock w) f b ok = refl
  acts_more (event.Rehash w) f b ok = refl
  acts_more (event.Act w) f b ok = let h = act_open w f b ok in ap (and_call (acts log)) (h.1 ∙ sym h.2)
  acts_more (event.Release w) f b ok = refl
  acts_more event.SplitBegin f b ok = refl
  acts_more event.SplitLock f b ok = refl
  acts_more event.SplitMove f b ok = refl
  acts_more event.SplitRelease f b ok = refl
  acts_more event.SplitPoint f b ok = refl
  acts_more event.SplitDrop f b ok = refl

  not_less : (k l : ℕ) → k ≤ l → nat_lt k l ≡ false → k ≡ l
  not_less k l le e = grind (arith, nat_tests)

  put_passed : (w : ℕ) (t : Bool) (p : Option Effect × WorkerState) (o : Option Effect) (b : State) →
      put a w (cond t (Err MustRehash) (Ok p)) ≡ Ok (o, b) → t ≡ false
  put_passed w true p o b e = err_ok e
  put_passed w false p o b e = refl

  -- a worker that acts holds a bucket of the level that it has come to
  held_risen : (w : ℕ) (f : Effect) (b : State) (x : WorkerState) → slice_get a.workers w ≡ Some x →
      allowed s a (event.Act w) ≡ Ok (outline f, b) → put_at a w (act s a) (Some x) ≡ Ok (outline f, b) →
      HasRisenToAct s a w log
  held_risen w f b Idle at ok steps = err_ok steps
  held_risen w f b (Called c) at ok steps = err_ok steps
  held_risen w f b (Aimed c k m) at ok steps = err_ok steps
  held_risen w f b (Holding c k m) at ok steps =
      let test : nat_lt k (local_level s a m) ≡ false =
      put_passed w (nat_lt k (local_level s a m)) (None, Acted c m) (outline f) b steps in
      let aim : IsAim s.initial a.filled (code_of (key_of c)) k m = t.sound.aims w (Holding c k m) at in
      record {
        call = c;
        k = k;
        bucket = m;
        holding = at;
        same = sym (not_less k (local_level s a m) aim.not_above test);
        risen = (t.tied w (Holding c k m) at).1;
      }
  held_risen w f b (Acted c m) at ok steps = err_ok steps

  act_risen : (w : ℕ) (f : Effect) (b : State) → allowed s a (event.Act w) ≡ Ok (outline f, b) → HasRisenToAct s a w log
  act_risen w f b ok =
      let (x, y, at, steps, is) = step_at a w (act s a) (slice_get a.workers w) (outline f) b ok in
      held_risen w f b x at ok (sym (ap (put_at a w (act s a)) at) ∙ ok)

module _ (g : LinearHashing) (s : Settings) (one : 1 ≤ s.initial) (most : s.initial ≤ s.max) where
  -- a state that a log leads to is sound, and the log tells of its workers
  pub told : (log : Log) (a : State) → IsHistory s log a → Told s log a
  told [] a h =
      subst (Told s []) (sym h)
      (record {
        sound = first_sound s one most;
        tied = λ w x e. all_at (IsTied [] w) (first s).workers w x (All-replicate (IsTied [] w) 16 Idle tt) e;
      })
  told ((e, Ok f) ∷ log) b h = told_ok g s log h.0 (told log h.0 h.1) e f b h.2
  told ((e, Err r) ∷ log) b h = told_err g s log h.0 (told log h.0 h.1) e r b h.2.0

  -- where a log leads to a state, each accepted act of it lies in the span of the call that it serves
  pub spans : (log : Log) (a : State) → IsHistory s log a → ActsLieInSpans log
  spans [] a h = tt
  spans ((e, Ok f) ∷ log) b h = (spans log h.0 h.1, in_span g s log h.0 (told log h.0 h.1) e f b h.2)
  spans ((event.Call w c, Err r) ∷ log) b h = (spans log h.0 h.1, tt)
  spans ((event.Read w, Err r) ∷ log) b h = (spans log h.0 h.1, tt)
  spans ((event.Lock w, Err r) ∷ log) b h = (spans log h.0 h.1, tt)
  spans ((event.Rehash w, Err r) ∷ log) b h = (spans log h.0 h.1, tt)
  spans ((event.Act w, Err r) ∷ log) b h = (spans log h.0 h.1, tt)
  spans ((event.Release w, Err r) ∷ log) b h = (spans log h.0 h.1, tt)
  spans ((event.SplitBegin, Err r) ∷ log) b h = (spans log h.0 h.1, tt)
  spans ((event.SplitLock, Err r) ∷ log) b h = (spans log h.0 h.1, tt)
  spans ((event.SplitMove, Err r) ∷ log) b h = (spans log h.0 h.1, tt)
  spans ((event.SplitRelease, Err r) ∷ log) b h = (spans log h.0 h.1, tt)
  spans ((event.SplitPoint, Err r) ∷ log) b h = (spans log h.0 h.1, tt)
  spans ((event.SplitDrop, Err r) ∷ log) b h = (spans log h.0 h.1, tt)

  risen : (e : Event) (x : Entry) (log : Log) → ActHasRisen s e x log
  risen (event.Act w) (Ok f) log = λ a b h ok. act_risen g s log a (told log a h) w f b ok
  risen (event.Act w) (Err r) log = tt
  risen (event.Call w c) x log = tt
  risen (event.Read w) x log = tt
  risen (event.Lock w) x log = tt
  risen (event.Rehash w) x log = tt
  risen (event.Release w) x log = tt
  risen event.SplitBegin x log = tt
  risen event.SplitLock x log = tt
  risen event.SplitMove x log = tt
  risen event.SplitRelease x log = tt
  risen event.SplitPoint x log = tt
  risen event.SplitDrop x log = tt

  -- every accepted act of a log took place at the level that its worker had come to
  pub all_risen : (log : Log) → ActsHaveRisen s log
  all_risen [] = tt
  all_risen ((e, x) ∷ log) = (all_risen log, risen e x log)

-- in every state that a list of steps leads to, each aim leads to a filled bucket of no lower level
pub aims_law : LinearHashing → AimsLaw
aims_law g s log a one most h = (told g s one most log a h).sound.aims

-- in every list of steps that the rules allow, each accepted act lies in the span of its call
pub spans_law : LinearHashing → SpansLaw
spans_law g s log a one most h = spans g s one most log a h

-- each accepted act took place as many levels above the one read as there were rehashes since
pub rises_law : LinearHashing → RisesLaw
rises_law g s log one most = all_risen g s one most log
