-- The law on aims, step by step
use Rattle.std.proofs.Common.{◌≡◌, ℕ, ◌+◌, ◌<◌, ◌≤◌, ◌⊎◌, false, Option, Some, Ok, set, nat_eq, refl, sym, subst, ◌∙◌}
use Rattle.std.proofs.Common.{arith, inl, inr, ⊎_elim}
use Rattle.std.specs.Prelude.{slice_get}
use Rattle.std.proofs.lemmas.List.Elements.{All-replicate}
use Rattle.std.proofs.lemmas.Option.{slice_get_within}
use Rattle.std.proofs.lemmas.List.{length-set}
use Rattle.std.proofs.lemmas.Bool.{cases_eq}
use Rattle.std.proofs.lemmas.Bool.Decides.{nat_tests}
use Rattle.lh_addr.specs.Fnv.{code_of}
use Rattle.lh_addr.specs.Settings.{Settings}
use Rattle.lh_addr.specs.Growth.{address, level_of, IsAim}
use Rattle.lh_bucket.specs.declared.call.Call.{Call}
use Rattle.lh_bucket.specs.Call.{key_of}
use Rattle.lh_core.specs.declared.effect.Effect.{Effect}
use Rattle.lh_core.specs.declared.event.Event.{Event}
use Rattle.lh_core.specs.declared.event.Event.TheVariants as event
use Rattle.lh_core.specs.declared.state.WorkerState.{WorkerState}
use Rattle.lh_core.specs.declared.state.WorkerState.TheVariants.{Idle, Called, Aimed, Holding, Acted}
use Rattle.lh_core.specs.declared.state.SplitState.{SplitState}
use Rattle.lh_core.specs.declared.state.SplitState.TheVariants as split
use Rattle.lh_core.specs.State.{State, first, resting, all_idle, local_level, with_worker, with_splitter}
use Rattle.lh_core.specs.Aims.{Leads}
use Rattle.lh_core.specs.Rules.{WorkerStep, allowed, called, read, lock, rehash, act, release, at_worker, begin_split}
use Rattle.lh_core.specs.Rules.{lock_both, move_records, free_both, point, drop_split}
use Rattle.lh_core.specs.Sound.{IsPhase, IsSound}
use Rattle.lh_core.specs.Laws.{LinearHashing}
use Rattle.lh_core.specs.StepLaws.{err_ok, became, passed, step_at}
use Rattle.lh_core.proofs.Logs.Steps.{all_at, written, unwritten}

-- a file at rest
pub resting_sound : (s : Settings) (n : ℕ) → 1 ≤ s.initial → s.initial ≤ n → n ≤ s.max → IsSound s (resting n)
resting_sound s n one least most = record {
  some = one;
  from_initial = least;
  to_max = most;
  sixteen = refl;
  phase = refl;
  aims = λ w x e. all_at (Leads s.initial n) all_idle w x (All-replicate (Leads s.initial n) 16 Idle tt) e;
}

-- the first state
pub first_sound : (s : Settings) → 1 ≤ s.initial → s.initial ≤ s.max → IsSound s (first s)
first_sound s one most = resting_sound s s.initial one (omega arith) most

phased : (s : Settings) (n f : ℕ) (x : SplitState) → IsPhase s n f x → (f ≡ n) ⊎ (f ≡ n + 1)
phased s n f split.Idle h = inl h
phased s n f split.Begun h = inl h.0
phased s n f split.Locked h = inl h.0
phased s n f split.LockedMoved h = inr h.0
phased s n f split.Moved h = inr h.0

-- the aims that workers take
module _ (g : LinearHashing) (s : Settings) (a : State) (h : IsSound s a) where
  -- no fewer buckets are filled than the file began with
  pub some_filled : s.initial ≤ a.filled
  some_filled =
      ⊎_elim (λ (e : a.filled ≡ a.buckets). omega (arith, h.from_initial))
      (λ (e : a.filled ≡ a.buckets + 1). omega (arith, h.from_initial)) (phased s a.buckets a.filled a.splitter h.phase)

  first_aim : (c : ℕ) →
      IsAim s.initial a.filled c (level_of s.initial a.buckets (address s.initial a.buckets c))
      (address s.initial a.buckets c)
  first_aim c =
      let now : IsAim s.initial a.buckets c (level_of s.initial a.buckets (address s.initial a.buckets c))
      (address s.initial a.buckets c) =
      g.begins s.initial a.buckets c h.some h.from_initial in
      ⊎_elim
      (λ (e : a.filled ≡ a.buckets).
      subst
      (λ n.
      IsAim s.initial n c (level_of s.initial a.buckets (address s.initial a.buckets c))
      (address s.initial a.buckets c)) (sym e) now)
      (λ (e : a.filled ≡ a.buckets + 1).
      subst
      (λ n.
      IsAim s.initial n c (level_of s.initial a.buckets (address s.initial a.buckets c))
      (address s.initial a.buckets c)) (sym e) (g.stays s.initial a.buckets c _ _ h.some h.from_initial now))
      (phased s a.buckets a.filled a.splitter h.phase)

  less : (k l : ℕ) → k ≤ l → nat_eq k l ≡ false → k < l
  less k l le e = grind (arith, nat_tests)

  -- after an accepted call a worker's aim, if it has one, still leads where it should
  pub aimed_called : (c : Call) (o : Option Effect) (x y : WorkerState) → Leads s.initial a.filled x →
      called c x ≡ Ok (o, y) → Leads s.initial a.filled y
  aimed_called c o Idle y i e = subst (Leads s.initial a.filled) (became e) tt
  aimed_called c o (Called d) y i e = err_ok e
  aimed_called c o (Aimed d k m) y i e = err_ok e
  aimed_called c o (Holding d k m) y i e = err_ok e
  aimed_called c o (Acted d m) y i e = err_ok e

  -- the same after an accepted read
  pub aimed_read : (o : Option Effect) (x y : WorkerState) → Leads s.initial a.filled x → read s a x ≡ Ok (o, y) →
      Leads s.initial a.filled y
  aimed_read o Idle y i e = err_ok e
  aimed_read o (Called c) y i e = subst (Leads s.initial a.filled) (became e) (first_aim (code_of (key_of c)))
  aimed_read o (Aimed c k m) y i e = err_ok e
  aimed_read o (Holding c k m) y i e = err_ok e
  aimed_read o (Acted c m) y i e = err_ok e

  -- the same after an accepted lock
  pub aimed_lock : (o : Option Effect) (x y : WorkerState) → Leads s.initial a.filled x → lock s a x ≡ Ok (o, y) →
      Leads s.initial a.filled y
  aimed_lock o Idle y i e = err_ok e
  aimed_lock o (Called c) y i e = err_ok e
  aimed_lock o (Aimed c k m) y i e = subst (Leads s.initial a.filled) (became (passed _ _ _ _ e).1) i
  aimed_lock o (Holding c k m) y i e = err_ok e
  aimed_lock o (Acted c m) y i e = err_ok e

  -- the same after an accepted rehash
  pub aimed_rehash : (o : Option Effect) (x y : WorkerState) → Leads s.initial a.filled x → rehash s a x ≡ Ok (o, y) →
      Leads s.initial a.filled y
  aimed_rehash o Idle y i e = err_ok e
  aimed_rehash o (Called c) y i e = err_ok e
  aimed_rehash o (Aimed c k m) y i e = err_ok e
  aimed_rehash o (Holding c k m) y i e =
      let p = passed _ _ _ _ e in
      subst (Leads s.initial a.filled) (became p.1)
      (g.rises s.initial a.filled (code_of (key_of c)) k m h.some some_filled
      (less k (local_level s a m) i.not_above p.0) i)
  aimed_rehash o (Acted c m) y i e = err_ok e

  -- the same after an accepted act
  pub aimed_act : (o : Option Effect) (x y : WorkerState) → Leads s.initial a.filled x → act s a x ≡ Ok (o, y) →
      Leads s.initial a.filled y
  aimed_act o Idle y i e = err_ok e
  aimed_act o (Called c) y i e = err_ok e
  aimed_act o (Aimed c k m) y i e = err_ok e
  aimed_act o (Holding c k m) y i e = subst (Leads s.initial a.filled) (became (passed _ _ _ _ e).1) tt
  aimed_act o (Acted c m) y i e = err_ok e

  -- the same after an accepted release
  pub aimed_release : (o : Option Effect) (x y : WorkerState) → Leads s.initial a.filled x → release x ≡ Ok (o, y) →
      Leads s.initial a.filled y
  aimed_release o Idle y i e = err_ok e
  aimed_release o (Called c) y i e = err_ok e
  aimed_release o (Aimed c k m) y i e = err_ok e
  aimed_release o (Holding c k m) y i e = subst (Leads s.initial a.filled) (became e) tt
  aimed_release o (Acted c m) y i e = subst (Leads s.initial a.filled) (became e) tt

  -- a step of a worker
  pub sound_with_worker : (w : ℕ) (x y : WorkerState) → slice_get a.workers w ≡ Some x → Leads s.initial a.filled y →
      IsSound s (with_worker a w y)
  sound_with_worker w x y at i = record {
    some = h.some;
    from_initial = h.from_initial;
    to_max = h.to_max;
    sixteen = length-set a.workers w y ∙ h.sixteen;
    phase = h.phase;
    aims = λ v z e.
        ⊎_elim
        (λ (q : v ≡ w).
        subst (Leads s.initial a.filled)
        (written a.workers w y z (slice_get_within a.workers w x at)
        (subst (λ n. slice_get (set a.workers w y) n ≡ Some z) q e)) i)
        (λ (d : v ≡ w → ⊥). h.aims v z (unwritten a.workers w v y z d e))
        (cases_eq v w);
  }

  -- a step of the splitter
  abbrev SplitTo : State → Type 0
  SplitTo b = IsSound s b × (b.workers ≡ a.workers)

  sound_with_splitter : (x : SplitState) → IsPhase s a.buckets a.filled x → SplitTo (with_splitter a x)
  sound_with_splitter x p = (
    record {
      some = h.some;
      from_initial = h.from_initial;
      to_max = h.to_max;
      sixteen = h.sixteen;
      phase = p;
      aims = h.aims;
    },
    refl,
  )

  below : (n m : ℕ) → n ≤ m → nat_eq n m ≡ false → n < m
  below n m le e = grind (arith, nat_tests)

  aim_after : (x : WorkerState) → a.filled ≡ a.buckets → Leads s.initial a.filled x → Leads s.initial (a.buckets + 1) x
  aim_after Idle e i = tt
  aim_after (Called c) e i = tt
  aim_after (Aimed c k m) e i =
      g.stays s.initial a.buckets (code_of (key_of c)) k m h.some h.from_initial
      (subst (λ n. IsAim s.initial n (code_of (key_of c)) k m) e i)
  aim_after (Holding c k m) e i =
      g.stays s.initial a.buckets (code_of (key_of c)) k m h.some h.from_initial
      (subst (λ n. IsAim s.initial n (code_of (key_of c)) k m) e i)
  aim_after (Acted c m) e i = tt

  module _ (o : Option Effect) (b : State) where
    -- after a split has begun the state is still sound, and each worker does what it did
    pub sound_begin : (x : SplitState) → a.splitter ≡ x → begin_split s a x ≡ Ok (o, b) → SplitTo b
    sound_begin split.Idle q e =
        let p = passed _ _ _ _ e in
        let f : a.filled ≡ a.buckets = subst (IsPhase s a.buckets a.filled) q h.phase in
        subst SplitTo (became p.1) (sound_with_splitter split.Begun (f, below a.buckets s.max h.to_max p.0))
    sound_begin split.Begun q e = err_ok e
    sound_begin split.Locked q e = err_ok e
    sound_begin split.LockedMoved q e = err_ok e
    sound_begin split.Moved q e = err_ok e

    -- the same after the splitter has locked its two buckets
    pub sound_lock_both : (x : SplitState) → a.splitter ≡ x → lock_both s a x ≡ Ok (o, b) → SplitTo b
    sound_lock_both split.Idle q e = err_ok e
    sound_lock_both split.Begun q e =
        subst SplitTo (became (passed _ _ _ _ e).1)
        (sound_with_splitter split.Locked (subst (IsPhase s a.buckets a.filled) q h.phase))
    sound_lock_both split.Locked q e = err_ok e
    sound_lock_both split.LockedMoved q e = err_ok e
    sound_lock_both split.Moved q e = err_ok e

    -- the same after the records are divided
    pub sound_move : (x : SplitState) → a.splitter ≡ x → move_records s a x ≡ Ok (o, b) → SplitTo b
    sound_move split.Idle q e = err_ok e
    sound_move split.Begun q e = err_ok e
    sound_move split.Locked q e =
        let p : IsPhase s a.buckets a.filled split.Locked = subst (IsPhase s a.buckets a.filled) q h.phase in
        subst SplitTo (became e) (
          record {
            some = h.some;
            from_initial = h.from_initial;
            to_max = h.to_max;
            sixteen = h.sixteen;
            phase = (refl, p.1);
            aims = λ w x at. aim_after x p.0 (h.aims w x at);
          },
          refl,
        )
    sound_move split.LockedMoved q e = err_ok e
    sound_move split.Moved q e = err_ok e

    -- the same after both buckets are let go
    pub sound_free : (x : SplitState) → a.splitter ≡ x → free_both a x ≡ Ok (o, b) → SplitTo b
    sound_free split.Idle q e = err_ok e
    sound_free split.Begun q e = err_ok e
    sound_free split.Locked q e =
        subst SplitTo (became e) (sound_with_splitter split.Begun (subst (IsPhase s a.buckets a.filled) q h.phase))
    sound_free split.LockedMoved q e =
        subst SplitTo (became e) (sound_with_splitter split.Moved (subst (IsPhase s a.buckets a.filled) q h.phase))
    sound_free split.Moved q e = err_ok e

    -- the same after the pointer has moved on
    pub sound_point : (x : SplitState) → a.splitter ≡ x → point a x ≡ Ok (o, b) → SplitTo b
    sound_point split.Idle q e = err_ok e
    sound_point split.Begun q e = err_ok e
    sound_point split.Locked q e = err_ok e
    sound_point split.LockedMoved q e = err_ok e
    sound_point split.Moved q e =
        let p : IsPhase s a.buckets a.filled split.Moved = subst (IsPhase s a.buckets a.filled) q h.phase in
        subst SplitTo (became e) (
          record {
            some = h.some;
            from_initial = some_filled;
            to_max = omega (arith, p);
            sixteen = h.sixteen;
            phase = refl;
            aims = h.aims;
          },
          refl,
        )

    -- the same after the split is given up
    pub sound_drop : (x : SplitState) → a.splitter ≡ x → drop_split a x ≡ Ok (o, b) → SplitTo b
    sound_drop split.Idle q e = err_ok e
    sound_drop split.Begun q e =
        let p : IsPhase s a.buckets a.filled split.Begun = subst (IsPhase s a.buckets a.filled) q h.phase in
        subst SplitTo (became e) (sound_with_splitter split.Idle p.0)
    sound_drop split.Locked q e = err_ok e
    sound_drop split.LockedMoved q e = err_ok e
    sound_drop split.Moved q e = err_ok e

module _ (g : LinearHashing) (s : Settings) (a : State) (h : IsSound s a) (o : Option Effect) (b : State) where
  sound_worker : (w : ℕ) (step : WorkerState → WorkerStep) →
      ((x y : WorkerState) → Leads s.initial a.filled x → step x ≡ Ok (o, y) → Leads s.initial a.filled y) →
      at_worker a w step ≡ Ok (o, b) → IsSound s b
  sound_worker w step aims ok =
      let (x, y, at, steps, is) = step_at a w step (slice_get a.workers w) o b ok in
      subst (IsSound s) (sym is) (sound_with_worker g s a h w x y at (aims x y (h.aims w x at) steps))

  -- a sound state stays one
  pub sound_ok : (e : Event) → allowed s a e ≡ Ok (o, b) → IsSound s b
  sound_ok (event.Call w c) ok = sound_worker w (called c) (aimed_called g s a h c o) ok
  sound_ok (event.Read w) ok = sound_worker w (read s a) (aimed_read g s a h o) ok
  sound_ok (event.Lock w) ok = sound_worker w (lock s a) (aimed_lock g s a h o) ok
  sound_ok (event.Rehash w) ok = sound_worker w (rehash s a) (aimed_rehash g s a h o) ok
  sound_ok (event.Act w) ok = sound_worker w (act s a) (aimed_act g s a h o) ok
  sound_ok (event.Release w) ok = sound_worker w release (aimed_release g s a h o) ok
  sound_ok event.SplitBegin ok = (sound_begin g s a h o b a.splitter refl ok).0
  sound_ok event.SplitLock ok = (sound_lock_both g s a h o b a.splitter refl ok).0
  sound_ok event.SplitMove ok = (sound_move g s a h o b a.splitter refl ok).0
  sound_ok event.SplitRelease ok = (sound_free g s a h o b a.splitter refl ok).0
  sound_ok event.SplitPoint ok = (sound_point g s a h o b a.splitter refl ok).0
  sound_ok event.SplitDrop ok = (sound_drop g s a h o b a.splitter refl ok).0
