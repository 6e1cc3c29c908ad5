-- The splitter holds two buckets as far as their boxes reach.
use Rattle.std.proofs.Common.{◌≡◌, ◌∙◌, ℕ, ◌||◌, ◌&&◌, Bool, true, false, [], ◌∷◌, ◌++◌, Option, Some, Ok, Err, nat_eq}
use Rattle.std.proofs.Common.{refl, sym, ap, subst, eq-eqb}
use Rattle.std.specs.Prelude.{slice_get}
use Rattle.std.specs.List.{list_any}
use Rattle.std.proofs.lemmas.Bool.{false≢true}
use Rattle.lh_addr.specs.Growth.{pointer}
use Rattle.lh_addr.specs.Settings.{Settings}
use Rattle.lh_core.specs.declared.effect.Effect.{Effect}
use Rattle.lh_core.specs.declared.effect.Effect.TheVariants as effect
use Rattle.lh_core.specs.declared.effect.Refusal.TheVariants.{Held}
use Rattle.lh_core.specs.declared.event.Event.{Event}
use Rattle.lh_core.specs.declared.event.Event.TheVariants as event
use Rattle.lh_core.specs.declared.state.SplitState.{SplitState}
use Rattle.lh_core.specs.declared.state.SplitState.TheVariants as split
use Rattle.lh_core.specs.declared.state.WorkerState.{WorkerState}
use Rattle.lh_core.specs.Holds.{has_locks, is_held, split_holds}
use Rattle.lh_core.specs.History.{IsEntry, IsHistory, outline}
use Rattle.lh_core.specs.Log.{Entry, Log}
use Rattle.lh_core.specs.Rules.{WorkerStep, act, allowed, at_worker, begin_split, called, drop_split, lock, lock_both}
use Rattle.lh_core.specs.Rules.{move_records, point, read, rehash, release}
use Rattle.lh_core.specs.State.{State, splitting, with_splitter}
use Rattle.lh_core.specs.StepLaws.{became, err_ok, passed, some_same, step_at, told}
use Rattle.lh_replay.specs.Lanes.{ends_at}
use Rattle.lh_replay.specs.Meaning.{BothHeldLaw}
use Rattle.lh_replay.proofs.Holding.{neither}

-- the splitter has its locks, at a file of this many buckets
abbrev HasLocks : State → ℕ → Type 0
HasLocks state size = (has_locks state.splitter ≡ true) × (state.buckets ≡ size)

module _ (config : Settings) (a : State) (size : ℕ) where
  worker_keeps : (v : ℕ) (step : WorkerState → WorkerStep) (o : Option Effect) (b : State) →
      at_worker a v step ≡ Ok (o, b) → HasLocks a size → HasLocks b size
  worker_keeps v step o b ok h =
      let (x, y, at, steps, is) = step_at a v step (slice_get a.workers v) o b ok in
      subst (λ (s : State). HasLocks s size) (sym is) (h.0, h.1)

  begin_keeps : (sp : SplitState) (o : Option Effect) (b : State) → has_locks sp ≡ true →
      begin_split config a sp ≡ Ok (o, b) → HasLocks b size
  begin_keeps split.Idle o b h e = absurd (false≢true h)
  begin_keeps split.Begun o b h e = absurd (false≢true h)
  begin_keeps split.Locked o b h e = err_ok e
  begin_keeps split.LockedMoved o b h e = err_ok e
  begin_keeps split.Moved o b h e = absurd (false≢true h)

  both_keeps : (sp : SplitState) (o : Option Effect) (b : State) → has_locks sp ≡ true →
      lock_both config a sp ≡ Ok (o, b) → HasLocks b size
  both_keeps split.Idle o b h e = absurd (false≢true h)
  both_keeps split.Begun o b h e = absurd (false≢true h)
  both_keeps split.Locked o b h e = err_ok e
  both_keeps split.LockedMoved o b h e = err_ok e
  both_keeps split.Moved o b h e = absurd (false≢true h)

  move_keeps : (sp : SplitState) (o : Option Effect) (b : State) → has_locks sp ≡ true → a.buckets ≡ size →
      move_records config a sp ≡ Ok (o, b) → HasLocks b size
  move_keeps split.Idle o b h k e = absurd (false≢true h)
  move_keeps split.Begun o b h k e = absurd (false≢true h)
  move_keeps split.Locked o b h k e = subst (λ (s : State). HasLocks s size) (became e) (refl, k)
  move_keeps split.LockedMoved o b h k e = err_ok e
  move_keeps split.Moved o b h k e = absurd (false≢true h)

  point_keeps : (sp : SplitState) (o : Option Effect) (b : State) → has_locks sp ≡ true → point a sp ≡ Ok (o, b) →
      HasLocks b size
  point_keeps split.Idle o b h e = absurd (false≢true h)
  point_keeps split.Begun o b h e = absurd (false≢true h)
  point_keeps split.Locked o b h e = err_ok e
  point_keeps split.LockedMoved o b h e = err_ok e
  point_keeps split.Moved o b h e = absurd (false≢true h)

  drop_keeps : (sp : SplitState) (o : Option Effect) (b : State) → has_locks sp ≡ true → drop_split a sp ≡ Ok (o, b) →
      HasLocks b size
  drop_keeps split.Idle o b h e = absurd (false≢true h)
  drop_keeps split.Begun o b h e = absurd (false≢true h)
  drop_keeps split.Locked o b h e = err_ok e
  drop_keeps split.LockedMoved o b h e = err_ok e
  drop_keeps split.Moved o b h e = absurd (false≢true h)

  ok_keeps : (e : Event) (f : Effect) (b : State) → allowed config a e ≡ Ok (outline f, b) →
      ends_at false 0 e (Ok f) ≡ false → HasLocks a size → HasLocks b size
  ok_keeps (event.Call v c) f b ok none h = worker_keeps v (called c) (outline f) b ok h
  ok_keeps (event.Read v) f b ok none h = worker_keeps v (read config a) (outline f) b ok h
  ok_keeps (event.Lock v) f b ok none h = worker_keeps v (lock config a) (outline f) b ok h
  ok_keeps (event.Rehash v) f b ok none h = worker_keeps v (rehash config a) (outline f) b ok h
  ok_keeps (event.Act v) f b ok none h = worker_keeps v (act config a) (outline f) b ok h
  ok_keeps (event.Release v) f b ok none h = worker_keeps v release (outline f) b ok h
  ok_keeps event.SplitBegin f b ok none h = begin_keeps a.splitter (outline f) b h.0 ok
  ok_keeps event.SplitLock f b ok none h = both_keeps a.splitter (outline f) b h.0 ok
  ok_keeps event.SplitMove f b ok none h = move_keeps a.splitter (outline f) b h.0 h.1 ok
  ok_keeps event.SplitRelease f b ok none h = absurd (false≢true (sym none))
  ok_keeps event.SplitPoint f b ok none h = point_keeps a.splitter (outline f) b h.0 ok
  ok_keeps event.SplitDrop f b ok none h = drop_keeps a.splitter (outline f) b h.0 ok

  step_keeps : (e : Event) (entry : Entry) (b : State) → IsEntry config a e entry b → ends_at false 0 e entry ≡ false →
      HasLocks a size → HasLocks b size
  step_keeps e (Ok f) b ruled none h = ok_keeps e f b ruled none h
  step_keeps e (Err r) b ruled none h = subst (λ (s : State). HasLocks s size) (sym ruled.0) h

-- two locks that were accepted
locked : (config : Settings) (a : State) (old new : ℕ) (sp : SplitState) (b : State) →
    lock_both config a sp ≡ Ok (Some (effect.Both old new), b) →
    HasLocks b new × (old ≡ pointer config.initial new)
locked config a old new split.Idle b e = err_ok e
locked config a old new split.Begun b e =
    let done =
    (passed (is_held config a (splitting config a)) Held
    (Some (effect.Both (splitting config a) a.buckets), with_splitter a split.Locked)
    (Some (effect.Both old new), b) e).1 in
    let same : effect.Both (splitting config a) a.buckets ≡ effect.Both old new = some_same (told done) in
    let old_is : splitting config a ≡ old = cc in
    let new_is : a.buckets ≡ new = cc in (
      subst (λ (s : State). HasLocks s new) (became done) (refl, new_is),
      sym old_is
          ∙ ap (pointer config.initial) new_is,
    )
locked config a old new split.Locked b e = err_ok e
locked config a old new split.LockedMoved b e = err_ok e
locked config a old new split.Moved b e = err_ok e

-- what the locks are on
both_held : (config : Settings) (b : State) (old new : ℕ) → HasLocks b new → old ≡ pointer config.initial new →
    (split_holds config b old ≡ true) × (split_holds config b new ≡ true)
both_held config b old new h is =
    let old_is : nat_eq old (pointer config.initial b.buckets) ≡ true =
    eq-eqb old (pointer config.initial b.buckets) (is ∙ ap (pointer config.initial) (sym h.1)) in
    let new_is : nat_eq new b.buckets ≡ true = eq-eqb new b.buckets (sym h.1) in (
      (λ i. h.0 i && (old_is i || nat_eq old b.buckets)),
      (λ i. h.0 i && (nat_eq new (pointer config.initial b.buckets) || new_is i))
          ∙ last (nat_eq new (pointer config.initial b.buckets)),
    )
  where
    last : (x : Bool) → (x || true) ≡ true
    last true = refl
    last false = refl

after : (config : Settings) (old new : ℕ) (earlier later : Log) (state : State) →
    IsHistory config (later ++ (event.SplitLock, Ok (effect.Both old new)) ∷ earlier) state →
    list_any (λ step. ends_at false 0 step.0 step.1) later ≡ false →
    HasLocks state new × (old ≡ pointer config.initial new)
after config old new earlier [] state h none = locked config h.0 old new h.0.splitter state h.2
after config old new earlier (s ∷ later) state h none =
    let apart = neither (ends_at false 0 s.0 s.1) (list_any (λ step. ends_at false 0 step.0 step.1) later) none in
    let before = after config old new earlier later h.0 h.1 apart.1 in
    (step_keeps config h.0 new s.0 s.1 state h.2 apart.0 before.0, before.1)

-- as far as their boxes reach, two buckets are held by the splitter
pub both_held_law : BothHeldLaw
both_held_law config old new earlier later state h none =
    let at_end = after config old new earlier later state h none in both_held config state old new at_end.0 at_end.1
