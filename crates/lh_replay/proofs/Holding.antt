-- A worker holds a bucket as far as its box reaches.
use Rattle.std.proofs.Common.{◌≡◌, ◌∙◌, ℕ, ◌+◌, ◌<◌, ◌≢◌, ◌||◌, ◌&&◌, Bool, true, false, List, [], ◌∷◌, Option, Some}
use Rattle.std.proofs.Common.{None, Ok, Err, length, set, nat_eq, refl, sym, ap, subst, eq-eqb, ⊎_elim}
use Rattle.std.specs.Prelude.{slice_get}
use Rattle.std.specs.List.{list_any}
use Rattle.std.proofs.lemmas.Bool.{cases_eq, false≢true}
use Rattle.std.proofs.lemmas.List.{length-set, get_or-set_same, get_or-set_other}
use Rattle.std.proofs.lemmas.Option.{slice_get-get_or, slice_get_within, get_or_from_slice_get}
use Rattle.lh_addr.specs.Settings.{Settings}
use Rattle.lh_bucket.specs.declared.call.Call.{Call}
use Rattle.lh_core.specs.declared.effect.Effect.{Effect}
use Rattle.lh_core.specs.declared.effect.Effect.TheVariants as effect
use Rattle.lh_core.specs.declared.effect.Refusal.TheVariants.{Held, FileFull, MustRehash}
use Rattle.lh_core.specs.declared.event.Event.{Event}
use Rattle.lh_core.specs.declared.event.Event.TheVariants as event
use Rattle.lh_core.specs.declared.state.SplitState.{SplitState}
use Rattle.lh_core.specs.declared.state.SplitState.TheVariants as split
use Rattle.lh_core.specs.declared.state.WorkerState.{WorkerState}
use Rattle.lh_core.specs.declared.state.WorkerState.TheVariants.{Idle, Called, Aimed, Holding, Acted}
use Rattle.lh_core.specs.Holds.{holds, is_barred}
use Rattle.lh_core.specs.History.{IsEntry, outline}
use Rattle.lh_core.specs.Log.{Entry}
use Rattle.lh_core.specs.Rules.{WorkerStep, act, allowed, at_worker, begin_split, called, drop_split, free_both, lock}
use Rattle.lh_core.specs.Rules.{lock_both, move_records, point, read, rehash, release}
use Rattle.lh_core.specs.State.{State, local_level}
use Rattle.lh_core.specs.StepLaws.{became, err_ok, passed, some_same, step_at, told}
use Rattle.lh_replay.specs.Lanes.{ends_at}
use Rattle.lh_replay.specs.Meaning.{DoesHold, HeldLaw}

-- what is written at a place, and what is left at another
written_at : {X : Type 0} (xs : List X) (w : ℕ) (y : X) → w < length xs → slice_get (set xs w y) w ≡ Some y
written_at xs w y h =
    slice_get-get_or (set xs w y) w y (subst (λ n. w < n) (sym (length-set xs w y)) h)
    ∙ ap Some (get_or-set_same xs w y y h)

left_at : {X : Type 0} (xs : List X) (v w : ℕ) (y x : X) → w ≢ v → slice_get xs w ≡ Some x →
    slice_get (set xs v y) w ≡ Some x
left_at xs v w y x apart is =
    slice_get-get_or (set xs v y) w x (subst (λ n. w < n) (sym (length-set xs v y)) (slice_get_within xs w x is))
    ∙ ap Some (get_or-set_other xs v w y x apart ∙ get_or_from_slice_get xs w x x is)

module _ (config : Settings) (a : State) (w m : ℕ) where
  -- an accepted step of some worker leaves the bucket held, if it does where it is this worker's
  worker_keeps : (v : ℕ) (step : WorkerState → WorkerStep) (o : Option Effect) (b : State) →
      at_worker a v step ≡ Ok (o, b) →
      ((x y : WorkerState) → w ≡ v → holds m x ≡ true → step x ≡ Ok (o, y) → holds m y ≡ true) → DoesHold a w m →
      DoesHold b w m
  worker_keeps v step o b ok keeps h =
      let (x, y, at, steps, is) = step_at a v step (slice_get a.workers v) o b ok in
      subst (λ (s : State). DoesHold s w m) (sym is)
      (⊎_elim
      (λ (q : w ≡ v).
      let same : x ≡ h.0 = some_same (sym at ∙ ap (slice_get a.workers) (sym q) ∙ h.1) in
      let here : slice_get (set a.workers v y) w ≡ Some y =
      subst (λ (n : ℕ). slice_get (set a.workers v y) n ≡ Some y) (sym q)
      (written_at a.workers v y (slice_get_within a.workers v x at)) in
      (y, here, keeps x y q (subst (λ (d : WorkerState). holds m d ≡ true) (sym same) h.2) steps))
      (λ (d : w ≡ v → ⊥). (h.0, left_at a.workers v w y h.0 d h.1, h.2))
      (cases_eq w v))

  -- a step that leaves the workers
  split_keeps : (b : State) → b.workers ≡ a.workers → DoesHold a w m → DoesHold b w m
  split_keeps b same h = (h.0, ap (λ (ws : List WorkerState). slice_get ws w) same ∙ h.1, h.2)

  called_keeps : (c : Call) (o : Option Effect) (x y : WorkerState) → holds m x ≡ true → called c x ≡ Ok (o, y) →
      holds m y ≡ true
  called_keeps c o Idle y h e = absurd (false≢true h)
  called_keeps c o (Called d) y h e = err_ok e
  called_keeps c o (Aimed d k n) y h e = err_ok e
  called_keeps c o (Holding d k n) y h e = err_ok e
  called_keeps c o (Acted d n) y h e = err_ok e

  read_keeps : (o : Option Effect) (x y : WorkerState) → holds m x ≡ true → read config a x ≡ Ok (o, y) →
      holds m y ≡ true
  read_keeps o Idle y h e = err_ok e
  read_keeps o (Called d) y h e = absurd (false≢true h)
  read_keeps o (Aimed d k n) y h e = err_ok e
  read_keeps o (Holding d k n) y h e = err_ok e
  read_keeps o (Acted d n) y h e = err_ok e

  lock_keeps : (o : Option Effect) (x y : WorkerState) → holds m x ≡ true → lock config a x ≡ Ok (o, y) →
      holds m y ≡ true
  lock_keeps o Idle y h e = err_ok e
  lock_keeps o (Called d) y h e = err_ok e
  lock_keeps o (Aimed d k n) y h e = absurd (false≢true h)
  lock_keeps o (Holding d k n) y h e = err_ok e
  lock_keeps o (Acted d n) y h e = err_ok e

  act_keeps : (o : Option Effect) (x y : WorkerState) → holds m x ≡ true → act config a x ≡ Ok (o, y) → holds m y ≡ true
  act_keeps o Idle y h e = err_ok e
  act_keeps o (Called d) y h e = err_ok e
  act_keeps o (Aimed d k n) y h e = err_ok e
  act_keeps o (Holding d k n) y h e =
      let acted : Acted d n ≡ y = became (passed _ MustRehash (None, Acted d n) (o, y) e).1 in
      subst (λ (z : WorkerState). holds m z ≡ true) acted h
  act_keeps o (Acted d n) y h e = err_ok e

  begin_same : (sp : SplitState) (o : Option Effect) (b : State) → begin_split config a sp ≡ Ok (o, b) →
      b.workers ≡ a.workers
  begin_same split.Idle o b e = sym (ap (λ (s : State). s.workers) (became (passed _ FileFull _ (o, b) e).1))
  begin_same split.Begun o b e = err_ok e
  begin_same split.Locked o b e = err_ok e
  begin_same split.LockedMoved o b e = err_ok e
  begin_same split.Moved o b e = err_ok e

  both_same : (sp : SplitState) (o : Option Effect) (b : State) → lock_both config a sp ≡ Ok (o, b) →
      b.workers ≡ a.workers
  both_same split.Idle o b e = err_ok e
  both_same split.Begun o b e = sym (ap (λ (s : State). s.workers) (became (passed _ Held _ (o, b) e).1))
  both_same split.Locked o b e = err_ok e
  both_same split.LockedMoved o b e = err_ok e
  both_same split.Moved o b e = err_ok e

  move_same : (sp : SplitState) (o : Option Effect) (b : State) → move_records config a sp ≡ Ok (o, b) →
      b.workers ≡ a.workers
  move_same split.Idle o b e = err_ok e
  move_same split.Begun o b e = err_ok e
  move_same split.Locked o b e = sym (ap (λ (s : State). s.workers) (became e))
  move_same split.LockedMoved o b e = err_ok e
  move_same split.Moved o b e = err_ok e

  free_same : (sp : SplitState) (o : Option Effect) (b : State) → free_both a sp ≡ Ok (o, b) → b.workers ≡ a.workers
  free_same split.Idle o b e = err_ok e
  free_same split.Begun o b e = err_ok e
  free_same split.Locked o b e = sym (ap (λ (s : State). s.workers) (became e))
  free_same split.LockedMoved o b e = sym (ap (λ (s : State). s.workers) (became e))
  free_same split.Moved o b e = err_ok e

  point_same : (sp : SplitState) (o : Option Effect) (b : State) → point a sp ≡ Ok (o, b) → b.workers ≡ a.workers
  point_same split.Idle o b e = err_ok e
  point_same split.Begun o b e = err_ok e
  point_same split.Locked o b e = err_ok e
  point_same split.LockedMoved o b e = err_ok e
  point_same split.Moved o b e = sym (ap (λ (s : State). s.workers) (became e))

  drop_same : (sp : SplitState) (o : Option Effect) (b : State) → drop_split a sp ≡ Ok (o, b) → b.workers ≡ a.workers
  drop_same split.Idle o b e = err_ok e
  drop_same split.Begun o b e = sym (ap (λ (s : State). s.workers) (became e))
  drop_same split.Locked o b e = err_ok e
  drop_same split.LockedMoved o b e = err_ok e
  drop_same split.Moved o b e = err_ok e

  -- a step of this worker that lets go ends the box
  lets_go_ends : {G : Type 0} (v : ℕ) → w ≡ v → (nat_eq (v + 1) (w + 1) && true) ≡ false → G
  lets_go_ends v q none =
      let one : nat_eq (v + 1) (w + 1) ≡ true = eq-eqb (v + 1) (w + 1) (ap (λ (n : ℕ). n + 1) (sym q)) in
      absurd (false≢true (sym none ∙ ap (λ b. b && true) one))

  ok_keeps : (e : Event) (f : Effect) (b : State) → allowed config a e ≡ Ok (outline f, b) →
      ends_at false (w + 1) e (Ok f) ≡ false → DoesHold a w m → DoesHold b w m
  ok_keeps (event.Call v c) f b ok none h =
      worker_keeps v (called c) (outline f) b ok (λ x y q. called_keeps c (outline f) x y) h
  ok_keeps (event.Read v) f b ok none h =
      worker_keeps v (read config a) (outline f) b ok (λ x y q. read_keeps (outline f) x y) h
  ok_keeps (event.Lock v) f b ok none h =
      worker_keeps v (lock config a) (outline f) b ok (λ x y q. lock_keeps (outline f) x y) h
  ok_keeps (event.Rehash v) f b ok none h =
      worker_keeps v (rehash config a) (outline f) b ok (λ x y q i s. lets_go_ends v q none) h
  ok_keeps (event.Act v) f b ok none h =
      worker_keeps v (act config a) (outline f) b ok (λ x y q. act_keeps (outline f) x y) h
  ok_keeps (event.Release v) f b ok none h =
      worker_keeps v release (outline f) b ok (λ x y q i s. lets_go_ends v q none) h
  ok_keeps event.SplitBegin f b ok none h = split_keeps b (begin_same a.splitter (outline f) b ok) h
  ok_keeps event.SplitLock f b ok none h = split_keeps b (both_same a.splitter (outline f) b ok) h
  ok_keeps event.SplitMove f b ok none h = split_keeps b (move_same a.splitter (outline f) b ok) h
  ok_keeps event.SplitRelease f b ok none h = split_keeps b (free_same a.splitter (outline f) b ok) h
  ok_keeps event.SplitPoint f b ok none h = split_keeps b (point_same a.splitter (outline f) b ok) h
  ok_keeps event.SplitDrop f b ok none h = split_keeps b (drop_same a.splitter (outline f) b ok) h

  step_keeps : (e : Event) (entry : Entry) (b : State) → IsEntry config a e entry b →
      ends_at false (w + 1) e entry ≡ false → DoesHold a w m → DoesHold b w m
  step_keeps e (Ok f) b ruled none h = ok_keeps e f b ruled none h
  step_keeps e (Err r) b ruled none h = subst (λ (s : State). DoesHold s w m) (sym ruled.0) h

  -- a lock that was accepted
  lock_holds : (k : ℕ) (x y : WorkerState) → lock config a x ≡ Ok (Some (effect.Locked m k), y) → holds m y ≡ true
  lock_holds k Idle y e = err_ok e
  lock_holds k (Called d) y e = err_ok e
  lock_holds k (Aimed d j n) y e =
      let done =
      (passed (is_barred config a d n) Held (Some (effect.Locked n (local_level config a n)), Holding d j n)
      (Some (effect.Locked m k), y) e).1 in
      let bucket : n ≡ m =
      let same : effect.Locked n (local_level config a n) ≡ effect.Locked m k = some_same (told done) in
      cc in
      subst (λ (z : WorkerState). holds m z ≡ true) (became done) (eq-eqb n m bucket)
  lock_holds k (Holding d j n) y e = err_ok e
  lock_holds k (Acted d n) y e = err_ok e

  locked : (k : ℕ) (b : State) → allowed config a (event.Lock w) ≡ Ok (Some (effect.Locked m k), b) → DoesHold b w m
  locked k b ok =
      let (x, y, at, steps, is) = step_at a w (lock config a) (slice_get a.workers w) (Some (effect.Locked m k)) b ok in
      subst (λ (s : State). DoesHold s w m) (sym is)
      (y, written_at a.workers w y (slice_get_within a.workers w x at), lock_holds k x y steps)

-- where one test or another would hold, and doesn't, neither does
pub neither : (a b : Bool) → (a || b) ≡ false → (a ≡ false) × (b ≡ false)
neither true b e = absurd (false≢true (sym e))
neither false b e = (refl, e)

-- as far as its box reaches, a bucket is held by its worker
pub held_law : HeldLaw
held_law config w m k earlier [] state h none = locked config h.0 w m k state h.2
held_law config w m k earlier (s ∷ later) state h none =
    let apart =
    neither (ends_at false (w + 1) s.0 s.1) (list_any (λ step. ends_at false (w + 1) step.0 step.1) later) none in
    step_keeps config h.0 w m s.0 s.1 state h.2 apart.0 (held_law config w m k earlier later h.0 h.1 apart.1)
