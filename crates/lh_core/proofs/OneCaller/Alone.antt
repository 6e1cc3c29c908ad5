-- One worker alone, and one split alone, step by step
use Rattle.std.proofs.Common.{◌≡◌, ℕ, ◌+◌, ◌<◌, true, false, cond, ◌∷◌, Option, Some, None, Ok, Err, nat_eq, nat_lt}
use Rattle.std.proofs.Common.{refl, sym, ap, subst, ◌∙◌, arith, replicate}
use Rattle.std.specs.Prelude.{List}
use Rattle.std.specs.Result.{IsOk}
use Rattle.std.proofs.lemmas.Bool.Decides.{nat_tests}
use Rattle.lh_addr.specs.Fnv.{code_of}
use Rattle.lh_addr.specs.Settings.{Settings}
use Rattle.lh_addr.specs.Growth.{address, level_of}
use Rattle.lh_bucket.specs.declared.call.Call.{Call}
use Rattle.lh_bucket.specs.Call.{is_search}
use Rattle.lh_bucket.specs.declared.call.Reply.{Reply}
use Rattle.lh_bucket.specs.Call.{key_of}
use Rattle.lh_bucket.specs.Bucket.{Seen}
use Rattle.lh_bucket.specs.PlainMap.{Records, after, reply}
use Rattle.lh_core.specs.Control.{world_of}
use Rattle.lh_core.specs.declared.control.Control.{Control}
use Rattle.lh_core.specs.declared.effect.Effect.{Effect}
use Rattle.lh_core.specs.declared.effect.Effect.TheVariants as effect
use Rattle.lh_core.specs.declared.effect.Refusal.TheVariants.{Held, MustRehash, FileFull}
use Rattle.lh_core.specs.declared.event.Event.{Event}
use Rattle.lh_core.specs.declared.event.Event.TheVariants as event
use Rattle.lh_core.specs.declared.state.WorkerState.{WorkerState}
use Rattle.lh_core.specs.declared.state.WorkerState.TheVariants.{Idle, Called, Aimed, Holding, Acted}
use Rattle.lh_core.specs.declared.state.SplitState.{SplitState}
use Rattle.lh_core.specs.declared.state.SplitState.TheVariants as split
use Rattle.lh_core.specs.State.{State, splitting}
use Rattle.lh_core.specs.Holds.{is_barred, is_held, is_held_alone}
use Rattle.lh_core.specs.Rules.{allowed, put}
use Rattle.lh_core.specs.Log.{effect_reply}
use Rattle.lh_core.specs.History.{served_by, outline}
use Rattle.lh_core.specs.Sound.{IsPhase}
use Rattle.lh_core.specs.Kept.{IsWorld}
use Rattle.lh_core.specs.Serial.{IsAtRest, IsGivenUp, IsServedAlone, HasGrown}
use Rattle.lh_core.specs.World.{WorldSeen, IsStep, StandsFor, reply_to, map_after}
use Rattle.lh_core.specs.StepLaws.{became, told, some_same}
use Rattle.lh_core.proofs.Logs.Leading.{idle_filled}

-- a call that is served at once, while nobody is at work
pub at_once : (c : Control) (row rows : List Seen) (call served : Call) (y : Reply) → served ≡ call →
    ((m : Records) → StandsFor (world_of c row) m → y ≡ reply m served) →
    ((m : Records) → StandsFor (world_of c row) m → StandsFor (world_of c rows) (after m served)) →
    IsServedAlone (world_of c row) call y (world_of c rows)
at_once c row rows call served y is told stands = record {
  same = refl;
  state = refl;
  replied = λ m p. told m p ∙ ap (reply m) is;
  stands = λ m p. subst (λ x. StandsFor (world_of c rows) (after m x)) is (stands m p);
}

-- worker 0 does x, and nobody else does anything
abbrev pub alone : ℕ → WorkerState → State
alone n x = record { buckets = n; filled = n; workers = x ∷ replicate 15 Idle; splitter = split.Idle }

-- the splitter is in state x, and nobody else does anything
abbrev pub waiting : ℕ → ℕ → SplitState → State
waiting n f x = record { buckets = n; filled = f; workers = replicate 16 Idle; splitter = x }

-- a state at rest is that of its number of buckets with worker 0 idle and nobody else doing anything
pub rest_alone : (s : Settings) (a : State) → IsPhase s a.buckets a.filled a.splitter → IsAtRest a →
    a ≡ alone a.buckets Idle
rest_alone s a p r =
    λ i.
    record {
      buckets = a.buckets;
      filled = idle_filled s a p r.splitter i;
      workers = r.workers i;
      splitter = r.splitter i;
    }

no_bar : (s : Settings) (n k l m : ℕ) (c : Call) → is_barred s (alone n (Aimed c k m)) c l ≡ false
unfolding is_barred is_held is_held_alone
no_bar s n k l m c =
    elim (is_search c) as (λ b.
    cond b (is_held_alone s (alone n (Aimed c k m)) l) (is_held s (alone n (Aimed c k m)) l) ≡ false)
    [ true ↦ refl | false ↦ refl ]

not_less : (k : ℕ) → nat_lt k k ≡ false
not_less k = grind (arith, nat_tests)

not_full : (n m : ℕ) → n < m → nat_eq n m ≡ false
not_full n m h = grind (arith, nat_tests)

-- a world in a state
pub record At (s : Settings) (a : State) (v : WorldSeen) : Type 0 where
  pub same : v.config ≡ s
  pub state : v.state ≡ a

-- where an allowed step leads
goes : (s : Settings) (a b : State) (e : Event) (o : Option Effect) (v w : WorldSeen) (f : Effect) →
    allowed s a e ≡ Ok (o, b) → At s a v → IsStep v e (Ok f) w → At s b w
goes s a b e o v w f ok h step =
    let r : allowed s a e ≡ Ok (outline f, w.state) =
    subst (λ t. allowed t a e ≡ Ok (outline f, w.state)) h.same
    (subst (λ x. allowed v.config x e ≡ Ok (outline f, w.state)) h.state step.ruled) in
    record { same = step.config ∙ h.same; state = became (sym r ∙ ok) }

may : (s : Settings) (a b : State) (e : Event) (o : Option Effect) (v : WorldSeen) → allowed s a e ≡ Ok (o, b) →
    At s a v → IsOk (allowed v.config v.state e)
may s a b e o v ok h =
    subst (λ t. IsOk (allowed t v.state e)) (sym h.same)
    (subst (λ x. IsOk (allowed s x e)) (sym h.state) (subst IsOk (sym ok) refl))

module _ (s : Settings) (n : ℕ) (c : Call) where
  abbrev bucket : ℕ
  bucket = address s.initial n (code_of (key_of c))

  abbrev height : ℕ
  height = level_of s.initial n bucket

  call_goes : allowed s (alone n Idle) (event.Call 0 c) ≡ Ok (Some effect.Called, alone n (Called c))
  call_goes = refl

  read_goes : allowed s (alone n (Called c)) (event.Read 0) ≡
      Ok (Some (effect.Aim height bucket), alone n (Aimed c height bucket))
  read_goes = refl

  lock_goes : allowed s (alone n (Aimed c height bucket)) (event.Lock 0) ≡
      Ok (Some (effect.Locked bucket height), alone n (Holding c height bucket))
  lock_goes =
      ap
      (λ b.
      put (alone n (Aimed c height bucket)) 0
      (cond b (Err Held) (Ok (Some (effect.Locked bucket height), Holding c height bucket))))
      (no_bar s n height bucket bucket c)

  act_goes : allowed s (alone n (Holding c height bucket)) (event.Act 0) ≡ Ok (None, alone n (Acted c bucket))
  act_goes =
      ap (λ b. put (alone n (Holding c height bucket)) 0 (cond b (Err MustRehash) (Ok (None, Acted c bucket))))
      (not_less height)

  give_up_goes : allowed s (alone n (Holding c height bucket)) (event.Release 0) ≡
      Ok (Some effect.GivenUp, alone n Idle)
  give_up_goes = refl

  release_goes : allowed s (alone n (Acted c bucket)) (event.Release 0) ≡ Ok (Some effect.Released, alone n Idle)
  release_goes = refl

module _ (c : Call) (v0 v1 v2 : WorldSeen) (f0 f1 : Effect) (h : IsWorld v0) (r : IsAtRest v0.state)
    (t0 : IsStep v0 (event.Call 0 c) (Ok f0) v1) (t1 : IsStep v1 (event.Read 0) (Ok f1) v2) where
  at0 : At v0.config (alone v0.state.buckets Idle) v0
  at0 = record { same = refl; state = rest_alone v0.config v0.state h.sound.phase r }

  at1 : At v0.config (alone v0.state.buckets (Called c)) v1
  at1 = goes v0.config _ _ (event.Call 0 c) _ v0 v1 f0 (call_goes v0.config v0.state.buckets c) at0 t0

  at2 : At v0.config
      (alone v0.state.buckets (Aimed c (height v0.config v0.state.buckets c) (bucket v0.config v0.state.buckets c))) v2
  at2 = goes v0.config _ _ (event.Read 0) _ v1 v2 f1 (read_goes v0.config v0.state.buckets c) at1 t1

  -- after its call and its read, a worker alone may lock the bucket of its aim
  pub may_lock : IsOk (allowed v2.config v2.state (event.Lock 0))
  may_lock = may v0.config _ _ (event.Lock 0) _ v2 (lock_goes v0.config v0.state.buckets c) at2

  module _ (v3 : WorldSeen) (f2 : Effect) (t2 : IsStep v2 (event.Lock 0) (Ok f2) v3) where
    at3 : At v0.config
        (alone v0.state.buckets (Holding c (height v0.config v0.state.buckets c) (bucket v0.config v0.state.buckets c)))
        v3
    at3 = goes v0.config _ _ (event.Lock 0) _ v2 v3 f2 (lock_goes v0.config v0.state.buckets c) at2 t2

    -- the call that the act serves
    serves_call : served_by v3.state (event.Act 0) ≡ Some c
    serves_call = ap (λ a. served_by a (event.Act 0)) at3.state

    -- once its bucket is let go without an act, the call is given up
    pub given_up : (v4 v5 : WorldSeen) (f3 : Effect) → v4 ≡ v3 → IsStep v4 (event.Release 0) (Ok f3) v5 →
        IsGivenUp v0 v5
    given_up v4 v5 f3 e t4 =
        let t : IsStep v3 (event.Release 0) (Ok f3) v5 =
        subst (λ (v : WorldSeen). IsStep v (event.Release 0) (Ok f3) v5) e t4 in
        let at5 : At v0.config (alone v0.state.buckets Idle) v5 =
        goes v0.config _ _ (event.Release 0) _ v3 v5 f3 (give_up_goes v0.config v0.state.buckets c) at3 t in
        record {
          same = at5.same;
          state = at5.state ∙ sym at0.state;
          stands = λ m p. (t.follows m (t2.follows m (t1.follows m (t0.follows m p).1).1).1).1;
        }

    module _ (v4 : WorldSeen) (f3 : Effect) (t3 : IsStep v3 (event.Act 0) (Ok f3) v4) where
      at4 : At v0.config (alone v0.state.buckets (Acted c (bucket v0.config v0.state.buckets c))) v4
      at4 = goes v0.config _ _ (event.Act 0) _ v3 v4 f3 (act_goes v0.config v0.state.buckets c) at3 t3

      -- once the worker has let its bucket go, its call was served alone, with the reply of the act
      pub served : (v5 : WorldSeen) (f4 : Effect) (y : Reply) → f3 ≡ effect.Answered y →
          IsStep v4 (event.Release 0) (Ok f4) v5 → IsServedAlone v0 c y v5
      served v5 f4 y is t4 =
          let at5 : At v0.config (alone v0.state.buckets Idle) v5 =
          goes v0.config _ _ (event.Release 0) _ v4 v5 f4 (release_goes v0.config v0.state.buckets c) at4 t4 in
          let to3 : (m : Records) → StandsFor v0 m → StandsFor v3 m =
          λ m p. (t2.follows m (t1.follows m (t0.follows m p).1).1).1 in
          record {
            same = at5.same;
            state = at5.state ∙ sym at0.state;
            replied =
                λ m p. some_same (sym (ap effect_reply is) ∙ (t3.follows m (to3 m p)).0 ∙ ap (reply_to m) serves_call);
            stands =
                λ m p.
                (t4.follows (after m c)
                (subst (StandsFor v4) (ap (map_after m) serves_call) (t3.follows m (to3 m p)).1)).1;
          }

module _ (s : Settings) (n : ℕ) where
  begin_goes : n < s.max →
      allowed s (waiting n n split.Idle) event.SplitBegin ≡
      Ok (Some (effect.Begun (splitting s (waiting n n split.Idle)) n), waiting n n split.Begun)
  begin_goes room =
      ap
      (λ b.
      cond b (Err FileFull)
      (Ok (Some (effect.Begun (splitting s (waiting n n split.Idle)) n), waiting n n split.Begun)))
      (not_full n s.max room)

  both_goes : allowed s (waiting n n split.Begun) event.SplitLock ≡
      Ok (Some (effect.Both (splitting s (waiting n n split.Idle)) n), waiting n n split.Locked)
  unfolding is_held
  both_goes = refl

  move_goes : allowed s (waiting n n split.Locked) event.SplitMove ≡
      Ok (Some (effect.Moved (splitting s (waiting n n split.Idle)) n), waiting n (n + 1) split.LockedMoved)
  move_goes = refl

  free_goes : allowed s (waiting n (n + 1) split.LockedMoved) event.SplitRelease ≡
      Ok (Some effect.Freed, waiting n (n + 1) split.Moved)
  free_goes = refl

  free_unmoved_goes : allowed s (waiting n n split.Locked) event.SplitRelease ≡
      Ok (Some effect.Freed, waiting n n split.Begun)
  free_unmoved_goes = refl

  drop_goes : allowed s (waiting n n split.Begun) event.SplitDrop ≡ Ok (Some effect.Dropped, waiting n n split.Idle)
  drop_goes = refl

  point_goes : allowed s (waiting n (n + 1) split.Moved) event.SplitPoint ≡
      Ok (Some (effect.Point (n + 1)), waiting (n + 1) (n + 1) split.Idle)
  point_goes = refl

module _ (v0 v1 : WorldSeen) (f0 : Effect) (h : IsWorld v0) (r : IsAtRest v0.state)
    (room : v0.state.buckets < v0.config.max) (t0 : IsStep v0 event.SplitBegin (Ok f0) v1) where
  split1 : At v0.config (waiting v0.state.buckets v0.state.buckets split.Begun) v1
  split1 =
      goes v0.config _ _ event.SplitBegin _ v0 v1 f0 (begin_goes v0.config v0.state.buckets room)
      (record { same = refl; state = rest_alone v0.config v0.state h.sound.phase r }) t0

  -- a split that began at rest may lock both buckets
  pub may_lock_both : IsOk (allowed v1.config v1.state event.SplitLock)
  may_lock_both = may v0.config _ _ event.SplitLock _ v1 (both_goes v0.config v0.state.buckets) split1

  -- a split taken to its end leaves the file at rest with one bucket more, and the same records
  pub grown : (v2 v3 v4 v5 : WorldSeen) (f1 f2 f3 f4 : Effect) → IsStep v1 event.SplitLock (Ok f1) v2 →
      IsStep v2 event.SplitMove (Ok f2) v3 → IsStep v3 event.SplitRelease (Ok f3) v4 →
      IsStep v4 event.SplitPoint (Ok f4) v5 → HasGrown v0 v5
  grown v2 v3 v4 v5 f1 f2 f3 f4 t1 t2 t3 t4 =
      let at2 = goes v0.config _ _ event.SplitLock _ v1 v2 f1 (both_goes v0.config v0.state.buckets) split1 t1 in
      let at3 = goes v0.config _ _ event.SplitMove _ v2 v3 f2 (move_goes v0.config v0.state.buckets) at2 t2 in
      let at4 = goes v0.config _ _ event.SplitRelease _ v3 v4 f3 (free_goes v0.config v0.state.buckets) at3 t3 in
      let at5 : At v0.config (waiting (v0.state.buckets + 1) (v0.state.buckets + 1) split.Idle) v5 =
      goes v0.config _ _ event.SplitPoint _ v4 v5 f4 (point_goes v0.config v0.state.buckets) at4 t4 in
      record {
        same = at5.same;
        size = ap (λ (a : State). a.buckets) at5.state;
        rest =
            record {
              workers = ap (λ (a : State). a.workers) at5.state;
              splitter = ap (λ (a : State). a.splitter) at5.state;
            };
        stands = λ m p. (t4.follows m (t3.follows m (t2.follows m (t1.follows m (t0.follows m p).1).1).1).1).1;
      }

  module _ (v2 v3 : WorldSeen) (f1 : Effect) (t1 : IsStep v1 event.SplitLock (Ok f1) v2) (e : v3 ≡ v2) where
    -- where the records were not moved
    split3 : At v0.config (waiting v0.state.buckets v0.state.buckets split.Locked) v3
    split3 =
        subst (λ v. At v0.config (waiting v0.state.buckets v0.state.buckets split.Locked) v) (sym e)
        (goes v0.config _ _ event.SplitLock _ v1 v2 f1 (both_goes v0.config v0.state.buckets) split1 t1)

    module _ (v4 : WorldSeen) (f2 : Effect) (t2 : IsStep v3 event.SplitRelease (Ok f2) v4) where
      split4 : At v0.config (waiting v0.state.buckets v0.state.buckets split.Begun) v4
      split4 = goes v0.config _ _ event.SplitRelease _ v3 v4 f2 (free_unmoved_goes v0.config v0.state.buckets) split3 t2

      -- once it is dropped, the split is given up
      pub split_given_up : (v5 : WorldSeen) (f3 : Effect) → IsStep v4 event.SplitDrop (Ok f3) v5 → IsGivenUp v0 v5
      split_given_up v5 f3 t3 =
          let at5 : At v0.config (waiting v0.state.buckets v0.state.buckets split.Idle) v5 =
          goes v0.config _ _ event.SplitDrop _ v4 v5 f3 (drop_goes v0.config v0.state.buckets) split4 t3 in
          record {
            same = at5.same;
            state = at5.state ∙ sym (rest_alone v0.config v0.state h.sound.phase r);
            stands =
                λ m p.
                (t3.follows m
                (t2.follows m (subst (λ v. StandsFor v m) (sym e) (t1.follows m (t0.follows m p).1).1)).1).1;
          }
