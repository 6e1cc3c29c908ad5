-- One step of the world, put together
use Rattle.std.proofs.Common.{◌≡◌, ℕ, ◌+◌, List, Option, Some, None, Result, Ok, Err, refl, sym, ap, subst, ◌∙◌}
use Rattle.std.specs.Result.{OnErr}
use Rattle.lh_addr.specs.Settings.{Settings, IsInRange}
use Rattle.lh_addr.specs.Extent.{Extent}
use Rattle.lh_bucket.specs.declared.call.Reply.{Reply}
use Rattle.lh_bucket.specs.Bucket.{Seen}
use Rattle.lh_bucket.specs.PlainMap.{Records, reply, after}
use Rattle.lh_core.specs.declared.control.Control.{Control}
use Rattle.lh_core.specs.declared.control.Act.{Act}
use Rattle.lh_core.specs.declared.effect.Effect.{Effect}
use Rattle.lh_core.specs.declared.effect.Effect.TheVariants as effect
use Rattle.lh_core.specs.declared.effect.Refusal.{Refusal}
use Rattle.lh_core.specs.declared.event.Event.{Event}
use Rattle.lh_core.specs.declared.event.Event.TheVariants as event
use Rattle.lh_core.specs.State.{State, with_moved}
use Rattle.lh_core.specs.Rules.{allowed}
use Rattle.lh_core.specs.Log.{effect_reply}
use Rattle.lh_core.specs.History.{outline, call_held, served_by}
use Rattle.lh_core.specs.Sound.{IsSound}
use Rattle.lh_core.specs.Kept.{IsBucketRow, IsWorld}
use Rattle.lh_core.specs.Control.{IsControl, KeepsFile, IsActOf, HasNoReply, control_state, step_to}
use Rattle.lh_core.specs.Control.{acted as acted_state, world_of}
use Rattle.lh_core.specs.Laws.{LinearHashing}
use Rattle.lh_core.specs.World.{IsPlaced, IsStep, StandsFor, reply_to, map_after}
use Rattle.lh_core.proofs.Logs.Aiming.{sound_ok}

told_outline : (f : Effect) → HasNoReply f → Some f ≡ outline f
told_outline effect.Called t = refl
told_outline (effect.Aim k m) t = refl
told_outline (effect.Locked m l) t = refl
told_outline (effect.Answered r) t = absurd t
told_outline effect.Released t = refl
told_outline effect.GivenUp t = refl
told_outline (effect.Begun n m) t = refl
told_outline (effect.Both n m) t = refl
told_outline (effect.Moved n m) t = refl
told_outline effect.Freed t = refl
told_outline (effect.Point n) t = refl
told_outline effect.Dropped t = refl

told_reply : (f : Effect) → HasNoReply f → effect_reply f ≡ None
told_reply effect.Called t = refl
told_reply (effect.Aim k m) t = refl
told_reply (effect.Locked m l) t = refl
told_reply (effect.Answered r) t = absurd t
told_reply effect.Released t = refl
told_reply effect.GivenUp t = refl
told_reply (effect.Begun n m) t = refl
told_reply (effect.Both n m) t = refl
told_reply (effect.Moved n m) t = refl
told_reply effect.Freed t = refl
told_reply (effect.Point n) t = refl
told_reply effect.Dropped t = refl

module _ (c d : Control) (row : List Seen) where
  -- after an accepted event the control is still sound, and makes a world with the row of filled buckets
  pub after_step : LinearHashing → (rows : List Seen) (e : Event) (o : Option Effect) → IsControl c →
      IsWorld (world_of c row) → KeepsFile c d → allowed c.config (control_state c) e ≡ Ok (o, control_state d) →
      IsBucketRow c.config d.filled.buckets rows → IsControl d × IsWorld (world_of d rows)
  after_step g rows e o h w r ok q =
      let sound : IsSound d.config (control_state d) =
      subst (λ s. IsSound s (control_state d)) (sym r.config)
      (sound_ok g c.config (control_state c) h.sound o (control_state d) e ok) in
      let range : IsInRange d.config = subst (λ (s : Settings). IsInRange s) (sym r.config) h.range in (
        record {
          range = range;
          root = r.root ∙ h.root ∙ ap (λ (s : Settings). s.initial) (sym r.config);
          filled = r.filled ∙ h.filled ∙ ap (λ (s : Settings). s.initial) (sym r.config);
          sound = sound;
        },
        record {
          range = range;
          sound = sound;
          row = subst (λ (s : Settings). IsBucketRow s d.filled.buckets rows) (sym r.config) q;
        },
      )

  -- the same after an event, accepted or refused, that leaves the filled buckets as they are
  pub after_turn : LinearHashing → (e : Event) (x : Result Effect Refusal) → IsControl c → IsWorld (world_of c row) →
      KeepsFile c d → d.filled ≡ c.filled → step_to x d ≡ allowed c.config (control_state c) e → OnErr x (d ≡ c) →
      IsControl d × IsWorld (world_of d row)
  after_turn g e (Ok f) h w r same ok err =
      after_step g row e (Some f) h w r (sym ok)
      (subst (λ (x : Extent). IsBucketRow c.config x.buckets row) (sym same) w.row)
  after_turn g e (Err f) h w r same ok err =
      subst (λ (x : Control). IsControl x × IsWorld (world_of x row)) (sym err) (h, w)

  placed_same : (m : Records) (rows : List Seen) → KeepsFile c d → d.filled ≡ c.filled →
      IsPlaced c.config.initial c.filled.buckets m rows → StandsFor (world_of d rows) m
  placed_same m rows r f p =
      subst (λ (s : Settings). IsPlaced s.initial d.filled.buckets m rows) (sym r.config)
      (subst (λ (x : Extent). IsPlaced c.config.initial x.buckets m rows) (sym f) p)

  -- an act that tells the map's reply, and leaves the records of the map after its call, is a step of the world
  pub acted : (w : ℕ) (act : Act) (y : Reply) (rows : List Seen) → IsActOf c w act → KeepsFile c d →
      d.filled ≡ c.filled →
      allowed c.config (control_state c) (event.Act w) ≡ Ok (None, acted_state (control_state c) w act) →
      control_state d ≡ acted_state (control_state c) w act →
      ((m : Records) → StandsFor (world_of c row) m → y ≡ reply m act.call.now) →
      ((m : Records) → StandsFor (world_of c row) m →
      IsPlaced c.config.initial c.filled.buckets (after m act.call.now) rows) →
      IsStep (world_of c row) (event.Act w) (Ok (effect.Answered y)) (world_of d rows)
  acted w act y rows i r same ok state told stands =
      let calls : served_by (control_state c) (event.Act w) ≡ Some act.call.now = ap call_held i.held in
      record {
        config = r.config;
        ruled = ok ∙ ap (λ b. Ok (None, b)) (sym state);
        follows = λ m p. (
          ap Some (told m p) ∙ ap (reply_to m) (sym calls),
          subst (StandsFor (world_of d rows)) (ap (map_after m) (sym calls))
              (placed_same (after m act.call.now) rows r same (stands m p)),
        );
      }

  -- the moving of a split's records is a step of the world if it places each map's records in one bucket more
  pub moved : (f : Effect) (rows : List Seen) → HasNoReply f → KeepsFile c d →
      control_state d ≡ with_moved (control_state c) →
      allowed c.config (control_state c) event.SplitMove ≡ Ok (Some f, with_moved (control_state c)) →
      ((m : Records) → StandsFor (world_of c row) m → IsPlaced c.config.initial (c.root.buckets + 1) m rows) →
      IsStep (world_of c row) event.SplitMove (Ok f) (world_of d rows)
  moved f rows t r state ok stands = record {
    config = r.config;
    ruled =
        ok ∙ ap (λ o. Ok (o, with_moved (control_state c))) (told_outline f t)
        ∙ ap (λ b. Ok (outline f, b)) (sym state);
    follows = λ m p. (
      told_reply f t,
      subst (λ (s : Settings). IsPlaced s.initial d.filled.buckets m rows) (sym r.config)
          (subst (λ n. IsPlaced c.config.initial n m rows) (sym (ap (λ (z : State). z.filled) state)) (stands m p)),
    );
  }
