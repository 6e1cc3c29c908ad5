-- The open call of a worker is the call whose span reaches to the end of the log
use Rattle.std.proofs.Common.{◌≡◌, ℕ, ◌||◌, Bool, true, false, cond, [], ◌∷◌, Some, None, Ok, Err, nat_eq, refl, ap}
use Rattle.std.proofs.Common.{◌∙◌}
use Rattle.std.specs.List.{list_any}
use Rattle.lh_bucket.specs.declared.call.Call.{Call}
use Rattle.lh_core.specs.declared.effect.Effect.{Effect}
use Rattle.lh_core.specs.declared.event.Event.{Event}
use Rattle.lh_core.specs.declared.event.Event.TheVariants as event
use Rattle.lh_core.specs.Log.{Entry, Log, open_call}
use Rattle.lh_core.specs.Spans.{is_bound, IsInSpan}
use Rattle.lh_core.specs.Laws.{OpenCallLaw}
use Rattle.lh_core.specs.StepLaws.{none_some, some_same}
use Rattle.lh_core.proofs.Logs.Steps.{same_eq}

module _ (w : ℕ) (c : Call) where
  add : (d : Event × Entry) (log : Log) → is_bound w d ≡ false → IsInSpan w log c → IsInSpan w (d ∷ log) c
  add d log e s = record {
    later = d ∷ s.later;
    earlier = s.earlier;
    effect = s.effect;
    is = ap (λ l. d ∷ l) s.is;
    since = ap (λ b. b || list_any (is_bound w) s.later) e ∙ s.since;
  }

  called : (v : ℕ) (d : Call) (f : Effect) (log : Log) (b : Bool) → nat_eq v w ≡ b →
      cond b (Some d) (open_call w log) ≡ Some c → (open_call w log ≡ Some c → IsInSpan w log c) →
      IsInSpan w ((event.Call v d, Ok f) ∷ log) c
  called v d f log true t h next = record {
    later = [];
    earlier = log;
    effect = f;
    is = ap (λ x. (event.Call x d, Ok f) ∷ log) (same_eq v w t) ∙ ap (λ x. (event.Call w x, Ok f) ∷ log) (some_same h);
    since = refl;
  }
  called v d f log false t h next = add (event.Call v d, Ok f) log t (next h)

  closed : (d : Event × Entry) (log : Log) (b : Bool) → is_bound w d ≡ b → cond b None (open_call w log) ≡ Some c →
      (open_call w log ≡ Some c → IsInSpan w log c) → IsInSpan w (d ∷ log) c
  closed d log true t h next = none_some h
  closed d log false t h next = add d log t (next h)

  span : (log : Log) → open_call w log ≡ Some c → IsInSpan w log c
  span [] h = none_some h
  span ((e, Err r) ∷ log) h = add (e, Err r) log refl (span log h)
  span ((event.Call v d, Ok f) ∷ log) h = called v d f log (nat_eq v w) refl h (span log)
  span ((event.Act v, Ok f) ∷ log) h = closed (event.Act v, Ok f) log (nat_eq v w) refl h (span log)
  span ((event.Release v, Ok f) ∷ log) h = closed (event.Release v, Ok f) log (nat_eq v w) refl h (span log)
  span ((event.Read v, Ok f) ∷ log) h = add (event.Read v, Ok f) log refl (span log h)
  span ((event.Lock v, Ok f) ∷ log) h = add (event.Lock v, Ok f) log refl (span log h)
  span ((event.Rehash v, Ok f) ∷ log) h = add (event.Rehash v, Ok f) log refl (span log h)
  span ((event.SplitBegin, Ok f) ∷ log) h = add (event.SplitBegin, Ok f) log refl (span log h)
  span ((event.SplitLock, Ok f) ∷ log) h = add (event.SplitLock, Ok f) log refl (span log h)
  span ((event.SplitMove, Ok f) ∷ log) h = add (event.SplitMove, Ok f) log refl (span log h)
  span ((event.SplitRelease, Ok f) ∷ log) h = add (event.SplitRelease, Ok f) log refl (span log h)
  span ((event.SplitPoint, Ok f) ∷ log) h = add (event.SplitPoint, Ok f) log refl (span log h)
  span ((event.SplitDrop, Ok f) ∷ log) h = add (event.SplitDrop, Ok f) log refl (span log h)

-- the span of a worker's open call reaches to the end of the log
pub open_call_law : OpenCallLaw
open_call_law w log c h = span w c log h
