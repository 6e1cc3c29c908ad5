-- Laws of the definitions in specs/Rules.antt: what an accepted step was, and what it became
use Rattle.std.specs.Prelude.{◌≡◌, ℕ, Bool, true, false, Option, Some, None, Result, Ok, Err, refl}
use Rattle.std.proofs.Common.{cond, sym, ap}
use Rattle.lh_core.specs.declared.effect.Effect.{Effect}
use Rattle.lh_core.specs.declared.state.WorkerState.{WorkerState}
use Rattle.lh_core.specs.State.{State, with_worker}
use Rattle.lh_core.specs.Rules.{WorkerStep, put, put_at}

pub err_ok : {X E G : Type 0} {r : E} {x : X} → ◌≡◌ {A = Result X E} (Err r) (Ok x) → G
err_ok e = cc

pub ok_same : {X E : Type 0} {x y : X} → ◌≡◌ {A = Result X E} (Ok x) (Ok y) → x ≡ y
ok_same e = cc

pub some_same : {X : Type 0} {x y : X} → Some x ≡ Some y → x ≡ y
some_same e = cc

pub none_some : {X G : Type 0} {x : X} → None ≡ Some x → G
none_some e = cc

-- what an accepted step became, and what it told
pub became : {X Y E : Type 0} {p q : X × Y} → ◌≡◌ {A = Result (X × Y) E} (Ok p) (Ok q) → p.1 ≡ q.1
became e = ap (λ z. z.1) (ok_same e)

pub told : {X Y E : Type 0} {p q : X × Y} → ◌≡◌ {A = Result (X × Y) E} (Ok p) (Ok q) → p.0 ≡ q.0
told e = ap (λ z. z.0) (ok_same e)

-- past a test that could refuse
pub passed : {X E : Type 0} (b : Bool) (r : E) (x y : X) → ◌≡◌ {A = Result X E} (cond b (Err r) (Ok x)) (Ok y) →
    (b ≡ false) × (◌≡◌ {A = Result X E} (Ok x) (Ok y))
passed true r x y e = err_ok e
passed false r x y e = (refl, e)

step_put : (a : State) (w : ℕ) (p : WorkerStep) (o : Option Effect) (b : State) → put a w p ≡ Ok (o, b) →
    (y : WorkerState) × (p ≡ Ok (o, y)) × (b ≡ with_worker a w y)
step_put a w (Ok p) o b e = (p.1, ap (λ z. Ok (z, p.1)) (told e), sym (became e))
step_put a w (Err r) o b e = err_ok e

-- an accepted step of a worker
pub step_at : (a : State) (w : ℕ) (step : WorkerState → WorkerStep) (z : Option WorkerState) (o : Option Effect)
    (b : State) → put_at a w step z ≡ Ok (o, b) →
    (x : WorkerState) × (y : WorkerState) × (z ≡ Some x) × (step x ≡ Ok (o, y)) × (b ≡ with_worker a w y)
step_at a w step None o b e = err_ok e
step_at a w step (Some x) o b e = let h = step_put a w (step x) o b e in (x, h.0, refl, h.1, h.2)
