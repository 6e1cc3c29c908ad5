-- The worker behind a verb of a step script, by the number of words.
use Rattle.std.proofs.Common.{◌≡◌, ◌≢◌, ℕ, List, [], ◌∷◌, length, refl}
use Rattle.std.specs.Prelude.{Err}
use Rattle.lh_script.specs.Steps.{worker, worker_alone}
use Rattle.lh_script.specs.declared.fault.LineFault.TheVariants.{WordCount}

-- where not just one word stands for a worker, the number of words is wrong
pub no_worker : (ws : List (List ℕ)) → length ws ≢ 1 → worker_alone ws ≡ Err WordCount
unfolding worker_alone
no_worker [] h = refl
no_worker (k ∷ []) h = absurd (h refl)
no_worker (k ∷ l ∷ ws) h = refl

-- where just one does, it is read as the number of the worker
pub worker_behind : (ws : List (List ℕ)) (w : List ℕ) → ws ≡ w ∷ [] → worker_alone ws ≡ worker w
unfolding worker_alone
worker_behind ws w e = rw e refl
