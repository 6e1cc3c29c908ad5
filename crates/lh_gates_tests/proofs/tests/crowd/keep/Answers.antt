use Rattle.std.proofs.Common.{◌≡◌, Bool, true, false, List, [], ◌∷◌, ◌++◌, All, sym, subst}
use Rattle.std.specs.Prelude.{if◌then◌else◌}
use Rattle.std.specs.declared.thread.PromisedHandle.{PromisedHandle}
use Rattle.std.proofs.lemmas.List.Elements.{All-push}
use Rattle.lh_gates_tests.specs.declared.tests.crowd.Finished.{Finished}
use Rattle.lh_gates_tests.specs.declared.tests.crowd.OfCrowd.{OfCrowd}
use Rattle.lh_gates_tests.proofs.tests.crowd.keep.Goals as goal

All-pushed : {A : Type 0} (P : A → Type 0) (b : Bool) (xs ys : List A) (x : A) → ys ≡ (if b then xs ++ x ∷ [] else xs) →
    All P xs → P x → All P ys
All-pushed P true xs ys x e h p = subst (All P) (sym e) (All-push P xs x h p)
All-pushed P false xs ys x e h p = subst (All P) (sym e) h

pub returns : goal.returns
returns c =
    All-pushed (λ (worker : PromisedHandle Finished OfCrowd). worker.promise.0.now ≡ c.args.file.now) _ _ _ _
    c.push.ensures.items c.requires.others c.requires.new
