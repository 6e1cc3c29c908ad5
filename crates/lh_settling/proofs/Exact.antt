-- What settling answers, and when
use Rattle.std.proofs.Common.{◌≡◌, ◌≢◌, ◌↔◌, List, Result, Ok, Err, refl, ap, subst}
use Rattle.std.specs.Result.{IsOk, IfOk, IfErr}
use Rattle.std.proofs.lemmas.Bool.{false≢true}
use Rattle.lh_bucket.specs.Listing.{Lists}
use Rattle.lh_settling.specs.declared.act.ActLine.{ActLine}
use Rattle.lh_settling.specs.declared.settle_fault.SettleFault.{SettleFault}
use Rattle.lh_settling.specs.declared.settle_fault.SettleFault.TheVariants.{Memory}
use Rattle.lh_settling.specs.ClosedFile.{ClosedFile, IsClosed}
use Rattle.lh_settling.specs.Settled.{IsSettled, Settled}
use Rattle.lh_settling.specs.SettleFault.{IsDue}
use Rattle.lh_settling.specs.Laws.{SettledLaw, OneFaultLaw}

ok_err : {G : Type 0} (history : List ActLine) (fault : SettleFault)
    → ◌≡◌ {A = Result (List ActLine) SettleFault} (Ok history) (Err fault) → G
ok_err history fault e = cc

err_err : (fault other : SettleFault) → ◌≡◌ {A = Result (List ActLine) SettleFault} (Err fault) (Err other)
    → fault ≡ other
err_err fault other e = cc

module _ (opening : Lists) (closed : ClosedFile) (acts : List ActLine) (kept : IsClosed closed)
    (settled : SettledLaw) where
  -- unless memory ran out, settling answers a history exactly where the file is settled
  pub settled_exactly : (answer : Result (List ActLine) SettleFault) → IfOk answer (IsSettled opening closed acts)
      → IfErr answer (IsDue opening closed acts) → answer ≢ Err Memory → IsOk answer ↔ Settled opening closed acts
  settled_exactly (Ok history) ok err other = (λ _. (history, ok), λ _. refl)
  settled_exactly (Err fault) ok err other =
      (λ e. absurd (false≢true e), λ s. absurd (other (ap Err (settled opening closed acts fault kept s err))))

  -- unless memory ran out, settling answers any other fault exactly where it is due
  pub due_exactly : OneFaultLaw → (answer : Result (List ActLine) SettleFault)
      → IfOk answer (IsSettled opening closed acts) → IfErr answer (IsDue opening closed acts) → (fault : SettleFault)
      → fault ≢ Memory → answer ≢ Err Memory → (answer ≡ Err fault) ↔ IsDue opening closed acts fault
  due_exactly law (Ok history) ok err fault real other =
      (λ e. ok_err history fault e, λ d. absurd (real (settled opening closed acts fault kept (history, ok) d)))
  due_exactly law (Err given) ok err fault real other = (
    λ e. subst (IsDue opening closed acts) (err_err given fault e) err,
    λ d.
        ap Err (law opening closed acts given fault (λ e. other (ap Err e)) real err d),
  )
