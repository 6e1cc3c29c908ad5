-- Lines that wait, and lines that were written.
use Rattle.std.proofs.Common.{◌≡◌, ℕ, List, [], ◌++◌, Option, sym, ap, subst, ◌∙◌, append_assoc}
use Rattle.std.proofs.Common.{append-nil}
use Rattle.std.specs.Prelude.{Result, Ok, Err, OnErr}
use Rattle.std.specs.Io.KnownBytes.{Appends}
use Rattle.std.proofs.KnownBytes.{Appends-trans, Appends-nil}
use Rattle.lh_subcommands.specs.Devices.{Sends, TakesBeginning}

-- nothing is sent, and nothing waits
pub sends_nothing : (a : Option (List ℕ)) (waiting : List ℕ) → waiting ≡ [] → Sends a a waiting []
sends_nothing a waiting e = record { taken = []; appended = Appends-nil a; whole = e }

-- all that waits is written
pub sends_now : (before now after : Option (List ℕ)) (old new sent : List ℕ) →
    Sends before now old sent → Appends now after old → new ≡ [] → Sends before after new sent
sends_now before now after old new sent h k e = record {
  taken = h.taken ++ old;
  appended = Appends-trans before now after h.taken old h.appended k;
  whole = ap (λ waiting. (h.taken ++ old) ++ waiting) e ∙ (append-nil (h.taken ++ old) ∙ h.whole);
}

-- a part of what waits was written
pub stops_within : (before now after : Option (List ℕ)) (old sent : List ℕ) →
    Sends before now old sent → TakesBeginning now after old → TakesBeginning before after sent
stops_within before now after old sent h k = record {
  taken = h.taken ++ k.taken;
  left = k.left;
  appended = Appends-trans before now after h.taken k.taken h.appended k.appended;
  whole = append_assoc h.taken k.taken k.left ∙ (ap (λ waiting. h.taken ++ waiting) k.whole ∙ h.whole);
}

-- a beginning of a text is one of a longer text
pub begins_longer : (before now : Option (List ℕ)) (text more : List ℕ) →
    TakesBeginning before now text → TakesBeginning before now (text ++ more)
begins_longer before now text more h = record {
  taken = h.taken;
  left = h.left ++ more;
  appended = h.appended;
  whole = sym (append_assoc h.taken h.left more) ∙ ap (λ text. text ++ more) h.whole;
}

-- all was sent
pub sends_all : (before now after : Option (List ℕ)) (waiting text : List ℕ) →
    Sends before now waiting text → Appends now after waiting → Appends before after text
sends_all before now after waiting text h k =
    subst (Appends before after) h.whole (Appends-trans before now after h.taken waiting h.appended k)

-- what holds anyway holds of an error
pub on_err : {T E P : Type 0} (r : Result T E) → P → OnErr r P
on_err (Ok x) p = tt
on_err (Err e) p = p

-- what follows from what holds of an error holds of it too
pub on_err_weaker : {T E P Q : Type 0} (r : Result T E) → (P → Q) → OnErr r P → OnErr r Q
on_err_weaker (Ok x) f p = tt
on_err_weaker (Err e) f p = f p
