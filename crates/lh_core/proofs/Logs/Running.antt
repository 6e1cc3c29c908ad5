-- A list of steps, one after another
use Rattle.std.proofs.Common.{◌≡◌, ℕ, ◌+◌, ◌<◌, List, [], ◌∷◌, ◌++◌, length, get_or, take, refl, sym, ap, subst, ◌∙◌}
use Rattle.std.proofs.Common.{arith, length-append}
use Rattle.std.proofs.lemmas.Grind.{take_at_read}
use Rattle.lh_addr.specs.Settings.{Settings}
use Rattle.lh_core.specs.declared.event.Event.{Event}
use Rattle.lh_core.specs.Log.{Entry, Log, log_of, logged}
use Rattle.lh_core.specs.Headline.{HasLedTo, IsHeadline}
use Rattle.lh_core.specs.World.{WorldSeen}

logged_more : (log : Log) (es : List Event) (xs : List Entry) (e : Event) (x : Entry) → length xs ≡ length es →
    logged log (es ++ e ∷ []) (xs ++ x ∷ []) ≡ (e, x) ∷ logged log es xs
logged_more log [] [] e x h = refl
logged_more log [] (y ∷ ys) e x h = absurd (omega (arith, h))
logged_more log (d ∷ es) [] e x h = absurd (omega (arith, h))
logged_more log (d ∷ es) (y ∷ ys) e x h = logged_more ((d, y) ∷ log) es ys e x (omega (arith, h))

-- where the empty log has led to a world, the headline holds of no events
pub headline_none : (w : WorldSeen) → HasLedTo [] w → IsHeadline w.config [] [] w
headline_none w h = record { same = refl; whole = refl; led = h }

-- the headline holds of one event more where every log that led to the world before leads on to the next
pub headline_more : (s : Settings) (es : List Event) (xs : List Entry) (v w : WorldSeen) (e : Event) (x : Entry) →
    IsHeadline s es xs v → w.config ≡ v.config → ((log : Log) → HasLedTo log v → HasLedTo ((e, x) ∷ log) w) →
    IsHeadline s (es ++ e ∷ []) (xs ++ x ∷ []) w
headline_more s es xs v w e x h same step = record {
  same = same ∙ h.same;
  whole = length-append xs (x ∷ []) ∙ ap (λ n. n + 1) h.whole ∙ sym (length-append es (e ∷ []));
  led = subst (λ log. HasLedTo log w) (sym (logged_more [] es xs e x h.whole)) (step (log_of es xs) h.led);
}

-- the items of a list up to the next one
pub taken : {X : Type 0} (xs : List X) (i : ℕ) (x : X) → i < length xs → x ≡ get_or xs i x →
    take (i + 1) xs ≡ take i xs ++ x ∷ []
taken xs i x h p = (take_at_read xs i x h).1 ∙ ap (λ y. take i xs ++ y ∷ []) (sym p)
