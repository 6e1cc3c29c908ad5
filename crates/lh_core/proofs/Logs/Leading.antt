-- From one step to the headline
use Rattle.std.proofs.Common.{◌≡◌, ◌≤◌, List, [], ◌∷◌, ◌++◌, Some, None, Option, Ok, Err, refl, sym, ap, subst, ◌∙◌}
use Rattle.std.proofs.Common.{arith}
use Rattle.std.specs.FinMap.{empty}
use Rattle.lh_addr.specs.Settings.{Settings}
use Rattle.lh_bucket.specs.declared.call.Call.{Call}
use Rattle.lh_bucket.specs.Bucket.{Head}
use Rattle.lh_bucket.specs.PlainMap.{Records, reply, after, replies, outcome}
use Rattle.lh_core.specs.declared.event.Event.{Event}
use Rattle.lh_core.specs.declared.state.SplitState.TheVariants as split
use Rattle.lh_core.specs.State.{State, first}
use Rattle.lh_core.specs.Log.{Entry, Log, acts, given, and_call, and_reply}
use Rattle.lh_core.specs.History.{IsEntry, IsHistory, served_by}
use Rattle.lh_core.specs.Sound.{IsPhase}
use Rattle.lh_core.specs.Kept.{IsWorld}
use Rattle.lh_core.specs.Laws.{LinearHashing}
use Rattle.lh_core.specs.Headline.{HasLedTo}
use Rattle.lh_core.specs.World.{WorldSeen, IsPlaced, IsStep, StandsFor, FollowsMap, reply_to, map_after}
use Rattle.lh_core.proofs.Logs.Histories.{Told, told, acts_more, spans_law, rises_law}

-- one call more
pub outcome_more : (m : Records) (cs : List Call) (c : Call) → outcome m (cs ++ c ∷ []) ≡ after (outcome m cs) c
outcome_more m [] c = refl
outcome_more m (x ∷ cs) c = outcome_more (after m x) cs c

-- one call more gets, after the replies to the others, the reply of the map that they leave
pub replies_more : (m : Records) (cs : List Call) (c : Call) →
    replies m (cs ++ c ∷ []) ≡ replies m cs ++ reply (outcome m cs) c ∷ []
replies_more m [] c = refl
replies_more m (x ∷ cs) c = ap (λ rs. reply m x ∷ rs) (replies_more (after m x) cs c)

outcome_and : (cs : List Call) (o : Option Call) → outcome empty (and_call cs o) ≡ map_after (outcome empty cs) o
outcome_and cs None = refl
outcome_and cs (Some c) = outcome_more empty cs c

replies_and : (cs : List Call) (o : Option Call) →
    replies empty (and_call cs o) ≡ and_reply (replies empty cs) (reply_to (outcome empty cs) o)
replies_and cs None = refl
replies_and cs (Some c) = replies_more empty cs c

-- while no split is under way, as many buckets are filled as the root counts
pub idle_filled : (s : Settings) (a : State) → IsPhase s a.buckets a.filled a.splitter → a.splitter ≡ split.Idle →
    a.filled ≡ a.buckets
idle_filled s a p e = let q : IsPhase s a.buckets a.filled split.Idle = subst (IsPhase s a.buckets a.filled) e p in q

-- what the rules and the plain map say is all that is needed
pub led : LinearHashing → (log : Log) (w : WorldSeen) → IsWorld w → IsHistory w.config log w.state →
    given log ≡ replies empty (acts log) → StandsFor w (outcome empty (acts log)) → HasLedTo log w
led g log w h ruled replied placed =
    let one : 1 ≤ w.config.initial = h.sound.some in
    let most : w.config.initial ≤ w.config.max = omega (arith, h.sound.from_initial, h.sound.to_max) in
    record {
      ruled = ruled;
      replied = replied;
      spans = spans_law g w.config log w.state one most ruled;
      rises = rises_law g w.config log one most;
      placed = placed;
      once = h.row.once;
      levels = record { each = λ i lt. ap (λ (x : Head). x.level) (h.row.heads i lt) };
      at_rest =
          λ e.
          subst (λ n. IsPlaced w.config.initial n (outcome empty (acts log)) w.buckets)
          (idle_filled w.config w.state h.sound.phase e) placed;
      aims = h.sound.aims;
    }

-- the empty log has led to a world in the first state of its file that stands for the empty map
pub led_none : LinearHashing → (w : WorldSeen) → IsWorld w → w.state ≡ first w.config → StandsFor w empty →
    HasLedTo [] w
led_none g w h state placed = led g [] w h state refl placed

module _ (g : LinearHashing) (log : Log) (v w : WorldSeen) (e : Event) (t : Told v.config log v.state) where
  -- a step more, beside the map that the acts so far make
  map_more : (x : Entry) → given log ≡ replies empty (acts log) → IsEntry v.config v.state e x w.state →
      FollowsMap v (outcome empty (acts log)) e x w →
      (given ((e, x) ∷ log) ≡ replies empty (acts ((e, x) ∷ log))) × StandsFor w (outcome empty (acts ((e, x) ∷ log)))
  map_more (Ok f) gave ok follows =
      let more : acts ((e, Ok f) ∷ log) ≡ and_call (acts log) (served_by v.state e) =
      acts_more g v.config log v.state t e f w.state ok in (
        ap (and_reply (given log)) follows.0
            ∙ ap (λ rs. and_reply rs (reply_to (outcome empty (acts log)) (served_by v.state e))) gave
            ∙ sym (replies_and (acts log) (served_by v.state e)) ∙ ap (replies empty) (sym more),
        subst (StandsFor w) (sym (outcome_and (acts log) (served_by v.state e)) ∙ ap (outcome empty) (sym more))
            follows.1,
      )
  map_more (Err r) gave entry follows = (gave, follows)

-- where a log has led to a world, the log with one step more has led to the world after that step
pub led_more : LinearHashing → (log : Log) (v w : WorldSeen) (e : Event) (x : Entry) → IsWorld v → IsWorld w →
    IsStep v e x w → HasLedTo log v → HasLedTo ((e, x) ∷ log) w
led_more g log v w e x before after step h =
    let one : 1 ≤ v.config.initial = before.sound.some in
    let most : v.config.initial ≤ v.config.max = omega (arith, before.sound.from_initial, before.sound.to_max) in
    let more =
    map_more g log v w e (told g v.config one most log v.state h.ruled) x h.replied step.ruled
    (step.follows (outcome empty (acts log)) h.placed) in
    led g ((e, x) ∷ log) w after (
      v.state,
      subst (λ s. IsHistory s log v.state) (sym step.config) h.ruled,
      subst (λ s. IsEntry s v.state e x w.state) (sym step.config) step.ruled,
    )
    more.0 more.1
