-- How the level that an act takes place at goes with the level that its worker read
use Rattle.std.specs.Prelude.{[], ◌∷◌, Ok}
use Rattle.lh_addr.specs.Settings.{Settings}
use Rattle.lh_core.specs.declared.event.Event.{Event}
use Rattle.lh_core.specs.declared.event.Event.TheVariants as event
use Rattle.lh_core.specs.State.{State}
use Rattle.lh_core.specs.Log.{Entry, Log}
use Rattle.lh_core.specs.History.{IsHistory, IsEntry}
use Rattle.lh_core.specs.Spans.{HasRisenToAct}

-- an accepted act after a log took place at the level that its worker had come to
abbrev pub ActHasRisen : Settings → Event → Entry → Log → Type 0
ActHasRisen config (event.Act worker) (Ok effect) log =
    (before after : State) → IsHistory config log before → IsEntry config before (event.Act worker) (Ok effect) after →
    HasRisenToAct config before worker log
ActHasRisen config _ _ log = Unit {0}

-- every accepted act of a log did
abbrev pub ActsHaveRisen : Settings → Log → Type 0
ActsHaveRisen config [] = Unit {0}
ActsHaveRisen config (step ∷ log) = ActsHaveRisen config log × ActHasRisen config step.0 step.1 log
