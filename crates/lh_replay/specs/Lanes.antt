-- The lanes of a picture: who takes each step, and how long a bucket is held
use Rattle.std.specs.Prelude.{ℕ, ◌+◌, Bool, true, false, ◌&&◌, ◌==◌, if◌then◌else◌, max, fold, List, [], ◌∷◌, Ok, Err}
use Rattle.lh_core.specs.declared.event.Event.{Event}
use Rattle.lh_core.specs.declared.event.Event.TheVariants as event
use Rattle.lh_core.specs.Log.{Entry}

-- the splitter has lane 0, a worker the lane after its number
abbrev pub lane_of : Event → ℕ
lane_of (event.Call worker call) = worker + 1
lane_of (event.Read worker) = worker + 1
lane_of (event.Lock worker) = worker + 1
lane_of (event.Rehash worker) = worker + 1
lane_of (event.Act worker) = worker + 1
lane_of (event.Release worker) = worker + 1
lane_of _ = 0

-- the lanes of some events: the splitter's, and those up to the greatest worker's
unfoldable pub lane_count : List Event → ℕ
lane_count events = fold (λ lanes event. max lanes (lane_of event + 1)) 1 events

-- whether a worker goes on to another bucket by an event
abbrev pub rehashes : Event → Bool
rehashes (event.Rehash worker) = true
rehashes _ = false

-- whether what is held is let go by an event
abbrev pub lets_go : Event → Bool
lets_go (event.Rehash worker) = true
lets_go (event.Release worker) = true
lets_go event.SplitRelease = true
lets_go _ = false

-- whether a bucket is locked by an event
abbrev pub takes : Event → Bool
takes (event.Lock worker) = true
takes event.SplitLock = true
takes _ = false

-- whether a step of a lane was accepted that locks a bucket, or lets one go
abbrev pub ends_at : Bool → ℕ → Event → Entry → Bool
ends_at is_lock lane event (Err refusal) = false
ends_at is_lock lane event (Ok effect) = (lane_of event == lane) && (if is_lock then takes event else lets_go event)

-- the number of steps up to the first of these and with it, or of all where there is none
unfoldable pub rows_until : Bool → ℕ → List Event → List Entry → ℕ
rows_until is_lock lane [] entries = 0
rows_until is_lock lane (event ∷ events) [] = 0
rows_until is_lock lane (event ∷ events) (entry ∷ entries) =
    if ends_at is_lock lane event entry then 1 else rows_until is_lock lane events entries + 1
