-- The elements of a picture as SVG text
use Rattle.std.specs.Prelude.{ℕ, ◌-◌, Bool, true, false, ◌==◌, if◌then◌else◌, List, [], ◌++◌, Ok, Err, codes}
use Rattle.std.specs.Fmt.{decimal}
use Rattle.lh_bucket.specs.declared.call.Call.TheVariants as call
use Rattle.lh_bucket.specs.declared.call.Reply.TheVariants as reply
use Rattle.lh_core.specs.declared.effect.Effect.TheVariants as effect
use Rattle.lh_core.specs.declared.event.Event.{Event}
use Rattle.lh_core.specs.declared.event.Event.TheVariants as event
use Rattle.lh_core.specs.Log.{Entry, if_accepted}
use Rattle.lh_script.specs.StepTexts.{effect_text, refusal_text}
use Rattle.lh_script.specs.declared.notation.Notation.TheVariants.{Hexadecimal}
use Rattle.lh_replay.specs.declared.elements.PictureCaption.{PictureCaption}
use Rattle.lh_replay.specs.declared.elements.Heading.{Heading}
use Rattle.lh_replay.specs.declared.elements.Step.{Step}
use Rattle.lh_replay.specs.declared.shapes.HeldBox.{HeldBox}
use Rattle.lh_replay.specs.declared.shapes.Rectangle.{Rectangle}
use Rattle.lh_replay.specs.declared.shapes.Shape.{Shape}
use Rattle.lh_replay.specs.declared.shapes.Shape.TheVariants as shape
use Rattle.lh_replay.specs.declared.label.EventLabel.{EventLabel}

-- the picture's title and its description, and what its marks are
unfoldable pub picture_caption_text : PictureCaption → List ℕ
picture_caption_text c =
    codes "<title id='title'>Schedule of a linear hash file, steps " ++ (decimal c.steps ++
    codes
    "</title>\n<desc id='desc'>A lane for the splitter and one for each place, and downwards a row for each step. A box is a bucket that is held, from its lock to its release; an arrow leads from a rehash to the lock after it; an arrow between two boxes marks the move of a split, and a triangle the step of its pointer.</desc>\n<rect width='100%' height='100%' fill='#ffffff'/>\n<text x='16' y='20'>a box is a bucket that is held, and a curved arrow a rehash</text>\n<text x='16' y='38'>a straight arrow is the move of a split, and a triangle the step of its pointer</text>\n")

-- the name of a lane
abbrev pub lane_name : ℕ → List ℕ
lane_name lane = if lane == 0 then codes "splitter" else (codes "place " ++ decimal (lane - 1))

-- a lane's name, and the line on its left
unfoldable pub heading_text : Heading → List ℕ
heading_text h =
    codes "<g transform='translate(" ++ (decimal h.left ++ (codes " 64)'><path stroke='#cccccc' d='M0 -8v" ++ (
    decimal h.height ++ (codes "'/><text x='8' font-weight='bold'>" ++ (lane_name h.lane ++ codes "</text></g>\n")))))

-- an event in one word: a call by its verb
abbrev pub event_word : Event → List ℕ
event_word (event.Call worker (call.Search key)) = codes "search"
event_word (event.Call worker (call.Insert key value)) = codes "insert"
event_word (event.Call worker (call.Delete key)) = codes "delete"
event_word (event.Call worker (call.Replace key value)) = codes "replace"
event_word (event.Read worker) = codes "read"
event_word (event.Lock worker) = codes "lock"
event_word (event.Rehash worker) = codes "rehash"
event_word (event.Act worker) = codes "act"
event_word (event.Release worker) = codes "release"
event_word event.SplitBegin = codes "split-begin"
event_word event.SplitLock = codes "split-lock"
event_word event.SplitMove = codes "split-move"
event_word event.SplitRelease = codes "split-release"
event_word event.SplitPoint = codes "split-point"
event_word event.SplitDrop = codes "split-drop"

-- what was told of an event: as `steps` writes it, but of a value that was found nothing
abbrev pub told_text : Entry → List ℕ
told_text (Ok (effect.Answered (reply.Found value))) = codes "found"
told_text (Ok effect) = effect_text Hexadecimal effect
told_text (Err refusal) = refusal_text refusal

-- an event and what was told of it, a refusal in a colour of its own
unfoldable pub label_text : EventLabel → List ℕ
label_text w =
    codes "<text x='8' y='16' fill='" ++ (if_accepted w.entry (codes "#333333") (codes "#b85000") ++ (codes "'>" ++ (
    event_word w.event ++ (codes ": " ++ (told_text w.entry ++ codes "</text>")))))

-- the colour of what a worker holds, and of what the splitter holds
abbrev pub held_colour : Bool → List ℕ
held_colour true = codes "#f8e2b3"
held_colour false = codes "#b3d5e8"

-- a rectangle from the step's row down
unfoldable pub rectangle_text : Rectangle → List ℕ
rectangle_text r =
    codes "<rect fill='" ++ (held_colour r.is_split ++ (codes "' x='" ++ (decimal r.left ++ (
    codes "' y='2' width='" ++ (decimal r.width ++ (codes "' height='" ++ (decimal r.height ++ codes "'/>")))))))

-- a box with a bucket's number
unfoldable pub held_text : HeldBox → List ℕ
held_text h =
    rectangle_text (record { left = h.left; width = h.width; height = h.height; is_split = h.is_split }) ++ (
    codes "<text transform='translate(" ++ (decimal h.left ++ (codes " 16)' x='6' font-weight='bold'>" ++ (
    decimal h.bucket ++ codes "</text>"))))

-- the boxes of what is held, the arrow of a rehash, and the marks of a split
abbrev pub shape_text : Shape → List ℕ
shape_text shape.Plain = []
shape_text (shape.Held bucket height) =
    held_text (record { left = 148; width = 112; bucket = bucket; height = height; is_split = false })
shape_text (shape.BothHeld old new height) =
    held_text (record { left = 148; width = 54; bucket = old; height = height; is_split = true })
    ++ held_text (record { left = 206; width = 54; bucket = new; height = height; is_split = true })
shape_text (shape.Way down) =
    codes "<path d='M264 12c16 0 16 " ++ (decimal down ++ (codes " 6 " ++ (decimal down ++ (
    codes "' fill='none' stroke='#b85000' stroke-width='2'/><path transform='translate(262 " ++ (
    decimal down ++ codes ")' d='M0 12l8 -4v8z' fill='#b85000'/>")))))
shape_text shape.Moved = codes "<path d='M188 12h32m-6 -5l6 5l-6 5' fill='none' stroke='#333333' stroke-width='2'/>"
shape_text shape.Pointed = codes "<path d='M204 4l8 14h-16z'/>"

-- a step: its number at the left of its row, and in its lane its label on what is drawn of it
unfoldable pub step_text : Step → List ℕ
step_text s =
    codes "<g transform='translate(0 " ++ (decimal s.top ++ (
    codes ")'><text x='36' y='16' text-anchor='end' fill='#757575'>" ++ (decimal s.number ++ (
    codes "</text><g transform='translate(" ++ (decimal s.left ++ (codes " 0)'>" ++ (
    shape_text s.shape ++ (label_text s.label ++ codes "</g></g>\n"))))))))

-- the picture's end
abbrev pub end_text : List ℕ
end_text = codes "</svg>\n"
