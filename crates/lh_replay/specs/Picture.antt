-- The picture of a schedule: a row for each step, in the lane of who takes it
use Rattle.std.specs.Prelude.{ℕ, ◌+◌, ◌*◌, true, false, if◌then◌else◌, max, List, ◌++◌, length, drop, slice_index_or}
use Rattle.std.specs.Prelude.{Ok}
use Rattle.lh_core.specs.declared.effect.Effect.TheVariants as effect
use Rattle.lh_core.specs.declared.event.Event.{Event}
use Rattle.lh_core.specs.declared.event.Event.TheVariants as event
use Rattle.lh_core.specs.Log.{Entry}
use Rattle.lh_draw.specs.Drawing.{in_turn}
use Rattle.lh_draw.specs.DrawingTexts.{canvas_text}
use Rattle.lh_draw.specs.declared.elements.Canvas.{Canvas}
use Rattle.lh_replay.specs.Lanes.{lane_count, lane_of, rehashes, rows_until}
use Rattle.lh_replay.specs.PictureTexts.{end_text, heading_text, picture_caption_text, step_text}
use Rattle.lh_replay.specs.Sizes.{box_height, empty_height, lanes_left, lane_width, rows_top, row_height}
use Rattle.lh_replay.specs.declared.elements.PictureCaption.{PictureCaption}
use Rattle.lh_replay.specs.declared.elements.Heading.{Heading}
use Rattle.lh_replay.specs.declared.elements.Step.{Step}
use Rattle.lh_replay.specs.declared.shapes.Shape.{Shape}
use Rattle.lh_replay.specs.declared.shapes.Shape.TheVariants as shape

-- ---- the parts of a picture

unfoldable pub picture_canvas_of : List Event → Canvas
picture_canvas_of events = record {
  width = lanes_left + lane_width * max (lane_count events) 2;
  height = empty_height + row_height * length events;
}

unfoldable pub caption_of : List Event → PictureCaption
caption_of events = record { steps = length events }

unfoldable pub heading_of : List Event → ℕ → Heading
heading_of events lane = record {
  lane = lane;
  left = lanes_left + lane_width * lane;
  height = box_height + row_height * length events;
}

-- the event of a row, and what was told of it
abbrev pub event_at : List Event → ℕ → Event
event_at events row = slice_index_or events row event.SplitDrop

abbrev pub told_at : List Entry → ℕ → Entry
told_at entries row = slice_index_or entries row (Ok effect.Dropped)

-- what is drawn of a step: a box for what is locked, down to the row where it is let go; an arrow for a rehash, down to
-- the row of the next lock; a mark for the move of a split, and for its pointer
abbrev pub shape_of : Event → Entry → ℕ → ℕ → Shape
shape_of event (Ok (effect.Locked bucket level)) held way = shape.Held bucket (box_height + row_height * held)
shape_of event (Ok (effect.Both old new)) held way = shape.BothHeld old new (box_height + row_height * held)
shape_of event (Ok (effect.Aim level bucket)) held way =
    if rehashes event then shape.Way (row_height * way) else shape.Plain
shape_of event (Ok (effect.Moved old new)) held way = shape.Moved
shape_of event (Ok (effect.Point buckets)) held way = shape.Pointed
shape_of event _ held way = shape.Plain

unfoldable pub step_of : List Event → List Entry → ℕ → Step
step_of events entries row =
    let lane : ℕ = lane_of (event_at events row) in
    record {
      number = row + 1;
      top = rows_top + row_height * row;
      left = lanes_left + lane_width * lane;
      label = record { event = event_at events row; entry = told_at entries row };
      shape = shape_of (event_at events row) (told_at entries row)
          (rows_until false lane (drop (row + 1) events) (drop (row + 1) entries))
          (rows_until true lane (drop (row + 1) events) (drop (row + 1) entries));
    }

-- ---- the picture

-- what stands above the steps
unfoldable pub top_text : List Event → List ℕ
top_text events =
    canvas_text (picture_canvas_of events)
    ++ picture_caption_text (caption_of events)
    ++ in_turn (λ lane. heading_text (heading_of events lane)) (lane_count events)

-- what `replay` writes
unfoldable pub picture_of : List Event → List Entry → List ℕ
picture_of events entries =
    top_text events ++ in_turn (λ row. step_text (step_of events entries row)) (length events) ++ end_text
