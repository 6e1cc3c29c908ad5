use Rattle.std.proofs.Common.{◌≡◌, ◌∙◌, ◌+◌, ◌*◌, Ok, length, refl, ap, sym}
use Rattle.std.proofs.lemmas.List.{get_or_read_under}
use Rattle.lh_core.specs.declared.effect.Effect.TheVariants as effect
use Rattle.lh_core.specs.declared.event.Event.TheVariants as event
use Rattle.lh_replay.specs.Sizes.{lanes_left, lane_width, rows_top, row_height}
use Rattle.lh_replay.specs.Lanes.{lane_of}
use Rattle.lh_replay.specs.Picture.{event_at, step_of, told_at}
use Rattle.lh_replay.proofs.picture.step_of.Goals as goal

pub returns : goal.returns
unfolding step_of
returns c =
    let events = c.args.events.now in
    let entries = c.args.entries.now in
    let row = c.args.row in
    let event_is : c.index-events-row.result ≡ event_at events row =
    get_or_read_under events row (length events) c.index-events-row.result event.SplitDrop c.index-events-row.is
    c.requires.row refl in
    let told_is : c.index-entries-row.result ≡ told_at entries row =
    get_or_read_under entries row (length events) c.index-entries-row.result (Ok effect.Dropped) c.index-entries-row.is
    c.requires.row (sym c.requires.same) in
    let lane_is : c.lane_of.result ≡ lane_of (event_at events row) = c.lane_of.ensures.value ∙ ap lane_of event_is in
    λ i. record {
      number = row + 1;
      top = rows_top + row_height * row;
      left = lanes_left + lane_width * lane_is i;
      label = record { event = event_is i; entry = told_is i };
      shape = c.shape_at.ensures i;
    }
