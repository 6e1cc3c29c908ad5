use Rattle.std.proofs.Common.{◌≡◌, ◌∙◌, ◌+◌, true, false, drop, sym, arith}
use Rattle.lh_replay.specs.Lanes.{ends_at, rows_until}
use Rattle.lh_replay.proofs.Rows.{row_passes, row_stops, rows_end}
use Rattle.lh_replay.proofs.lanes.rows_until.Goals as goal

pub returns-then-ends_at : goal.returns-then-ends_at
returns-then-ends_at c =
    let events = c.args.events.now in
    let entries = c.args.entries.now in
    let row = c.loop-row.row in
    let ends : ends_at c.args.is_lock c.args.lane c.index-events-row.result c.index-entries-row.result ≡ true =
    sym c.ends_at.ensures ∙ c.if-ends_at.true in
    let stops : rows_until c.args.is_lock c.args.lane (drop row events) (drop row entries) ≡ 1 =
    row_stops c.args.is_lock c.args.lane row events entries _ _ c.loop-row-test.true c.requires.same
    c.index-events-row.is c.index-entries-row.is ends in
    omega (arith, stops, c.loop-row.invariant)

pub loop-row-preserved : goal.loop-row-preserved
loop-row-preserved c =
    let events = c.args.events.now in
    let entries = c.args.entries.now in
    let row = c.loop-row.row in
    let ends : ends_at c.args.is_lock c.args.lane c.index-events-row.result c.index-entries-row.result ≡ false =
    sym c.ends_at.ensures ∙ c.if-ends_at.false in
    let passes : rows_until c.args.is_lock c.args.lane (drop row events) (drop row entries)
    ≡ rows_until c.args.is_lock c.args.lane (drop (row + 1) events) (drop (row + 1) entries) + 1 =
    row_passes c.args.is_lock c.args.lane row events entries _ _ c.loop-row-test.true c.requires.same
    c.index-events-row.is c.index-entries-row.is ends in
    omega (arith, passes, c.loop-row.invariant, c.loop-row.auto.row)

pub returns : goal.returns
returns c =
    omega (
      arith,
      c.loop-row.invariant,
      c.loop-row-test.false,
      c.loop-row.auto.row-end,
      c.requires.from,
      rows_end c.args.is_lock c.args.lane c.loop-row.row c.args.events.now c.args.entries.now
          (omega (arith, c.loop-row-test.false)),
    )
