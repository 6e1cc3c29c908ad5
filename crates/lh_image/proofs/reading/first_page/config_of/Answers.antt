use Rattle.std.proofs.Common.{true, sym}
use Rattle.lh_addr.specs.Settings.{IsInRange}
use Rattle.lh_image.specs.Header.{HasRoom, header_with}
use Rattle.lh_image.proofs.Bytes.HeaderTests.{bad_initial, bad_capacity, bad_load, bad_buckets, bad_size, bad_max}
use Rattle.lh_image.proofs.Bytes.HeaderTests.{fields_fit, few_buckets}
use Rattle.lh_image.proofs.reading.first_page.config_of.Goals as goal
use Rattle.lh_image.proofs.reading.first_page.config_of.Goals.{then-has_bad_buckets, else-has_bad_buckets}

pub returns-in-Err-Initial-clause-fault : goal.returns-in-Err-Initial-clause-fault
returns-in-Err-Initial-clause-fault c =
    bad_initial (header_with c.args.version c.args.fields.now)
    (rw c.in-Err-Initial.field-0-is at c.in-Err-Initial.ensures.err)

pub returns-in-Err-Capacity-clause-fault : goal.returns-in-Err-Capacity-clause-fault
returns-in-Err-Capacity-clause-fault c =
    let why = rw c.in-Err-Capacity.field-0-is at c.in-Err-Capacity.ensures.err in
    bad_capacity (header_with c.args.version c.args.fields.now) why.0 why.1

pub returns-in-Err-Load-clause-fault : goal.returns-in-Err-Load-clause-fault
returns-in-Err-Load-clause-fault c =
    let why = rw c.in-Err-Load.field-0-is at c.in-Err-Load.ensures.err in
    bad_load (header_with c.args.version c.args.fields.now) why.0 why.1 why.2

pub returns-after-has_bad_buckets-clause-fault : goal.returns-after-has_bad_buckets-clause-fault
returns-after-has_bad_buckets-clause-fault c =
    let why = rw c.in-Err-Max.field-0-is at c.in-Err-Max.ensures.err in
    elim c.if-has_bad_buckets.branch [
      | then-has_bad_buckets w ↦
          rw w.result-is
          (bad_buckets (header_with c.args.version c.args.fields.now) why.0 why.1 why.2
          (sym w.if-has_bad_buckets.ensures))
      | else-has_bad_buckets w ↦
          rw w.result-is
          (bad_size (header_with c.args.version c.args.fields.now) why.0 why.1 why.2 (sym w.if-has_bad_buckets.ensures)
          why.3)
    ]

pub returns-then-has_bad_buckets-2-clause-fault : goal.returns-then-has_bad_buckets-2-clause-fault
returns-then-has_bad_buckets-2-clause-fault c =
    let ranges : IsInRange (header_with c.args.version c.args.fields.now).config =
    rw c.in-Ok.ensures.ok at c.in-Ok.ensures.in_range in
    let room : HasRoom (header_with c.args.version c.args.fields.now) =
    (ranges.capacity.0, rw c.in-Ok.ensures.ok at c.in-Ok.ensures.room) in
    bad_buckets (header_with c.args.version c.args.fields.now) ranges.initial room ranges.load
    (sym c.if-has_bad_buckets-2.ensures)

pub returns-then-fields-clause-fault : goal.returns-then-fields-clause-fault
returns-then-fields-clause-fault c =
    let ranges : IsInRange (header_with c.args.version c.args.fields.now).config =
    rw c.in-Ok.ensures.ok at c.in-Ok.ensures.in_range in
    let room : HasRoom (header_with c.args.version c.args.fields.now) =
    (ranges.capacity.0, rw c.in-Ok.ensures.ok at c.in-Ok.ensures.room) in
    bad_max (header_with c.args.version c.args.fields.now) ranges.initial room ranges.load
    (sym c.if-has_bad_buckets-2.ensures) c.if-fields.true

pub returns-else-fields-clause-fault : goal.returns-else-fields-clause-fault
returns-else-fields-clause-fault c =
    let ranges : IsInRange (header_with c.args.version c.args.fields.now).config =
    rw c.in-Ok.ensures.ok at c.in-Ok.ensures.in_range in
    let room : HasRoom (header_with c.args.version c.args.fields.now) =
    (ranges.capacity.0, rw c.in-Ok.ensures.ok at c.in-Ok.ensures.room) in
    fields_fit (header_with c.args.version c.args.fields.now) ranges.initial room ranges.load true
    (sym c.if-has_bad_buckets-2.ensures) ranges.max c.if-fields.false

pub returns-else-fields-clause-buckets : goal.returns-else-fields-clause-buckets
returns-else-fields-clause-buckets c =
    let enough = few_buckets c.args.fields.now.buckets c.args.fields.now.initial (sym c.if-has_bad_buckets-2.ensures) in
    let is = c.in-Ok.ensures.ok in
    rw is (enough.0, c.if-fields.false)
