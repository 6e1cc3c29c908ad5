use Rattle.std.proofs.Common.{◌≡◌, true, false, sym, ap, ◌∙◌, arith}
use Rattle.lh_image.specs.Header.{header_with}
use Rattle.lh_image.specs.Layout.{fields_end, ends_in_zeros, header_of}
use Rattle.lh_image.proofs.Bytes.Header.{zeros_behind}
use Rattle.lh_image.proofs.Bytes.Versions.{least_page}
use Rattle.lh_image.proofs.Bytes.HeaderTests.{due_field, due_range, due_zeros, due_counts, few_pages}
use Rattle.lh_image.proofs.reading.first_page.header_of.Goals as goal

pub returns-in-Err-clause-fault : goal.returns-in-Err-clause-fault
returns-in-Err-clause-fault c =
    let shown : header_with c.args.version c.fields_of-fields.result ≡ header_of c.args.page.now =
    ap (λ v. header_with v c.fields_of-fields.result) c.requires.version ∙ c.fields_of-fields.ensures in
    due_field (header_of c.args.page.now) (ends_in_zeros c.args.page.now) c.in-Err.offset
    (due_range (header_of c.args.page.now) (ends_in_zeros c.args.page.now) c.in-Err.offset
    (rw shown at c.in-Err.ensures.fault))

pub returns-then-not-is_zero-clause-fault : goal.returns-then-not-is_zero-clause-fault
returns-then-not-is_zero-clause-fault c =
    let shown : header_with c.args.version c.fields_of-fields.result ≡ header_of c.args.page.now =
    ap (λ v. header_with v c.fields_of-fields.result) c.requires.version ∙ c.fields_of-fields.ensures in
    due_field (header_of c.args.page.now) (ends_in_zeros c.args.page.now) fields_end
    (due_zeros (header_of c.args.page.now) (ends_in_zeros c.args.page.now) (rw shown at c.in-Ok.ensures.fault)
    (zeros_behind c.args.version c.args.page.now c.requires.version c.requires.size ∙ sym c.if-not-is_zero.ensures))

pub has_bad_counts-requires-clause-buckets : goal.has_bad_counts-requires-clause-buckets
has_bad_counts-requires-clause-buckets c = omega (arith, c.in-Ok.ensures.buckets.1, c.in-Ok.ensures.in_range.max.1)

pub returns-then-has_bad_counts-clause-fault : goal.returns-then-has_bad_counts-clause-fault
returns-then-has_bad_counts-clause-fault c =
    let shown : header_with c.args.version c.fields_of-fields.result ≡ header_of c.args.page.now =
    ap (λ v. header_with v c.fields_of-fields.result) c.requires.version ∙ c.fields_of-fields.ensures in
    due_counts (header_of c.args.page.now) (ends_in_zeros c.args.page.now) true (rw shown at c.in-Ok.ensures.fault)
    (zeros_behind c.args.version c.args.page.now c.requires.version c.requires.size ∙ sym c.if-not-is_zero.ensures)
    (rw shown at (c.if-has_bad_counts.ensures c.args.version))

pub returns-clause-fault : goal.returns-clause-fault
returns-clause-fault c =
    let shown : header_with c.args.version c.fields_of-fields.result ≡ header_of c.args.page.now =
    ap (λ v. header_with v c.fields_of-fields.result) c.requires.version ∙ c.fields_of-fields.ensures in
    due_counts (header_of c.args.page.now) (ends_in_zeros c.args.page.now) false (rw shown at c.in-Ok.ensures.fault)
    (zeros_behind c.args.version c.args.page.now c.requires.version c.requires.size ∙ sym c.if-not-is_zero.ensures)
    (rw shown at (c.if-has_bad_counts.ensures c.args.version))

pub returns-clause-in_range : goal.returns-clause-in_range
returns-clause-in_range c =
    let counts =
    few_pages (header_with c.args.version c.fields_of-fields.result)
    (sym (c.if-has_bad_counts.ensures c.args.version)) in
    record {
      settings = c.in-Ok.ensures.in_range;
      room = c.in-Ok.ensures.room;
      from_initial = c.in-Ok.ensures.buckets.0;
      to_max = c.in-Ok.ensures.buckets.1;
      enough = counts.0;
      few = counts.1;
    }

pub fields_of-fields-requires : goal.fields_of-fields-requires
fields_of-fields-requires c = omega (arith, c.requires.size, least_page c.args.version)

pub slice_bounds-is_zero-count : goal.slice_bounds-is_zero-count
slice_bounds-is_zero-count c = omega (arith, c.requires.size, least_page c.args.version)

pub slice_bounds-is_zero-start : goal.slice_bounds-is_zero-start
slice_bounds-is_zero-start c = omega (arith, c.requires.size, least_page c.args.version)
