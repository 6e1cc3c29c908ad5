use Rattle.std.proofs.Common.{◌∙◌}
use Rattle.lh_image.specs.Layout.{initial_offset, capacity_offset, load_offset, buckets_offset, max_offset}
use Rattle.lh_image.specs.Layout.{pages_offset, records_offset, header_of}
use Rattle.lh_image.specs.Version.{version_of}
use Rattle.lh_image.proofs.Bytes.HeaderTests.{number_in_slice}
use Rattle.lh_image.proofs.reading.first_page.fields_of.Goals as goal

pub returns : goal.returns
unfolding header_of
returns c = λ i. record {
  version = version_of c.args.page.now;
  config = record {
    initial = (c.read_u32.ensures ∙ number_in_slice initial_offset 4 c.args.page.now) i;
    capacity = (c.read_u32-2.ensures ∙ number_in_slice capacity_offset 4 c.args.page.now) i;
    load = (c.read_u32-3.ensures ∙ number_in_slice load_offset 4 c.args.page.now) i;
    max = (c.read_u32-5.ensures ∙ number_in_slice max_offset 4 c.args.page.now) i;
  };
  buckets = (c.read_u32-4.ensures ∙ number_in_slice buckets_offset 4 c.args.page.now) i;
  pages = (c.read_u32-6.ensures ∙ number_in_slice pages_offset 4 c.args.page.now) i;
  records = (c.read_u64.ensures ∙ number_in_slice records_offset 8 c.args.page.now) i;
}
