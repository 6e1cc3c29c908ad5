use Rattle.std.proofs.Common.{◌≡◌, ◌∙◌, ◌++◌, length, ap, arith}
use Rattle.std.specs.Prelude.{replicate}
use Rattle.lh_bucket.specs.Listing.{count_of}
use Rattle.lh_image.specs.Image.{header_for}
use Rattle.lh_image.specs.Layout.{number_text, padding}
use Rattle.lh_image.specs.Version.{magic}
use Rattle.lh_image.proofs.Bytes.HeaderText.{header_written}
use Rattle.lh_image.proofs.Writes.Counting.{records_few}
use Rattle.lh_image.proofs.writing.listing_pages.header_bytes.Goals as goal

pub returns : goal.returns
returns c =
    let records : c.len.result ≡ count_of c.args.listing.now.lists =
    omega (
      arith,
      c.len.ensures,
      records_few c.args.listing.now c.pages_are_pieces.ensures c.config-config.ensures.kept.config.capacity
          c.requires.few,
    ) in
    let numbers : c.number_bytes-numbers.result ≡
    number_text (header_for c.args.version c.args.listing.now c.args.pages) =
    c.number_bytes-numbers.ensures c.args.version
    ∙ (λ i. number_text (record {
      version = c.args.version;
      config = record {
        initial = (c.initial.ensures.value ∙ ap (λ s. s.initial) c.config-config.ensures.value) i;
        capacity = (c.capacity.ensures.value ∙ ap (λ s. s.capacity) c.config-config.ensures.value) i;
        load = (c.load.ensures.value ∙ ap (λ s. s.load) c.config-config.ensures.value) i;
        max = (c.max.ensures.value ∙ ap (λ s. s.max) c.config-config.ensures.value) i;
      };
      buckets = c.buckets.ensures.value i;
      pages = c.args.pages;
      records = records i;
    })) in
    header_written c.args.version c.copy_from_slice.new.self c.copy_from_slice-2.new.self c.copy_from_slice.ensures.len
    (ap length (c.copy_from_slice-2.ensures.after ∙ numbers))
    ∙ ap (λ xs. xs ++ c.copy_from_slice-2.new.self ++ replicate (padding c.args.version) 0)
    (c.copy_from_slice.ensures.after ∙ c.magic.ensures)
    ∙ ap (λ xs. magic c.args.version ++ xs ++ replicate (padding c.args.version) 0)
    (c.copy_from_slice-2.ensures.after ∙ numbers)
