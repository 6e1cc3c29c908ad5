use Rattle.std.proofs.Common.{◌≡◌, ℕ, List, Bor, refl, sym, ap, subst, ◌∙◌, inr}
use Rattle.lh_image.specs.Checked.{IsChecked}
use Rattle.lh_image.specs.Image.{listing_of}
use Rattle.lh_image.specs.Indexed.{extent_of}
use Rattle.lh_image.specs.Layout.{header_of, view_of}
use Rattle.lhf.specs.Handles.{HasNumbers}
use Rattle.lhf.specs.Replies.{TellsFault}
use Rattle.lhf.proofs.Told.{opening_first}
use Rattle.lhf.proofs.lhf_check.Goals as goal

pub returns-in-Err-clause-code : goal.returns-in-Err-clause-code
returns-in-Err-clause-code c =
    inr
    (inr
    (subst (λ o. TellsFault o c.code_of.result c.place_of-image.result)
    (sym (opening_first c.args.image.now.bytes.now c.in-Err.fault (sym c.in-Err.ensures.fault)))
    (c.code_of.ensures.code, c.place_of-image.ensures)))

pub returns-in-Ok-check_into-clause-code : goal.returns-in-Ok-check_into-clause-code
returns-in-Ok-check_into-clause-code c =
    let bytes = c.args.image.now.bytes.now in
    let k =
    subst (λ b. IsChecked b (header_of b) (extent_of b) c.check_into.new.index) c.in-Ok.ensures.bytes
    c.in-Ok-check_into.ensures.checked in
    inr
    (inr
    (subst (λ o. TellsFault o 0 c.put_numbers.new.image.at)
    (sym (c.image_is_of_only_listing.ensures bytes (listing_of (view_of bytes)) k.image).0) refl))

pub returns-in-Ok-check_into-clause-checked : goal.returns-in-Ok-check_into-clause-checked
returns-in-Ok-check_into-clause-checked c zero =
    let same : c.in-Ok.opened ≡ c.put_numbers.new.image.bytes.now =
    c.in-Ok.ensures.bytes ∙ ap (λ (b : Bor (List ℕ)). b.now) (sym c.put_numbers.ensures.bytes) in
    let n = subst (λ b. HasNumbers b c.put_numbers.new.image) same c.put_numbers.ensures.numbers in
    let k =
    subst (λ b. IsChecked b (header_of b) (extent_of b) c.check_into.new.index) same
    c.in-Ok-check_into.ensures.checked in
    record {
      numbers = record {
        version = n.version;
        initial = n.initial;
        capacity = n.capacity;
        load = n.load;
        max = n.max;
        buckets = n.buckets;
        pages = n.pages;
        records = n.records;
      };
      checked = k;
    }
