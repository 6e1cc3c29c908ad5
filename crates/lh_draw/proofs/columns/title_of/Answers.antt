use Rattle.std.proofs.Common.{◌≡◌, ◌∙◌, ◌+◌, ap}
use Rattle.lh_addr.specs.Growth.{level, pointer}
use Rattle.lh_bucket.specs.Listing.{size}
use Rattle.lh_draw.specs.Drawing.{title_of}
use Rattle.lh_draw.proofs.columns.title_of.Goals as goal

pub returns : goal.returns
unfolding title_of
returns c =
    let l = c.args.listing.now in
    let level_is : c.level.result ≡ level l.config.initial (size l) =
    c.level.ensures.value ∙ ap (λ r. level r.initial r.buckets) c.root-root.ensures.value in
    let pointer_is : c.pointer.result ≡ pointer l.config.initial (size l) =
    c.pointer.ensures ∙ ap (λ r. pointer r.initial r.buckets) c.root-root.ensures.value in
    λ i. record {
      buckets = c.buckets.ensures.value i;
      level = level_is i;
      pointer = pointer_is i;
      records = (c.requires.tally i).records;
      pages = (c.requires.tally i).pages + 1;
      longest = (c.requires.tally i).longest;
    }
