use Rattle.std.proofs.Common.{◌≡◌, ◌∙◌, sym, ap}
use Rattle.std.specs.List.{position}
use Rattle.lh_subcommands.specs.Loading.{before_first_met, meets_key}
use Rattle.lh_subcommands.proofs.Building.{led_from}
use Rattle.lh_subcommands.proofs.load.file_of.Goals as goal

pub returns : goal.returns
returns c =
    let same : before_first_met c.args.calls.now ≡ c.before_met.result =
    ap (position meets_key) (sym c.in-Ok.ensures.replied) ∙ ap (position meets_key) (sym c.as_slice.ensures.value)
    ∙ sym c.before_met.ensures in
    (led_from _ _ _ _ _ _ _ c.in-Ok.ensures c.in-Ok-listing.ensures.lists c.buckets.ensures.kept, same ∙ search)
