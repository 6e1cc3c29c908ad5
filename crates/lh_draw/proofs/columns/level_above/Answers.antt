use Rattle.std.proofs.Common.{◌≡◌, ◌∙◌, ℕ, true, false, if◌then◌else◌, Option, None, Some, ap, sym}
use Rattle.lh_addr.specs.Growth.{level_of}
use Rattle.lh_bucket.specs.Listing.{size}
use Rattle.lh_draw.specs.Columns.{is_next_level}
use Rattle.lh_draw.specs.Drawing.{level_above}
use Rattle.lh_draw.proofs.columns.level_above.Goals as goal

pub returns-then-is_next_level-clause-value : goal.returns-then-is_next_level-clause-value
unfolding level_above
returns-then-is_next_level-clause-value c =
    let l = c.args.listing.now in
    let above : Option ℕ = Some (level_of l.config.initial (size l) 0) in
    let level_is : c.level_of-first.result ≡ level_of l.config.initial (size l) 0 =
    c.level_of-first.ensures.value ∙ ap (λ r. level_of r.initial r.buckets 0) c.root.ensures.value in
    let tested : is_next_level l 0 ≡ true = sym c.is_next_level.ensures ∙ c.if-is_next_level.true in
    ap (λ (n : ℕ). Some n) level_is ∙ ap (λ b. if b then above else None) (sym tested)

pub returns-else-is_next_level-clause-value : goal.returns-else-is_next_level-clause-value
unfolding level_above
returns-else-is_next_level-clause-value c =
    let l = c.args.listing.now in
    let above : Option ℕ = Some (level_of l.config.initial (size l) 0) in
    let tested : is_next_level l 0 ≡ false = sym c.is_next_level.ensures ∙ c.if-is_next_level.false in
    ap (λ b. if b then above else None) (sym tested)
