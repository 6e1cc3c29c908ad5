use Rattle.std.proofs.Common.{◌≡◌, ℕ, ◌+◌, ◌<◌, List, [], ◌++◌, Vec, Global, length, map, take, get_or, sym, ap, ◌∙◌}
use Rattle.std.proofs.Common.{arith}
use Rattle.std.specs.List.{flat_map}
use Rattle.std.proofs.lemmas.Bool.{false≢true}
use Rattle.lh_page.specs.declared.pair.Pair.{Pair}
use Rattle.lh_image.specs.Chains.{stands_in}
use Rattle.lh_image.specs.Misplaced.{IsTestOf, is_home}
use Rattle.lh_image.specs.Table.{page_records}
use Rattle.lh_image.proofs.Judging.Finding.{flat_more, item_of}
use Rattle.lh_image.proofs.judge.misplaced.least_misfit.Goals as goal

pub loop-bucket-init : goal.loop-bucket-init
unfolding stands_in
loop-bucket-init c bad tests p here = absurd (false≢true here)

pub loop-bucket-preserved : goal.loop-bucket-preserved
loop-bucket-preserved c bad tests =
    let chains : List (Vec ℕ Global) = c.args.chains.now in
    let i : ℕ = c.loop-bucket.bucket in
    let less : i < length chains = omega arith in
    let chain : Vec ℕ Global = c.index-chains-bucket.result in
    let rec : ℕ → List Pair = page_records c.args.table.now.entries.items c.args.table.now.pairs.items in
    let at : get_or (map (λ (v : Vec ℕ Global). v.items) chains) i [] ≡ c.deref.result.now =
    item_of (λ (v : Vec ℕ Global). v.items) chains i [] chain less c.index-chains-bucket.is
    ∙ sym c.deref.ensures.value in
    let mine : IsTestOf bad (is_home c.args.root.now i) rec c.deref.result.now = rw at at (tests i less) in
    let more : flat_map (λ (v : Vec ℕ Global). v.items) (take (i + 1) chains) ≡
    flat_map (λ (v : Vec ℕ Global). v.items) (take i chains) ++ c.deref.result.now =
    flat_more (λ (v : Vec ℕ Global). v.items) chains i chain less
    ∙ ap (λ (v : Vec ℕ Global). flat_map (λ (v : Vec ℕ Global). v.items) (take i chains) ++ v.items)
    (sym c.index-chains-bucket.is)
    ∙ ap (λ (ps : List ℕ). flat_map (λ (v : Vec ℕ Global). v.items) (take i chains) ++ ps)
    (sym c.deref.ensures.value) in
    rw more
    (c.in_ok-least.ensures.least bad (flat_map (λ (v : Vec ℕ Global). v.items) (take i chains)) mine
    (c.loop-bucket.invariant bad tests))
