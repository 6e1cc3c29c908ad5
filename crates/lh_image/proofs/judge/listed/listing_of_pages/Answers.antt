use Rattle.std.proofs.Common.{◌≡◌, ℕ, ◌<◌, List, length, map, Vec, Global, None, sym, ap, subst, ◌∙◌, arith}
use Rattle.std.specs.List.{range_with_len}
use Rattle.std.proofs.lemmas.List.{length-map}
use Rattle.std.proofs.lemmas.List.FromFn.{length-map-range_with_len}
use Rattle.std.proofs.lemmas.Result.{err_from_is_err_and}
use Rattle.lh_bucket.specs.Listing.{Lists, IsListing}
use Rattle.lh_page.specs.declared.pair.Pair.{Pair}
use Rattle.lh_image.specs.declared.header.Header.{Header}
use Rattle.lh_image.specs.declared.judge.page_checks.PageFaults.{PageFaults}
use Rattle.lh_image.specs.declared.table.PageEntry.{PageEntry}
use Rattle.lh_image.specs.Chains.{Links, chain}
use Rattle.lh_image.specs.Faults.{link_rows, first_fault_of}
use Rattle.lh_image.specs.Image.{listing_of}
use Rattle.lh_image.specs.Listed.{IsMemoryOr, IsViewKept}
use Rattle.lh_image.specs.Table.{links_in, next_in}
use Rattle.lh_image.specs.View.{View, buckets, page_count, links}
use Rattle.lh_image.proofs.Judging.AtHome.{none_misfit}
use Rattle.lh_image.proofs.Judging.Closing.{AreChains, misfit_is, misfit_told, read_whole, listing_is}
use Rattle.lh_image.proofs.Judging.Judging.{heads_told, links_told, slots_told}
use Rattle.lh_image.proofs.Judging.Last.{AreFine, covered}
use Rattle.lh_image.proofs.judge.listed.listing_of_pages.Goals as goal

-- the links and the chains of what was kept are those of the View
links_are : (v : View) (entries : List PageEntry) (header : Header) (pairs : List Pair) (faults : PageFaults) →
    v.header ≡ header → IsViewKept v entries pairs faults → links_in entries header.buckets ≡ links v
links_are v entries header pairs faults same kept = rw (← same) kept.links

links_fine : {k l : Links} → k ≡ l → first_fault_of (link_rows k) ≡ None → first_fault_of (link_rows l) ≡ None
links_fine same none = sym (ap (λ (l : Links). first_fault_of (link_rows l)) same) ∙ none

chains_are : (v : View) (l : Links) (chains : List (Vec ℕ Global)) → l ≡ links v →
    map (λ (c : Vec ℕ Global). c.items) chains ≡ map (chain l.next l.pages) (range_with_len 0 l.heads) →
    AreChains v chains
chains_are v l chains same made = made ∙ ap (λ (k : Links). map (chain k.next k.pages) (range_with_len 0 k.heads)) same

whole_is : (h k : Header) (ls : List (List Pair)) (l x : Lists) → h ≡ k → x ≡ record { config = k.config; lists = ls } →
    record { config = h.config; lists = ls } ≡ l → x ≡ l
whole_is h k ls l x same is lists = is ∙ (λ i. record { config = (sym same i).config; lists = ls }) ∙ lists

pub returns-in_err-of_heads-clause-exact : goal.returns-in_err-of_heads-clause-exact
returns-in_err-of_heads-clause-exact c v same kept =
    let p = err_from_is_err_and c.from_residual.result c.from_residual.ensures.1 in
    let some : buckets v < page_count v = rw same (omega (arith, c.requires.in_range.enough)) in
    rw (p.1, p.2)
    (heads_told v c.args.table.now.entries.items c.args.table.now.pairs.items c.args.faults.now some kept
    c.in_err-of_heads.field-0.0 (rw same c.in_err-of_heads.ensures.fault))

pub returns-in_err-chains-clause-exact : goal.returns-in_err-chains-clause-exact
returns-in_err-chains-clause-exact c v same kept =
    let p = err_from_is_err_and c.from_residual-in_err-chains.result c.from_residual-in_err-chains.ensures.1 in
    let some : buckets v < page_count v = rw same (omega (arith, c.requires.in_range.enough)) in
    rw (p.1, p.2)
    (links_told v c.args.table.now.entries.items c.args.table.now.pairs.items c.args.faults.now some kept
    (rw same c.in_ok-of_heads.ensures.fault) c.in_err-chains.field-0.0
    (subst (λ (l : Links). IsMemoryOr c.in_err-chains.field-0.0 (first_fault_of (link_rows l)))
    (links_are v c.args.table.now.entries.items c.args.header.now c.args.table.now.pairs.items c.args.faults.now
    same kept) c.in_err-chains.ensures.fault))

pub returns-in_err-of_slots-clause-exact : goal.returns-in_err-of_slots-clause-exact
returns-in_err-of_slots-clause-exact c v same kept =
    let p = err_from_is_err_and c.from_residual-in_err-of_slots.result c.from_residual-in_err-of_slots.ensures.1 in
    let some : buckets v < page_count v = rw same (omega (arith, c.requires.in_range.enough)) in
    rw (p.1, p.2)
    (slots_told v c.args.table.now.entries.items c.args.table.now.pairs.items c.args.faults.now some kept
    (rw same c.in_ok-of_heads.ensures.fault)
    (links_fine
    (links_are v c.args.table.now.entries.items c.args.header.now c.args.table.now.pairs.items c.args.faults.now
    same kept) c.in_ok-chains.ensures.faultless)
    c.in_err-of_slots.field-0.0 c.in_err-of_slots.ensures.fault)

pub least_misfit-requires-clause-few : goal.least_misfit-requires-clause-few
least_misfit-requires-clause-few c =
    let made = c.in_ok-chains.ensures.chains in
    let size : length c.in_ok-chains.chains.items ≡ c.args.header.now.buckets =
    sym (length-map c.in_ok-chains.chains.items (λ (chain : Vec ℕ Global). chain.items)) ∙ ap length made
    ∙ length-map-range_with_len (chain (next_in c.args.table.now.entries.items) (length c.args.table.now.entries.items))
    0 c.args.header.now.buckets in
    rw c.deref-2.ensures.value (omega (arith, size, c.requires.in_range.to_max, c.requires.in_range.settings.max.1))

pub returns-in-Ok-clause-exact : goal.returns-in-Ok-clause-exact
returns-in-Ok-clause-exact c v same kept =
    let entries : List PageEntry = c.args.table.now.entries.items in
    let linked = links_are v entries c.args.header.now c.args.table.now.pairs.items c.args.faults.now same kept in
    let fine : AreFine v entries c.args.table.now.pairs.items c.args.faults.now = record {
      some = rw same (omega (arith, c.requires.in_range.enough));
      kept = kept;
      heads = rw same c.in_ok-of_heads.ensures.fault;
      linked = links_fine linked c.in_ok-chains.ensures.faultless;
      slots = c.in_ok-of_slots.ensures.fault;
    } in
    let filled = rw c.deref.ensures.value at c.in_ok-lists.ensures.ok in
    let chains =
    chains_are v (links_in entries c.args.header.now.buckets) c.in_ok-chains.chains.items linked
    c.in_ok-chains.ensures.chains in
    let lists =
    listing_is v entries c.args.table.now.pairs.items c.args.faults.now fine c.in_ok-chains.chains.items
    (map (λ (v : Vec Pair Global). v.items) c.in_ok-lists.lists.items) chains filled in
    let is =
    whole_is v.header c.args.header.now (map (λ (v : Vec Pair Global). v.items) c.in_ok-lists.lists.items)
    (listing_of v) c.in-Ok.listing same c.in-Ok.ensures.ok lists in
    let none =
    none_misfit v (covered v entries c.args.table.now.pairs.items c.args.faults.now fine)
    (subst IsListing is c.in-Ok.ensures.kept) in
    (listing_of v, read_whole v entries c.args.table.now.pairs.items c.args.faults.now fine none, is)

pub returns-in-Some-clause-exact : goal.returns-in-Some-clause-exact
returns-in-Some-clause-exact c v same kept =
    let entries : List PageEntry = c.args.table.now.entries.items in
    let linked = links_are v entries c.args.header.now c.args.table.now.pairs.items c.args.faults.now same kept in
    let fine : AreFine v entries c.args.table.now.pairs.items c.args.faults.now = record {
      some = rw same (omega (arith, c.requires.in_range.enough));
      kept = kept;
      heads = rw same c.in_ok-of_heads.ensures.fault;
      linked = links_fine linked c.in_ok-chains.ensures.faultless;
      slots = c.in_ok-of_slots.ensures.fault;
    } in
    let found = rw c.deref-2.ensures.value at c.in_ok-page.ensures.least in
    let chains =
    chains_are v (links_in entries c.args.header.now.buckets) c.in_ok-chains.chains.items linked
    c.in_ok-chains.ensures.chains in
    let misfit =
    misfit_is v entries c.args.table.now.pairs.items c.args.faults.now fine c.root-root.result
    c.in_ok-chains.chains.items c.in_ok-page.field-0 (rw same c.root-root.ensures.value) chains found in
    misfit_told v entries c.args.table.now.pairs.items c.args.faults.now fine c.in-Some.page (misfit ∙ c.in-Some.is)
