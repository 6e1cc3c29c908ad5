use Rattle.std.proofs.Common.{◌≡◌, ℕ, map, Vec, Global, None, sym, ◌∙◌}
use Rattle.std.specs.List.{range_with_len}
use Rattle.lh_image.specs.Chains.{Links, chain}
use Rattle.lh_image.specs.Faults.{bad_next, named_twice, least}
use Rattle.lh_image.specs.Table.{links_in}
use Rattle.lh_image.proofs.Judging.LinkFaults.{links_next, links_twice, links_never, links_none, never_same}
use Rattle.lh_image.proofs.judge.listed.chains_of.Goals as goal

pub returns-in-Some-clause-fault : goal.returns-in-Some-clause-fault
returns-in-Some-clause-fault c =
    let l : Links = links_in c.args.table.now.entries.items c.args.header.now.buckets in
    links_next l c.in-Some.page (rw c.deref.ensures.value at (sym c.in-Some.is ∙ c.least_bad_next.ensures))

pub returns-in-Some-2-clause-fault : goal.returns-in-Some-2-clause-fault
returns-in-Some-2-clause-fault c =
    let l : Links = links_in c.args.table.now.entries.items c.args.header.now.buckets in
    let none : None ≡ least l.pages (bad_next l) =
    rw c.deref.ensures.value at (sym c.in_default.is ∙ c.least_bad_next.ensures) in
    links_twice l c.in-Some-2.page none
    (rw c.deref-2.ensures.value at (sym c.in-Some-2.is ∙ c.in_ok-page.ensures.least c.args.header.now.buckets))

pub returns-in-Some-3-clause-fault : goal.returns-in-Some-3-clause-fault
returns-in-Some-3-clause-fault c =
    let l : Links = links_in c.args.table.now.entries.items c.args.header.now.buckets in
    let none : None ≡ least l.pages (bad_next l) =
    rw c.deref.ensures.value at (sym c.in_default.is ∙ c.least_bad_next.ensures) in
    let once : None ≡ least l.pages (named_twice l) =
    rw c.deref-2.ensures.value at (sym c.in_default-2.is ∙ c.in_ok-page.ensures.least c.args.header.now.buckets) in
    let made : map (λ (chain : Vec ℕ Global). chain.items) c.in_ok-chains.chains.items ≡
    map (chain l.next l.pages) (range_with_len 0 l.heads) =
    rw c.deref-3.ensures.value at c.in_ok-chains.ensures.ok in
    let found = rw c.deref-4.ensures.value at (sym c.in-Some-3.is ∙ c.in_ok-page-2.ensures.least) in
    links_never l c.in-Some-3.page none once
    (found ∙ never_same l c.args.header.now.pages c.in_ok-chains.chains.items c.requires.size made)

pub returns-in-None-clause-faultless : goal.returns-in-None-clause-faultless
returns-in-None-clause-faultless c =
    let l : Links = links_in c.args.table.now.entries.items c.args.header.now.buckets in
    let none : None ≡ least l.pages (bad_next l) =
    rw c.deref.ensures.value at (sym c.in_default.is ∙ c.least_bad_next.ensures) in
    let once : None ≡ least l.pages (named_twice l) =
    rw c.deref-2.ensures.value at (sym c.in_default-2.is ∙ c.in_ok-page.ensures.least c.args.header.now.buckets) in
    let made : map (λ (chain : Vec ℕ Global). chain.items) c.in_ok-chains.chains.items ≡
    map (chain l.next l.pages) (range_with_len 0 l.heads) =
    rw c.deref-3.ensures.value at c.in_ok-chains.ensures.ok in
    let found = rw c.deref-4.ensures.value at (sym c.in-None.is ∙ c.in_ok-page-2.ensures.least) in
    links_none l none once
    (found ∙ never_same l c.args.header.now.pages c.in_ok-chains.chains.items c.requires.size made)
