use Rattle.std.proofs.Common.{◌∙◌, ◌++◌, List, map, sym, ap, subst, take, arith}
use Rattle.std.proofs.lemmas.List.{length-map, take_all}
use Rattle.lh_page.specs.declared.pair.Pair.{Pair}
use Rattle.lh_bucket.specs.Listing.{all_of}
use Rattle.lh_settling.specs.Tally.{IsTally}
use Rattle.lh_settling.proofs.Away.{list_read}
use Rattle.lh_settling.proofs.Histories.{all_of-more}
use Rattle.lh_settling.proofs.Tallies.{some_stray}
use Rattle.lh_settling.proofs.contents.first_stray.Goals as goal

pub loop-list-preserved : goal.loop-list-preserved
loop-list-preserved c =
    let lists : List (List Pair) = map (λ v. v.items) c.args.lists.now in
    let n = c.loop-list.list-index in
    let list = list_read (λ v. v.items) c.args.lists.now n c.list-item.result c.loop-list-test.true c.list-item.is
    ∙ sym c.deref.ensures.value in
    subst (λ ps. IsTally c.args.records ps c.tally-stray.new.records c.tally-stray.result)
    (ap (λ ps. all_of (take n lists) ++ ps) (sym list)
    ∙ sym (all_of-more lists n (omega (arith, c.loop-list-test.true, length-map c.args.lists.now (λ v. v.items)))))
    (c.tally-stray.ensures c.args.records (all_of (take n lists)) c.loop-list.invariant)

pub returns-in-Some-clause-some : goal.returns-in-Some-clause-some
returns-in-Some-clause-some c =
    let lists : List (List Pair) = map (λ v. v.items) c.args.lists.now in
    some_stray c.args.records lists c.loop-list.records c.loop-list.stray
    (subst (λ ls. IsTally c.args.records (all_of ls) c.loop-list.records c.loop-list.stray)
    (take_all c.loop-list.list-index lists
    (omega (arith, c.loop-list-test.false, length-map c.args.lists.now (λ v. v.items)))) c.loop-list.invariant)
    c.lesser.result c.in-Some.key c.lesser.ensures.either c.lesser.ensures.second c.lesser.ensures.first
    c.in-Some.ensures.there c.in-Some.ensures.least
