use Rattle.std.proofs.Common.{◌∙◌, ◌++◌, ◌∷◌, [], List, map, sym, ap, take, arith}
use Rattle.std.proofs.lemmas.List.{length-map, map-append, take_more}
use Rattle.lh_page.specs.declared.pair.Pair.{Pair}
use Rattle.lh_settling.proofs.Away.{list_read}
use Rattle.lh_settling.proofs.closed_file.copied.Goals as goal

pub loop-list-preserved : goal.loop-list-preserved
loop-list-preserved c =
    let lists : List (List Pair) = map (λ v. v.items) c.args.lists.now in
    let n = c.loop-list.list-index in
    let list = list_read (λ v. v.items) c.args.lists.now n c.list-item.result c.loop-list-test.true c.list-item.is
    ∙ sym c.deref.ensures.value in
    ap (map (λ v. v.items)) c.in_ok-push.ensures.items
    ∙ map-append (λ v. v.items) c.loop-list.copies.items (c.in_ok-copy.copy ∷ [])
    ∙ ap (λ xs. xs ++ c.in_ok-copy.copy.items ∷ []) c.loop-list.invariant
    ∙ ap (λ x. take n lists ++ x ∷ []) (c.in_ok-copy.ensures.items ∙ sym list)
    ∙ sym (take_more lists n [] (omega (arith, c.loop-list-test.true, length-map c.args.lists.now (λ v. v.items))))
