use Rattle.std.proofs.Common.{rules, ◌≡◌, ◌<◌, ◌≤◌, ◌+◌, length, get_or, replicate, sym, ◌∙◌, arith, length-set}
use Rattle.std.proofs.lemmas.List.{length-replicate, get_or_default}
use Rattle.lh_image.specs.Table.{next_in}
use Rattle.lh_image.proofs.Judging.Tables.{named_none, named_set, named_kept, named_few}
use Rattle.lh_image.proofs.judge.links.count_names.Goals.{then-next-len, else-next-len}
use Rattle.lh_image.proofs.judge.links.count_names.Goals as goal

pub loop-page-init : goal.loop-page-init
loop-page-init c =
    let e : c.in_ok-counts.counts.items ≡ replicate (length c.args.entries.now) 0 = search rules in
    record {
      size = rw e (length-replicate (length c.args.entries.now) 0);
      named = λ p l. rw e (named_none (next_in c.args.entries.now) (length c.args.entries.now) p);
    }

pub overflow_add-index_mut : goal.overflow_add-index_mut
overflow_add-index_mut c =
    let within : c.next_of-next.result < length c.loop-page.counts.items = search rules in
    let at : c.index_mut.result.now ≡ get_or c.loop-page.counts.items c.next_of-next.result 0 =
    c.index_mut.ensures.value
    ∙ get_or_default c.loop-page.counts.items c.next_of-next.result c.index_mut.result.now 0 within in
    let named = c.loop-page.invariant.named c.next_of-next.result (omega arith) in
    let few = named_few (next_in c.args.entries.now) c.loop-page.page c.next_of-next.result in
    omega (arith, at, named, few)

pub loop-page-preserved : goal.loop-page-preserved
loop-page-preserved c = elim c.if-next-len.branch [
  | then-next-len w ↦
      let within : c.next_of-next.result < length c.loop-page.counts.items = search rules in
      let at : w.index_mut.result.now ≡ get_or c.loop-page.counts.items c.next_of-next.result 0 =
      w.index_mut.ensures.value
      ∙ get_or_default c.loop-page.counts.items c.next_of-next.result w.index_mut.result.now 0 within in
      let size : length c.loop-page.counts.items ≡ length c.args.entries.now = c.loop-page.invariant.size in
      rw w.counts-is (record {
        size = length-set c.loop-page.counts.items c.next_of-next.result (w.index_mut.result.now + 1) ∙ size;
        named =
            λ p l.
            named_set (next_in c.args.entries.now) c.loop-page.counts.items c.loop-page.page c.next_of-next.result
            (w.index_mut.result.now + 1) (sym c.next_of-next.ensures) within
            (omega arith) (λ q m. c.loop-page.invariant.named q (omega arith)) p (omega arith);
      })
  | else-next-len w ↦
      let size : length c.loop-page.counts.items ≡ length c.args.entries.now = c.loop-page.invariant.size in
      let high : length c.args.entries.now ≤ c.next_of-next.result = search (rules, size) in
      rw w.counts-is (record {
        size = size;
        named =
            λ p l.
            c.loop-page.invariant.named p l
            ∙ sym
            (named_kept (next_in c.args.entries.now) c.loop-page.page p c.next_of-next.result
            (sym c.next_of-next.ensures) (omega arith));
      })
]
