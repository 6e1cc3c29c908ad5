use Rattle.std.proofs.Common.{rules, ◌≡◌, ◌-◌, length, ◌++◌, refl, sym, ◌∙◌, arith}
use Rattle.lh_image.specs.Chains.{pages_from}
use Rattle.lh_image.specs.Table.{next_in}
use Rattle.lh_image.proofs.Judging.Tables.{chain_step, chain_zero, chain_none}
use Rattle.lh_image.proofs.judge.chains.chain_from.Goals.{else-loop-test, then-loop-test+then-page-eq0}
use Rattle.lh_image.proofs.judge.chains.chain_from.Goals as goal

pub loop-init : goal.loop-init
loop-init c =
    let z : length c.args.entries.now - 0 ≡ length c.args.entries.now = omega arith in
    rw (c.new-pages.ensures.items, z) refl

pub loop-preserved : goal.loop-preserved
loop-preserved c =
    rw (c.in_ok-push.ensures.items, c.next_of-page.ensures)
    (chain_step (next_in c.args.entries.now) c.loop.pages.items (length c.args.entries.now) c.loop.counter c.loop.page
    (omega arith) (search rules) ∙ c.loop.invariant)

pub returns-clause-ok : goal.returns-clause-ok
returns-clause-ok c = elim c.loop-test.branch [
  | else-loop-test w ↦
      let k : length c.args.entries.now - c.loop.counter ≡ 0 = omega arith in
      let e : c.loop.pages.items ++ pages_from (next_in c.args.entries.now) 0 c.loop.page ≡
      pages_from (next_in c.args.entries.now) (length c.args.entries.now) c.args.first =
      rw k at c.loop.invariant in
      sym (chain_none (next_in c.args.entries.now) c.loop.pages.items c.loop.page) ∙ e
  | then-loop-test+then-page-eq0 w ↦
      let z : c.loop.page ≡ 0 = search rules in
      let e : c.loop.pages.items
      ++ pages_from (next_in c.args.entries.now) (length c.args.entries.now - c.loop.counter) 0 ≡
      pages_from (next_in c.args.entries.now) (length c.args.entries.now) c.args.first =
      rw z at c.loop.invariant in
      sym (chain_zero (next_in c.args.entries.now) c.loop.pages.items (length c.args.entries.now - c.loop.counter)) ∙ e
]
