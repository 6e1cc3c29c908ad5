use Rattle.std.proofs.Common.{rules, [], length-set, subst, take, ◌∙◌, arith}
use Rattle.std.proofs.lemmas.Bool.{false≢true}
use Rattle.std.proofs.lemmas.List.{append-nil}
use Rattle.lh_image.specs.Chains.{IsPath, stands_in}
use Rattle.lh_image.proofs.Looking.Apart.{path_more, within_more}
use Rattle.lh_image.proofs.checked.apart.chain_into.Goals as goal

pub loop-count-init : goal.loop-count-init
unfolding stands_in
loop-count-init c = record {
  size = search rules;
  within = λ p here. absurd (false≢true here);
  path = λ leads rest own path. path;
}

pub loop-count-preserved : goal.loop-count-preserved
loop-count-preserved c =
    record {
      size = length-set c.loop-count.chain c.loop-count.count c.loop-count.page ∙ c.loop-count.invariant.size;
      within =
          within_more c.loop-count.chain c.loop-count.count c.loop-count.page _
          (omega (arith, c.loop-count.invariant.size)) c.in-Some.ensures.below c.loop-count.invariant.within;
      path = λ leads rest own path.
          path_more leads c.args.index.now c.loop-count.chain rest c.loop-count.count c.loop-count.page c.args.first
          c.in-Some.entry.now (omega (arith, c.loop-count.invariant.size)) own c.in-Some.ensures.from
          c.in-Some.ensures.below c.in-Some.ensures.entry path
          (λ more along. c.loop-count.invariant.path leads more own along);
    }

pub returns-then-page-eq0-clause-path : goal.returns-then-page-eq0-clause-path
returns-then-page-eq0-clause-path c leads own =
    subst (IsPath leads c.args.first) (append-nil (take c.loop-count.count c.loop-count.chain))
    (c.loop-count.invariant.path leads [] own c.if-page-eq0.true)
