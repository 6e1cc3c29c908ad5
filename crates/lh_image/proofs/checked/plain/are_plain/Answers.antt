use Rattle.std.proofs.Common.{◌∙◌, arith}
use Rattle.std.proofs.Common.{length-set}
use Rattle.lh_image.specs.Plain.{IsPut}
use Rattle.lh_image.proofs.Looking.Plain.{plain_first, plain_more}
use Rattle.lh_image.proofs.checked.plain.are_plain.Goals as goal

pub loop-page-init : goal.loop-page-init
loop-page-init c = record {
  size = length-set c.args.index.now 0 _ ∙ c.requires.size;
  few = omega arith;
  plain = plain_first c.args.bytes.now _;
}

pub loop-page-preserved : goal.loop-page-preserved
loop-page-preserved c =
    let put : IsPut c.args.bytes.now c.loop-page.page c.loop-page.index c.put_plain.new.index c.in-Some.used =
    c.in-Some.ensures.put in
    record {
      size = c.put_plain.ensures.size ∙ c.loop-page.invariant.size;
      few = omega (arith, c.loop-page.invariant.few, put.few);
      plain =
          plain_more c.args.bytes.now c.loop-page.page c.loop-page.index c.put_plain.new.index c.loop-page.sum
          c.in-Some.used (omega arith) (omega (arith, c.loop-page.invariant.size))
          c.loop-page.invariant.plain put;
    }
