use Rattle.std.proofs.Common.{ℕ, ◌++◌, Some, ap}
use Rattle.lh_image.specs.Canonical.{canonical}
use Rattle.lh_image.specs.declared.version.Version.TheVariants.{Two}
use Rattle.lh_serving.specs.Texts.{answer_line}
use Rattle.lh_serving.specs.declared.answer.LineAnswer.TheVariants as answer
use Rattle.lh_serving.proofs.CallsServed.{copied}
use Rattle.lh_serving.proofs.serving.imaged.Goals as goal

pub returns-in-Ok-image_len-clause-ok : goal.returns-in-Ok-image_len-clause-ok
returns-in-Ok-image_len-clause-ok c = λ k n b file h. record {
  listing = c.in-Ok.listing;
  listed = copied c.args.world.now n b file c.in-Ok.listing h c.in-Ok.ensures.listed;
  fits = c.in-Ok-image_len.ensures.ok.0;
  text = ap (λ (m : ℕ). answer_line k (Some (answer.Image m)) ++ canonical Two c.in-Ok.listing)
      c.in-Ok-image_len.ensures.ok.1;
}

pub returns-in-Err-clause-err : goal.returns-in-Err-clause-err
returns-in-Err-clause-err c =
    λ n b file h.
    (c.in-Ok.listing, copied c.args.world.now n b file c.in-Ok.listing h c.in-Ok.ensures.listed, c.in-Err.ensures.err)
