use Rattle.std.proofs.Common.{◌≡◌, length, length-take, take, arith}
use Rattle.lh_image.specs.Layout.{view_of}
use Rattle.lh_image.specs.View.{next}
use Rattle.lh_image.proofs.Looking.Apart.{apart_more, next_own}
use Rattle.lh_image.proofs.checked.apart.are_apart.Goals as goal

pub loop-bucket-preserved : goal.loop-bucket-preserved
loop-bucket-preserved c =
    let bytes = c.args.bytes.now in
    let long : length c.chain_into.new.chain ≡ 64 = c.chain_into.array_long in
    record {
      size = long;
      few = omega (arith, c.loop-bucket.invariant.few, c.in-Some.ensures.few);
      apart = λ is pages.
          apart_more bytes c.loop-bucket.bucket c.loop-bucket.count c.in-Some.own (length c.args.index.now)
          (take c.in-Some.own c.chain_into.new.chain) pages (c.loop-bucket.invariant.apart is pages)
          (c.in-Some.ensures.path (next (view_of bytes)) (next_own bytes c.args.version c.args.index.now is))
          c.in-Some.ensures.within (c.is_apart.ensures is c.if-not-is_apart.false)
          (omega (arith, length-take c.in-Some.own c.chain_into.new.chain, long, c.in-Some.ensures.few));
    }
