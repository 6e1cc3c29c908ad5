use Rattle.std.proofs.Common.{◌≡◌, suc, ◌+◌, inr, sym, subst, arith}
use Rattle.lh_image.specs.Layout.{view_of}
use Rattle.lh_image.specs.LookUp.{look_up}
use Rattle.lh_subcommands.specs.Get.{found_in, look_up_reply}
use Rattle.lh_subcommands.proofs.Getting.{AreMade, from-end, from-place, made-all, made-error, made-more}
use Rattle.lh_subcommands.proofs.get.find_each.Goals as goal

pub returns-in-Err-clause-err : goal.returns-in-Err-clause-err
unfolding found_in
returns-in-Err-clause-err c =
    inr (made-error (λ k. look_up_reply (look_up (view_of c.args.image.now) k))
    c.args.keys.now _ _ _ _ c.loop-key.invariant
    (from-place c.args.keys.now c.loop-key.key-index c.key-item.result (omega arith) c.key-item.is)
    (sym c.in-Err.ensures))

pub loop-key-preserved : goal.loop-key-preserved
loop-key-preserved c =
    let next : suc c.loop-key.key-index ≡ c.loop-key.key-index + 1 = omega arith in
    subst (λ n. AreMade (λ k. look_up_reply (look_up (view_of c.args.image.now) k))
    c.args.keys.now n c.push.new.self.items)
    next
    (subst (AreMade (λ k. look_up_reply (look_up (view_of c.args.image.now) k))
    c.args.keys.now (suc c.loop-key.key-index))
    (sym c.in-Ok-push.ensures.items)
    (made-more (λ k. look_up_reply (look_up (view_of c.args.image.now) k)) c.args.keys.now c.loop-key.key-index
    c.loop-key.replies.items c.key-item.result c.in-Ok.reply c.loop-key.invariant
    (from-place c.args.keys.now c.loop-key.key-index c.key-item.result (omega arith) c.key-item.is)
    (sym c.in-Ok.ensures)))

pub returns-clause-ok : goal.returns-clause-ok
unfolding found_in
returns-clause-ok c =
    made-all (λ k. look_up_reply (look_up (view_of c.args.image.now) k)) c.args.keys.now _ _ c.loop-key.invariant
    (from-end c.args.keys.now _ (omega arith))
