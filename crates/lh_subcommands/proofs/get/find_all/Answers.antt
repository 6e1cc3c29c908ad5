use Rattle.std.proofs.Common.{◌≡◌, ◌∙◌, inl, inr, sym, ap}
use Rattle.std.proofs.lemmas.Result.{IfErr-weaker, IfOk-weaker}
use Rattle.lh_image.specs.Layout.{view_of}
use Rattle.lh_subcommands.specs.Get.{found_in, found_of, found_unless}
use Rattle.lh_subcommands.proofs.get.find_all.Goals as goal

pub returns-in-Ok-clause-ok : goal.returns-in-Ok-clause-ok
unfolding found_of
returns-in-Ok-clause-ok c =
    let is : found_of c.args.bytes.now c.args.keys.now ≡ found_in (view_of c.in-Ok.image) c.args.keys.now =
    ap (λ o. found_unless o (view_of c.args.bytes.now) c.args.keys.now) (sym c.in-Ok.ensures.fault)
    ∙ ap (λ b. found_in (view_of b) c.args.keys.now) (sym c.in-Ok.ensures.bytes) in
    IfOk-weaker c.find_each.result _ _ (λ replies h. is ∙ h) c.find_each.ensures.ok

pub returns-in-Ok-clause-err : goal.returns-in-Ok-clause-err
unfolding found_of
returns-in-Ok-clause-err c =
    let is : found_of c.args.bytes.now c.args.keys.now ≡ found_in (view_of c.in-Ok.image) c.args.keys.now =
    ap (λ o. found_unless o (view_of c.args.bytes.now) c.args.keys.now) (sym c.in-Ok.ensures.fault)
    ∙ ap (λ b. found_in (view_of b) c.args.keys.now) (sym c.in-Ok.ensures.bytes) in
    IfErr-weaker c.find_each.result _ _
    (λ fault h. elim h [ inl memory ↦ inl memory | inr said ↦ inr (is ∙ said) ]) c.find_each.ensures.err

pub returns-in-Err-clause-err : goal.returns-in-Err-clause-err
unfolding found_of
returns-in-Err-clause-err c =
    inr (ap (λ o. found_unless o (view_of c.args.bytes.now) c.args.keys.now) (sym c.in-Err.ensures.fault))
