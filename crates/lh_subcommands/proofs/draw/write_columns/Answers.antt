use Rattle.std.proofs.Common.{◌≡◌, ◌∙◌, true, false, ap, sym}
use Rattle.std.proofs.lemmas.Result.{on_ok_weaker}
use Rattle.lh_bucket.specs.Listing.{size}
use Rattle.lh_draw.specs.Columns.{is_detailed}
use Rattle.lh_subcommands.proofs.Sending.{on_err_weaker}
use Rattle.lh_subcommands.proofs.Turns.{columns_of_few, columns_of_many, text_sent, text_stopped}
use Rattle.lh_subcommands.proofs.draw.write_columns.Goals as goal

pub returns-then-is_detailed-clause-ok : goal.returns-then-is_detailed-clause-ok
returns-then-is_detailed-clause-ok g c before sent h =
    let tested : is_detailed (size c.args.listing.now) ≡ true =
    ap is_detailed (sym c.buckets.ensures.value) ∙ sym c.is_detailed.ensures ∙ c.if-is_detailed.true in
    on_ok_weaker c.write_chains.result (text_sent before _ _ sent _ _ (columns_of_few c.args.listing.now tested))
    (c.write_chains.ensures.ok before sent h)

pub returns-then-is_detailed-clause-err : goal.returns-then-is_detailed-clause-err
returns-then-is_detailed-clause-err g c before sent h =
    let tested : is_detailed (size c.args.listing.now) ≡ true =
    ap is_detailed (sym c.buckets.ensures.value) ∙ sym c.is_detailed.ensures ∙ c.if-is_detailed.true in
    on_err_weaker c.write_chains.result (text_stopped before _ sent _ _ (columns_of_few c.args.listing.now tested))
    (c.write_chains.ensures.err before sent h)

pub returns-else-is_detailed-clause-ok : goal.returns-else-is_detailed-clause-ok
returns-else-is_detailed-clause-ok g c before sent h =
    let tested : is_detailed (size c.args.listing.now) ≡ false =
    ap is_detailed (sym c.buckets.ensures.value) ∙ sym c.is_detailed.ensures ∙ c.if-is_detailed.false in
    on_ok_weaker c.write_groups.result (text_sent before _ _ sent _ _ (columns_of_many c.args.listing.now tested))
    (c.write_groups.ensures.ok before sent h)

pub returns-else-is_detailed-clause-err : goal.returns-else-is_detailed-clause-err
returns-else-is_detailed-clause-err g c before sent h =
    let tested : is_detailed (size c.args.listing.now) ≡ false =
    ap is_detailed (sym c.buckets.ensures.value) ∙ sym c.is_detailed.ensures ∙ c.if-is_detailed.false in
    on_err_weaker c.write_groups.result (text_stopped before _ sent _ _ (columns_of_many c.args.listing.now tested))
    (c.write_groups.ensures.err before sent h)
