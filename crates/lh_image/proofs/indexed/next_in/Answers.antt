use Rattle.std.proofs.Common.{◌≡◌, ◌/◌, ◌%◌, ◌<◌, refl, ap, subst, ◌∙◌, inl, inr, arith}
use Rattle.std.proofs.lemmas.Bool.{cases_lt, false≢true}
use Rattle.lh_page.specs.declared.format.Format.{Format}
use Rattle.lh_page.specs.PageFields.{pair_of}
use Rattle.lh_page.specs.PageTable.{slot}
use Rattle.lh_image.specs.declared.header.Header.{Header}
use Rattle.lh_image.specs.Indexed.{HasRecordAt}
use Rattle.lh_image.specs.Layout.{page}
use Rattle.lh_image.specs.Version.{format_of, page_bytes}
use Rattle.lh_image.proofs.Looking.Indexed.{kept_fits, kept_good, kept_used, not_first, place_below}
use Rattle.lh_image.proofs.Looking.Steps.{format_is, page_fits, page_size_is, version_is}
use Rattle.lh_image.proofs.indexed.next_in.Goals as goal

pub returns-in_default : goal.returns-in_default
returns-in_default c header root same checked =
    let at = c.loop-at.at in
    let high : at / 24 < header.pages =
    place_below at c.min-pages.result header.pages c.loop-at-test.true
    (omega (arith, c.min-pages.ensures, checked.pages.size)) in
    absurd
    (false≢true
    (c.in_default.ensures.there
    (page_fits c.args.bytes.now header root checked.opened (page_bytes c.args.version) (at / 24) (ap page_bytes same)
    high)))

pub record_at-requires-clause-size : goal.record_at-requires-clause-size
record_at-requires-clause-size c =
    page_size_is c.args.version c.format-format.result _ c.in-Some.ensures.size c.format-format.ensures

pub returns-in-Ok : goal.returns-in-Ok
returns-in-Ok c header root same checked =
    let at = c.loop-at.at in
    let bytes = c.args.bytes.now in
    let low = not_first (at / 24) c.used_in.result (at % 24) c.used_in.ensures.first c.if-place-used_in.true in
    let high : at / 24 < header.pages =
    place_below at c.min-pages.result header.pages c.loop-at-test.true
    (omega (arith, c.min-pages.ensures, checked.pages.size)) in
    let fe = c.format-format.ensures ∙ ap format_of same in
    let pe = c.in-Some.ensures.page (same ∙ version_is bytes header root checked.opened) in
    let format = format_is bytes header root checked.opened c.format-format.result fe in
    let one = c.image_is_of_only_listing.ensures in
    let kept =
    kept_used one bytes header root c.args.index.now checked (at / 24) low high c.format-format.result
    (page bytes (at / 24)) fe refl in
    let fits =
    kept_fits one bytes header root c.args.index.now checked (at / 24) low high c.format-format.result
    (page bytes (at / 24)) fe refl in
    let own = c.used_in.ensures.kept low (omega (arith, kept, fits)) in
    record {
      placed = record {
        from = low;
        below = subst (λ n. at / 24 < n) (ap (λ (h : Header). h.pages) checked.opened.fields) high;
        used = omega (arith, own, kept, c.if-place-used_in.true);
      };
      behind = omega arith;
      key_is =
          c.in-Ok.ensures.key
          ∙ ap (λ b. (pair_of c.format-format.result (slot c.format-format.result b (at % 24))).key) pe
          ∙ ap (λ (g : Format). (pair_of g (slot g (page bytes (at / 24)) (at % 24))).key) format;
      value_is =
          c.in-Ok.ensures.value
          ∙ ap (λ b. (pair_of c.format-format.result (slot c.format-format.result b (at % 24))).value) pe
          ∙ ap (λ (g : Format). (pair_of g (slot g (page bytes (at / 24)) (at % 24))).value) format;
      first = c.loop-at.invariant header root same checked;
    }

pub returns-in-Err : goal.returns-in-Err
returns-in-Err c header root same checked =
    let at = c.loop-at.at in
    let bytes = c.args.bytes.now in
    let low = not_first (at / 24) c.used_in.result (at % 24) c.used_in.ensures.first c.if-place-used_in.true in
    let high : at / 24 < header.pages =
    place_below at c.min-pages.result header.pages c.loop-at-test.true
    (omega (arith, c.min-pages.ensures, checked.pages.size)) in
    let fe = c.format-format.ensures ∙ ap format_of same in
    let pe = c.in-Some.ensures.page (same ∙ version_is bytes header root checked.opened) in
    let one = c.image_is_of_only_listing.ensures in
    let kept =
    kept_used one bytes header root c.args.index.now checked (at / 24) low high c.format-format.result
    c.in-Some.page.now fe pe in
    let fits =
    kept_fits one bytes header root c.args.index.now checked (at / 24) low high c.format-format.result
    c.in-Some.page.now fe pe in
    let own = c.used_in.ensures.kept low (omega (arith, kept, fits)) in
    absurd
    (false≢true
    (c.in-Err.ensures.good
    (kept_good one bytes header root c.args.index.now checked (at / 24) low high c.format-format.result
    c.in-Some.page.now fe pe (at % 24)
    (omega (arith, own, kept, c.if-place-used_in.true)))))

pub loop-at-preserved : goal.loop-at-preserved
loop-at-preserved c header root same checked i from less placed = elim (cases_lt i c.loop-at.at) [
  | inl before ↦ c.loop-at.invariant header root same checked i from before placed
  | inr there ↦
      let at = c.loop-at.at in
      let bytes = c.args.bytes.now in
      let e : i ≡ at = omega arith in
      let p = subst (HasRecordAt bytes) e placed in
      let fe = c.format-format.ensures ∙ ap format_of same in
      let one = c.image_is_of_only_listing.ensures in
      let high : at / 24 < header.pages =
      place_below at c.min-pages.result header.pages c.loop-at-test.true
      (omega (arith, c.min-pages.ensures, checked.pages.size)) in
      let kept =
      kept_used one bytes header root c.args.index.now checked (at / 24) p.from high c.format-format.result
      (page bytes (at / 24)) fe refl in
      let fits =
      kept_fits one bytes header root c.args.index.now checked (at / 24) p.from high c.format-format.result
      (page bytes (at / 24)) fe refl in
      let own = c.used_in.ensures.kept p.from (omega (arith, kept, fits)) in
      omega (arith, own, kept, p.used, c.if-place-used_in.false)
]
