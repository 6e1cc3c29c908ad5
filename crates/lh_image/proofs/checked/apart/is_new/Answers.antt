use Rattle.std.proofs.Common.{◌≡◌, ℕ, ◌<◌, List, get_or, not, ap, ◌∙◌, arith, sym}
use Rattle.lh_addr.specs.Fnv.{code_of}
use Rattle.lh_page.specs.declared.format.Format.{Format}
use Rattle.lh_page.specs.PageFields.{pair_of, used_of}
use Rattle.lh_page.specs.PageTable.{slot}
use Rattle.lh_image.specs.Checked.{code_mark}
use Rattle.lh_image.specs.Indexed.{IsGoodPage}
use Rattle.lh_image.specs.Layout.{page}
use Rattle.lh_image.specs.LookUp.{first_pairs}
use Rattle.lh_image.specs.Plain.{keys_on}
use Rattle.lh_image.specs.Version.{format_of, version_of}
use Rattle.lh_page.specs.Records.{keys_of}
use Rattle.std.proofs.Common.{subst}
use Rattle.lh_image.proofs.Looking.Apart.{good_here, none_joined, slot_none, slots_few}
use Rattle.lh_image.proofs.Looking.Steps.{page_size_is}
use Rattle.lh_image.proofs.checked.apart.is_new.Goals as goal

pub slot_at-slot-requires-clause-size : goal.slot_at-slot-requires-clause-size
slot_at-slot-requires-clause-size c =
    page_size_is c.args.version c.format-format.result _ c.in-Some-page_in.ensures.size c.format-format.ensures

pub place_among-requires-clause-size : goal.place_among-requires-clause-size
place_among-requires-clause-size c =
    page_size_is c.args.version c.format-format.result _ c.in-Some-page_in.ensures.size c.format-format.ensures

pub returns-then-lack : goal.returns-then-lack
returns-then-lack c is low none =
    let pe = c.in-Some-page_in.ensures.page is.own in
    let good =
    good_here c.args.bytes.now c.args.version c.args.index.now c.args.number c.format-format.result
    c.in-Some-page_in.page.now c.in-Some.entry.now is c.in-Some.ensures.from c.in-Some.ensures.below
    c.format-format.ensures pe c.in-Some.ensures.entry in
    let f : Format = c.format-format.result in
    let pg : List ℕ = c.in-Some-page_in.page.now in
    let below : c.args.place < used_of pg = omega (arith, low, ap used_of pe) in
    let key : (pair_of f (slot f pg c.args.place)).key ≡ c.key_in-key.result.now =
    sym (c.key_in-key.ensures ∙ ap (λ t. (pair_of f t).key) c.slot_at-slot.ensures.slot) in
    let mark : get_or c.in-Some.entry.now.marks c.args.place 0 ≡ code_mark (code_of c.key_in-key.result.now) =
    good.kept.marks c.args.place below ∙ ap (λ k. code_mark (code_of k)) key in
    slot_none c.args.bytes.now c.args.version c.args.index.now c.args.before.now c.args.number c.args.place
    c.format-format.result c.in-Some-page_in.page.now c.slot_at-slot.result.now c.key_in-key.result.now
    c.place_among.result is c.format-format.ensures pe c.slot_at-slot.ensures.slot c.key_in-key.ensures
    (c.lack.ensures is mark c.if-lack.true)
    (c.place_among.ensures.found good (omega (arith, below)) mark) (c.is_none.ensures ∙ ap not none)

pub returns-then-lacks_mark : goal.returns-then-lacks_mark
returns-then-lacks_mark c is low _ =
    let bytes : List ℕ = c.args.bytes.now in
    let f : Format = format_of (version_of bytes) in
    let pg : List ℕ = page bytes c.args.number in
    let key : List ℕ = (pair_of f (slot f pg c.args.place)).key in
    let good : IsGoodPage f pg c.in-Some.entry.now =
    subst (IsGoodPage f pg) (sym c.in-Some.ensures.entry)
    (is.good c.args.number c.in-Some.ensures.from c.in-Some.ensures.below) in
    let mark : get_or c.in-Some.entry.now.marks c.args.place 0 ≡ code_mark (code_of key) =
    good.kept.marks c.args.place low in
    none_joined key (keys_on bytes c.args.before.now) (keys_of (first_pairs f pg c.args.place))
    (c.lack_mark.ensures bytes c.args.version key is mark c.if-lack_mark.true)
    (c.lacks_mark.ensures f pg key good (slots_few (version_of bytes)) (omega (arith, low)) mark c.if-lacks_mark.true)
