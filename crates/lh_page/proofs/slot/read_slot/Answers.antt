use Rattle.std.proofs.Common.{◌≡◌, ◌+◌, ◌-◌, false, length, drop, refl, arith}
use Rattle.std.proofs.lemmas.List.{length-take}
use Rattle.lh_page.specs.PageFields.{key_length, value_length, is_bad_record}
use Rattle.lh_page.proofs.SlotText.{good_from}
use Rattle.lh_page.proofs.Zeros.{found_clear}
use Rattle.lh_page.proofs.slot.read_slot.Goals as goal

sound : (c : goal.In-Ok-new) → is_bad_record c.args.format c.args.bytes.now ≡ false
sound c =
    let s = c.args.bytes.now in
    let f = c.args.format in
    let some = (c.in-Ok.ensures.variant.0 refl).0 in
    good_from f s (record {
      some = omega (arith, some, length-take (2 + key_length s - 2) (drop 2 s));
      key = omega arith;
      value = omega arith;
      behind_key = found_clear s 2 (2 + f.key) (key_length s) f.key _ refl c.is_zero.ensures c.if-not-is_zero.false;
      behind_value =
          found_clear s (2 + f.key) (length s) (value_length s) f.value _ c.requires.size
          c.is_zero-else-not-is_zero.ensures c.if-not-is_zero-2.false;
    })

pub returns : goal.returns
returns c =
    let s = c.args.bytes.now in
    let f = c.args.format in
    let key : 2 + key_length s - 2 ≡ key_length s = omega arith in
    let value : 2 + f.key + value_length s - (2 + f.key) ≡ value_length s = omega arith in
    rw (sound c, c.in-Ok.ensures.ok, c.in-Ok-new.ensures.ok, key, value) refl
