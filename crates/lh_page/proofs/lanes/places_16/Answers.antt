use Rattle.std.proofs.Common.{◌≡◌, ◌↔◌, ℕ, ◌<◌, ◌^◌, List, eqb, length, map, take, get_or, sym, subst, arith, w8}
use Rattle.std.proofs.Common.{length-take-le}
use Rattle.std.specs.Int.{bit_at}
use Rattle.std.proofs.lemmas.List.{get_or-take}
use Rattle.std.proofs.lemmas.Simd.{bitmask_splat}
use lib.Lanes.{mask_l}
use Rattle.lh_page.proofs.Masks.{bit_at-mask, mask-lt}
use Rattle.lh_page.proofs.lanes.places_16.Goals as goal

pub returns-clause-few : goal.returns-clause-few
returns-clause-few c =
    let xs : List ℕ = take 16 c.args.row.now in
    let long : length xs ≡ 16 = length-take-le 16 c.args.row.now c.requires in
    subst (λ m. m < 2 ^ 16) (sym (bitmask_splat w8 eqb xs 16 c.args.byte long (omega arith)))
    (mask-lt xs c.args.byte 16 long)

pub returns-clause-places : goal.returns-clause-places
returns-clause-places c i low =
    let xs : List ℕ = take 16 c.args.row.now in
    let long : length xs ≡ 16 = length-take-le 16 c.args.row.now c.requires in
    subst (λ m. (bit_at m i ≡ 1) ↔ (get_or c.args.row.now i 0 ≡ c.args.byte))
    (sym (bitmask_splat w8 eqb xs 16 c.args.byte long (omega arith)))
    (subst (λ x. (bit_at (mask_l (map (λ x. eqb x c.args.byte) xs)) i ≡ 1) ↔ (x ≡ c.args.byte))
    (get_or-take 16 c.args.row.now i 0 low) (bit_at-mask xs c.args.byte i (omega (arith, long, low))))
