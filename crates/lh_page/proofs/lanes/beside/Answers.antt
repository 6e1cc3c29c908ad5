use Rattle.std.proofs.Common.{◌≡◌, ◌-◌, ◌*◌, ◌%◌, ◌^◌, bit_or, sym, subst, arith}
use Rattle.std.specs.Int.{bit_at}
use Rattle.lh_page.proofs.Masks.{bit_at-front, bit_at-back}
use Rattle.lh_page.proofs.lanes.beside.Goals as goal

pub returns-clause-front : goal.returns-clause-front
returns-clause-front c i low =
    let fits : c.args.back * 2 ^ c.args.width % 2 ^ 64 ≡ c.args.back * 2 ^ c.args.width = omega arith in
    subst (λ n. bit_at (bit_or c.args.front n) i ≡ bit_at c.args.front i) (sym fits)
    (bit_at-front c.args.front c.args.back c.args.width i low)

pub returns-clause-back : goal.returns-clause-back
returns-clause-back c i high =
    let fits : c.args.back * 2 ^ c.args.width % 2 ^ 64 ≡ c.args.back * 2 ^ c.args.width = omega arith in
    subst (λ n. bit_at (bit_or c.args.front n) i ≡ bit_at c.args.back (i - c.args.width)) (sym fits)
    (bit_at-back c.args.front c.args.back c.args.width i c.requires.front high)
