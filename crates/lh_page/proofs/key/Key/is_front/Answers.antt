use Rattle.std.proofs.Common.{◌≡◌, length, take, ap, ◌∙◌, sym, arith}
use Rattle.std.proofs.lemmas.List.{length-take}
use Rattle.lh_page.proofs.Words.{front_told}
use Rattle.lh_page.proofs.key.Key.is_front.Goals as goal

pub returns-then-len : goal.returns-then-len
returns-then-len c =
    let row = c.row.result.now in
    let n = c.args.len in
    let same : n ≡ length c.self.inside.bytes = sym c.if-len.true ∙ c.len.ensures in
    let front = ap (λ n. take n row) same ∙ c.row.ensures.front in
    front_told c.starts_alike.result n row c.args.bytes.now c.args.self.now
    (omega (arith, ap length front, length-take n row, same))
    (omega (arith, same, c.self.invariant.1)) (front ∙ c.self.view_is) c.starts_alike.ensures.same
    c.starts_alike.ensures.other
