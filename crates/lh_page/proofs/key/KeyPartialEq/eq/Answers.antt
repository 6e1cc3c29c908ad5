use Rattle.std.proofs.Common.{sym, ◌∙◌}
use Rattle.lh_page.proofs.Words.{eq_told}
use Rattle.lh_page.proofs.key.KeyPartialEq.eq.Goals as goal

pub returns-then-len : goal.returns-then-len
returns-then-len c =
    let told = c.is_same.ensures in
    let long = sym c.len.ensures ∙ (c.if-len.true ∙ c.len-2.ensures) in
    let a = c.row.ensures in
    let b = c.row-then-len.ensures in
    rw (← c.self.view_is, ← c.other.view_is)
    (eq_told c.is_same.result _ _ _ _ told.same told.other long a.front b.front a.whole b.whole)
